-- A run stays safe while one transaction more comes to the log, and when it is acknowledged.
use Rattle.std.proofs.Common.{◌≡◌, ◌⊎◌, inl, inr, ⊎_elim, ℕ, ◌<◌, ◌≤◌, List, [], ◌∷◌, ◌++◌, length, map, take, drop, IsTrue, sym, ◌∙◌, ap, subst, arith, length-append, take-append-drop}
use Rattle.std.specs.Prelude.{Contains}
use Rattle.std.proofs.lemmas.List.{take_all, take-append-le}
use Rattle.disk_model.specs.File.{File}
use Rattle.disk_model.specs.Disk.{Disk, now, contents, Keeps, Only}
use Rattle.disk_model.proofs.Moments.{both, weaker}
use Rattle.framed_file.specs.Framed.{IsPrefix}
use Rattle.row_format.specs.declared.change.Transaction.{Transaction}
use Rattle.binlog_file.specs.declared.binlog.Binlog.{Binlog}
use Rattle.binlog_file.specs.Logged.{log_of, Holds}
use Rattle.binlog_file.proofs.CallLemmas.{log_holds, more_high, less_low}
use Rattle.log_tables.specs.declared.gist.Gist.{Gist}
use Rattle.engine_api.specs.States.{Kind}
use Rattle.engine_api.specs.Reads.{EachReads}
use Rattle.recovery_rules.specs.Recovery.{IsRecoverable}
use Rattle.volume_rules.specs.Images.{EachRecoverable, EachRecovered}
use Rattle.volume_rules.proofs.StepLemmas.{alone}
use Rattle.volume_rules.proofs.MomentLemmas.{log_moments}
use Rattle.plugd.specs.declared.ack.Ack.{Ack}
use Rattle.plugd.specs.declared.server.Server.{Server}
use Rattle.plugd.specs.LogOne.{IsDurable}
use Rattle.plugd.specs.Crash.{StandsIn, OthersStay, IsKept, AreKept, Safe}
use Rattle.plugd.specs.Serve.{Base, Core, reader_of, shelf_of, CouldRecover, Secure}
use Rattle.plugd.proofs.AheadLemmas.{GoesOn}

split : (c n : ℕ) → (c ≤ n) ⊎ (n < c)
split c n = grind arith

-- What a write and a sync of one transaction at the end of the log did: its images have the log before, or with the transaction; the
-- engine's images read as one gist, which goes with both.
pub record Logs (base : Base) (log : List Transaction) (t : Transaction) (core : Core) (a : Gist) (disk : Disk) : Type 0 where
  pub on : GoesOn core.disk disk
  pub apart : Contains core.engine.kind.files 0 → ⊥
  pub front : IsPrefix base.found log
  pub moments : IsTrue core.disk.told → Keeps core.disk disk (Only 0 (now core.disk) (Holds log (log ++ t ∷ [])))
  pub reads : IsTrue core.disk.told → EachReads core.engine.reading (a ∷ []) (map (now core.disk) core.engine.kind.files)
  pub goes : IsTrue core.disk.told → CouldRecover base core.engine → IsRecoverable (shelf_of core.engine) log (alone (reader_of core.engine) a) × IsRecoverable (shelf_of core.engine) (log ++ t ∷ []) (alone (reader_of core.engine) a)

-- an acknowledgement stays kept
kept_on : (all : List Transaction) (t : Transaction) (d₀ d₁ : Disk) (ack : Ack) → Keeps d₀ d₁ (Only 0 (now d₀) (Holds all (all ++ t ∷ []))) → IsKept all d₀ ack → IsKept (all ++ t ∷ []) d₁ ack
kept_on all t d₀ d₁ ack run is = record {
  count = omega (arith, is.count, length-append all (t ∷ []));
  in_time = omega (arith, is.in_time, run.later);
  exactly = ap (λ (files : ℕ → File). (files 0).bytes) (run.past ack.call is.in_time) ∙ is.exactly ∙ ap log_of (sym same);
  kept = λ m low high. ⊎_elim
      (λ le. subst (λ (files : ℕ → File). Holds (take ack.number (all ++ t ∷ [])) (all ++ t ∷ []) (files 0)) (sym (run.past m le))
      (subst (λ (l : List Transaction). Holds l (all ++ t ∷ []) (d₀.at m 0)) (sym same) (more_high (take ack.number all) all (t ∷ []) (d₀.at m 0) (is.kept m low le))))
      (λ gt. less_low (take ack.number (all ++ t ∷ [])) all (all ++ t ∷ []) (d₁.at m 0)
      (subst (λ (l : List Transaction). IsPrefix l all) (sym same) (drop ack.number all, sym (take-append-drop ack.number all))) (run.each m (omega (arith, gt)) high).1)
      (split m d₀.calls);
}
  where
    same : take ack.number (all ++ t ∷ []) ≡ take ack.number all
    same = take-append-le ack.number all (t ∷ []) is.count

are_kept_on : (all : List Transaction) (t : Transaction) (d₀ d₁ : Disk) (acks : List Ack) → Keeps d₀ d₁ (Only 0 (now d₀) (Holds all (all ++ t ∷ []))) → AreKept all d₀ acks → AreKept (all ++ t ∷ []) d₁ acks
are_kept_on all t d₀ d₁ [] run are = tt
are_kept_on all t d₀ d₁ (ack ∷ acks) run are = (kept_on all t d₀ d₁ ack run are.0, are_kept_on all t d₀ d₁ acks run are.1)

-- what is safe stays so
safe_on : (kind : Kind) (start d₀ d₁ : Disk) (found all : List Transaction) (t : Transaction) (acks : List Ack) → IsPrefix found all → Safe kind start found all acks d₀
    → Keeps d₀ d₁ (Only 0 (now d₀) (Holds all (all ++ t ∷ []))) → Safe kind start found (all ++ t ∷ []) acks d₁
safe_on kind start d₀ d₁ found all t acks part is run = record {
  moments = both start d₀ d₁ P
      (weaker start d₀ (λ files. StandsIn (now start 0) found all (files 0)) P (λ files p. ⊎_elim (λ same. inl same) (λ holds. inr (more_high found all (t ∷ []) (files 0) holds)) p) is.moments)
      (weaker d₀ d₁ Q P (λ files p. inr (less_low found all (all ++ t ∷ []) (files 0) part p.1)) run);
  others = both start d₀ d₁ O is.others (weaker d₀ d₁ Q O (λ files p. (λ f no none. p.0 f no ∙ is.others.each d₀.calls is.others.later (omega arith) f no none)) run);
  acks_kept = are_kept_on all t d₀ d₁ acks run is.acks_kept;
}
  where
    P : (ℕ → File) → Type 0
    P = λ files. StandsIn (now start 0) found (all ++ t ∷ []) (files 0)

    O : (ℕ → File) → Type 0
    O = OthersStay kind (now start)

    Q : (ℕ → File) → Type 0
    Q = Only 0 (now d₀) (Holds all (all ++ t ∷ []))

-- the volume stays safe, and an image may have the transaction too
pub secure_logged : (base : Base) (log : List Transaction) (t : Transaction) (core : Core) (a : Gist) (server : Server) (disk : Disk)
    → server.acks.items ≡ core.server.acks.items → Logs base log t core a disk → Secure base log core
    → Secure base (log ++ t ∷ []) (record { server = server; engine = core.engine; disk = disk })
secure_logged base log t core a server disk acks logs is = record {
  told = logs.on.told ∙ is.told;
  later = let more = logs.on.later in omega (arith, is.later, more);
  no_fewer = let more = logs.on.no_fewer in omega (arith, is.no_fewer, more);
  safe = λ told.
      subst (λ (l : List Ack). Safe core.engine.kind base.start base.found (log ++ t ∷ []) l disk) (sym acks)
      (safe_on core.engine.kind base.start core.disk disk base.found log t core.server.acks.items logs.front (is.safe told) (run told));
  sound = λ told could.
      let goes = logs.goes (told_now told) could in
      both base.start core.disk disk (EachRecoverable (shelf_of core.engine) (reader_of core.engine ∷ [])) (is.sound told could)
      (log_moments (shelf_of core.engine) (reader_of core.engine) log t a core.disk disk logs.apart (logs.reads (told_now told)) goes.0 goes.1 (run told));
  in_time = (is.in_time.0, let more = logs.on.later in let before = is.in_time.1 in omega (arith, before, more));
  opened = λ told could. subst (EachRecovered (shelf_of core.engine) (reader_of core.engine ∷ []) base.found) (sym ((run told).past base.opened is.in_time.1)) (is.opened told could);
}
  where
    told_now : IsTrue base.start.told → IsTrue core.disk.told
    told_now told = subst IsTrue (sym is.told) told

    run : IsTrue base.start.told → Keeps core.disk disk (Only 0 (now core.disk) (Holds log (log ++ t ∷ [])))
    run told = logs.moments (told_now told)

are_kept_push : (all : List Transaction) (disk : Disk) (acks : List Ack) (ack : Ack) → AreKept all disk acks → IsKept all disk ack → AreKept all disk (acks ++ ack ∷ [])
are_kept_push all disk [] ack are is = (is, tt)
are_kept_push all disk (one ∷ acks) ack are is = (are.0, are_kept_push all disk acks ack are.1 is)

-- the acknowledgement that comes now, of all transactions
kept_now : (all : List Transaction) (disk : Disk) (ack : Ack) → contents disk 0 ≡ log_of all → Holds all all (now disk 0) → ack.number ≡ length all → ack.call ≡ disk.calls → IsKept all disk ack
kept_now all disk ack bytes holds number call = record {
  count = omega (arith, number);
  in_time = omega (arith, call);
  exactly = ap (λ (k : ℕ). (disk.at k 0).bytes) call ∙ bytes ∙ ap log_of (sym (take_all ack.number all (omega (arith, number))));
  kept = λ m low high.
      let here : disk.calls ≡ m = omega (arith, call, low, high) in
      subst (λ (k : ℕ). Holds (take ack.number all) all (disk.at k 0)) here
      (subst (λ (l : List Transaction). Holds l all (now disk 0)) (sym (take_all ack.number all (omega (arith, number)))) holds);
}

-- one acknowledgement more
pub secure_acknowledged : (base : Base) (all : List Transaction) (core : Core) (server : Server) (ack : Ack)
    → server.acks.items ≡ core.server.acks.items ++ ack ∷ [] → (IsTrue core.disk.told → (contents core.disk 0 ≡ log_of all) × Holds all all (now core.disk 0))
    → (IsTrue core.disk.told → ack.number ≡ length all) → ack.call ≡ core.disk.calls → Secure base all core
    → Secure base all (record { server = server; engine = core.engine; disk = core.disk })
secure_acknowledged base all core server ack acks now_is number call is = record {
  told = is.told;
  later = is.later;
  no_fewer = is.no_fewer;
  safe = λ told.
      let here = now_is (subst IsTrue (sym is.told) told) in
      let safe = is.safe told in
      subst (λ (l : List Ack). Safe core.engine.kind base.start base.found all l core.disk) (sym acks) (record {
        moments = safe.moments;
        others = safe.others;
        acks_kept = are_kept_push all core.disk core.server.acks.items ack safe.acks_kept (kept_now all core.disk ack here.0 here.1 (number (subst IsTrue (sym is.told) told)) call);
      });
  sound = is.sound;
  in_time = is.in_time;
  opened = is.opened;
}

-- a durable log is held by each crash image
pub durable_holds : (log : Binlog) (list : List Transaction) (disk : Disk) → IsDurable log list disk → Holds list list (now disk 0)
durable_holds log list disk is =
    let all = take_all log.durable list (let f = (is.is_log).flushed in omega (arith, is.durable, f)) in
    subst (λ (l : List Transaction). Holds l list (now disk 0)) all (log_holds log list (now disk 0) is.is_log)
