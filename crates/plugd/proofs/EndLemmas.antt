-- A statement that is prepared is logged, committed and acknowledged; or a fault halts the run at it.
use Rattle.std.proofs.Common.{◌≡◌, inl, ⊎_elim, ℕ, suc, ◌+◌, ◌≤◌, List, [], ◌∷◌, ◌++◌, length, map, Some, None, true, IsTrue, refl, sym, ◌∙◌, ap, subst, arith, append_assoc, length-append}
use Rattle.std.specs.Prelude.{Contains}
use Rattle.std.proofs.lemmas.List.{append-nil, map-append}
use Rattle.std.proofs.lemmas.List.Elements.{Contains-append_left, Contains-append_right, Contains-append_cases}
use Rattle.disk_model.specs.File.{File}
use Rattle.disk_model.specs.Disk.{Disk, now, contents, Keeps, Only}
use Rattle.row_format.specs.declared.change.Change.{Change}
use Rattle.row_format.specs.declared.change.Transaction.{Transaction}
use Rattle.log_tables.specs.declared.gist.Gist.{Gist}
use Rattle.log_tables.specs.Gists.{after_prepare, after_commit}
use Rattle.binlog_file.specs.declared.binlog.Binlog.{Binlog}
use Rattle.binlog_file.specs.Logged.{Holds, IsLogged, log_of, log_end, log_checksum}
use Rattle.binlog_file.specs.Binlog.{IsLog}
use Rattle.binlog_file.proofs.OpenLemmas.{nothing_stands}
use Rattle.engine_api.specs.Live.{allows}
use Rattle.engine_api.specs.States.{Kind, EngineState, begun_state, prepared_state, committed_state}
use Rattle.engine_api.specs.Many.{IsAtWork}
use Rattle.engine_api.specs.Reads.{EachReads}
use Rattle.recovery_rules.specs.Recovery.{ShelfEngine, SafeEngine, IsRecovered}
use Rattle.plugd.specs.declared.ack.Ack.{Ack}
use Rattle.plugd.specs.declared.reply.Reply.{Reply}
use Rattle.plugd.specs.declared.reply.Reply.TheVariants.{Done, Halted}
use Rattle.plugd.specs.declared.reply.HaltCause.{HaltCause}
use Rattle.plugd.specs.Serve.{session}
use Rattle.plugd.specs.Asked.{Work, catalog_after, count_of, is_prepared_for}
use Rattle.sql_exec.specs.Changes.{with_changes}
use Rattle.plugd.specs.LogOne.{IsDurable}
use Rattle.plugd.specs.Crash.{all_of}
use Rattle.binlog_file.specs.Binlog.{flushed_of, end_in}
use Rattle.log_tables.specs.Changes.{after_changes}
use Rattle.engine_api.specs.Reads.{SameReading}
use Rattle.volume_rules.specs.Readers.{with_gists}
use Rattle.volume_rules.specs.Images.{IsRecoverableVolume}
use Rattle.volume_rules.proofs.SameLemmas.{read_by, same_back, volume_same}
use Rattle.volume_rules.proofs.StepLemmas.{none_left}
use Rattle.plugd.specs.declared.xids.XidSet.{XidSet}
use Rattle.plugd.specs.XidSet.{Knows}
use Rattle.plugd.specs.Noting.{HasCatalog}
use Rattle.plugd.specs.Serve.{IsCatalogOf}
use Rattle.plugd.specs.Xids.{xids_of}
use Rattle.plugd.specs.Play.{State, logged, halted_at, logged_size, IsAskedBy, IsNextGiven, fails_at, logs}
use Rattle.plugd.specs.Serve.{Core, rules_of, reader_of, shelf_of, CouldRecover, IsCause, Secure, IsIdle, IsAtRest, IsJournal}
use Rattle.plugd.specs.Way.{Past, IsAhead, IsGranted, IsReadyToLog, IsNoted, PlaysTo}
use Rattle.plugd.proofs.AheadLemmas.{GoesOn}
use Rattle.plugd.proofs.AskedLemmas.{catalog_goes}
use Rattle.plugd.proofs.SoundLemmas.{sound_goes}
use Rattle.plugd.proofs.TextLemmas.{given_comes}
use Rattle.plugd.proofs.LogLemmas.{Logs}
use Rattle.plugd.specs.Spell.{with_halt}
use Rattle.plugd.proofs.WayLemmas.{plays_push, numbers_same, numbers-append}
use Rattle.plugd.proofs.CallsLemmas.{idle_is}
use Rattle.plugd.proofs.ChangedLemmas.{changed_state, with_changes-begun}
use Rattle.plugd.proofs.SpellLemmas.{of_changes}
use Rattle.plugd.proofs.DoneLemmas.{so_far, share, IsFit, is_fit, fit_prepared, fit_logged, fit_committed}

-- a log at rest has its transactions and no other
pub rest_logged : (log : Binlog) (list : List Transaction) (file : File) → IsLog log list file → IsLogged file.bytes list
rest_logged log list file is = inl (record {
  fit = is.fit;
  ends = is.ends;
  rest = [];
  stands = is.bytes ∙ sym (append-nil (log_of list));
  no_more = nothing_stands (log_checksum list) (log_end list) [] refl;
})

-- all that an image may have, with the transaction
pub more_of : (found asked : List Transaction) (t : Transaction) → (found ++ asked) ++ t ∷ [] ≡ found ++ (asked ++ t ∷ [])
more_of found asked t = append_assoc found asked (t ∷ [])

no_none : {X : Type 0} {x : X} → Some x ≡ None → ⊥
no_none e = cc

some_same : {X : Type 0} {x y : X} → Some x ≡ Some y → x ≡ y
some_same e = cc

-- the engine has prepared the changes: its state
pub prepared_is_state : (past : Past) (idle : EngineState) (asks : Work) (changes : List Change) (xid : ℕ) (core : Core) → IsReadyToLog past idle asks changes xid core
    → core.engine.state ≡ prepared_state session xid (changed_state session changes idle.gist)
prepared_is_state past idle asks changes xid core ready =
    ready.state ∙ ap (λ (s : EngineState). prepared_state session xid (with_changes session changes s)) (idle_is idle past.state ready.way.was_idle)
    ∙ ap (prepared_state session xid) (with_changes-begun session changes idle.gist ready.granted.makes.some)

-- its images read as the gist with the share
pub ready_kept : (past : Past) (idle : EngineState) (asks : Work) (changes : List Change) (xid : ℕ) (core : Core) → IsReadyToLog past idle asks changes xid core → core.engine.state.kept ≡ after_prepare (share xid changes) idle.gist ∷ []
ready_kept past idle asks changes xid core ready = ap (λ (s : EngineState). s.kept) (prepared_is_state past idle asks changes xid core ready)

-- and behind a commit as the gist that has the changes
pub committed_kept : (past : Past) (idle : EngineState) (asks : Work) (changes : List Change) (xid number : ℕ) (core : Core) → IsReadyToLog past idle asks changes xid core
    → (committed_state session xid number core.engine.state).kept ≡ after_commit (share xid changes) number (after_prepare (share xid changes) idle.gist) ∷ []
committed_kept past idle asks changes xid number core ready = ap (λ (s : EngineState). (committed_state session xid number s).kept) (prepared_is_state past idle asks changes xid core ready)

-- what is known of it over a volume that could be recovered
pub ready_fit : (past : Past) (idle : EngineState) (asks : Work) (changes : List Change) (xid : ℕ) (core : Core) → is_prepared_for asks ≡ true → IsReadyToLog past idle asks changes xid core
    → IsTrue past.base.start.told → CouldRecover past.base core.engine → IsFit past core idle.gist changes xid
ready_fit past idle asks changes xid core touches ready told could = is_fit past idle asks changes (past.state.given ++ xid ∷ []) core xid touches ready.way ready.granted ready.next told could

-- What the write and the sync of the transaction did.
pub logs_ready : (past : Past) (idle : EngineState) (asks : Work) (changes : List Change) (xid : ℕ) (core : Core) (disk : Disk) → is_prepared_for asks ≡ true → IsReadyToLog past idle asks changes xid core → GoesOn core.disk disk
    → (IsTrue core.disk.told → Keeps core.disk disk (Only 0 (now core.disk) (Holds (so_far past) (so_far past ++ of_changes xid changes ∷ []))))
    → Logs past.base (so_far past) (of_changes xid changes) core (after_prepare (share xid changes) idle.gist) disk
logs_ready past idle asks changes xid core disk touches ready on moments = record {
  on = on;
  apart = ready.way.ahead.fixed.kind.apart;
  front = (past.state.asked, refl);
  moments = moments;
  reads = λ told. subst (λ (l : List Gist). EachReads core.engine.reading l (map (now core.disk) core.engine.kind.files)) (ready_kept past idle asks changes xid core ready) (ready.way.rest (first told)).at_work.reads;
  goes = λ told could. let fit = ready_fit past idle asks changes xid core touches ready (first told) could in (fit_prepared past core idle.gist changes xid fit, fit_logged past core idle.gist changes xid fit);
}
  where
    first : IsTrue core.disk.told → IsTrue past.base.start.told
    first told = subst IsTrue ready.way.ahead.stopped.secure.told told

-- a transaction by the rules
pub asked_by : (past : Past) (asks : Work) (changes : List Change) (xid : ℕ) → IsGranted past asks changes → IsNextGiven (rules_of past.base) past.state xid → IsAskedBy (rules_of past.base) past.state asks (of_changes xid changes)
asked_by past asks changes xid granted next = record { made = granted.makes; xid = next }

-- A fault at the transaction, which may be in the log, halts the run.
pub halted_at_it : (past : Past) (asks : Work) (changes : List Change) (xid : ℕ) (was core : Core) (cause : HaltCause) → IsAhead past was → IsGranted past asks changes → IsNextGiven (rules_of past.base) past.state xid
    → past.state.len + logged_size changes ≤ past.base.limit
    → core.server.acks.items ≡ was.server.acks.items → core.server.lines ≡ was.server.lines → core.server.limit ≡ was.server.limit → core.engine.kind ≡ was.engine.kind
    → Secure past.base (so_far past ++ of_changes xid changes ∷ []) core → IsCause past.base core.engine.kind core.disk cause
    → PlaysTo past asks.text (Halted cause) (record { server = with_halt cause core.server; engine = core.engine; disk = core.disk })
halted_at_it past asks changes xid was core cause ahead granted next room acks lines limit kind secure is line gives = record {
  state = after;
  fixed = record { kind = subst (λ k. IsJournal k) (sym kind) ahead.fixed.kind; limit = limit ∙ ahead.fixed.limit; small = ahead.fixed.small };
  line = omega (arith, ahead.line, length-append past.lines (line ∷ []));
  stopped = record {
    secure = record { told = s.told; later = s.later; no_fewer = s.no_fewer; safe = s.safe; sound = s.sound; in_time = s.in_time; opened = s.opened };
    plays = plays_push (rules_of past.base) past.base.first past.lines past.replies past.state line (Halted cause ∷ []) after ahead.stopped.plays
        (fails_at asks (record { gives = given_comes asks.text line past.state.catalog asks.outcome gives granted.makes.comes; serves = ahead.is_serving }) (of_changes xid changes) (asked_by past asks changes xid granted next) room cause refl refl);
    numbers = numbers_same past.replies (Halted cause ∷ []) _ refl (ap (map (λ (ack : Ack). ack.number)) acks ∙ ahead.stopped.numbers);
    cause = λ c some. subst (IsCause past.base core.engine.kind core.disk) (some_same some) is;
    count = ahead.stopped.count;
    whole = λ told none. absurd (no_none none);
  };
  shows = record {
    line = lines ∙ ahead.counted;
    halted = refl;
    catalog = λ none. absurd (no_none none);
    count = λ none. absurd (no_none none);
    len = λ none. absurd (no_none none);
  };
  met = λ none. absurd (no_none none);
  sound = ahead.sound;
  idle = λ none. absurd (no_none none);
  rest = λ told none. absurd (no_none none);
}
  where
    after : State
    after = halted_at cause (Some (of_changes xid changes)) past.state

    s : Secure past.base (all_of past.base.found after) core
    s = subst (λ (all : List Transaction). Secure past.base all core) (more_of past.base.found past.state.asked (of_changes xid changes)) secure

-- What stands behind the commit of the transaction in the engine, and its acknowledgement.
pub record IsDone (past : Past) (idle : EngineState) (asks : Work) (changes : List Change) (xid : ℕ) (was : Core) (core : Core) : Type 0 where
  pub ready : IsReadyToLog past idle asks changes xid was
  pub touches : is_prepared_for asks ≡ true
  pub room : past.state.len + logged_size changes ≤ past.base.limit
  pub secure : Secure past.base (so_far past ++ of_changes xid changes ∷ []) core
  pub kind : core.engine.kind ≡ was.engine.kind
  pub reading : SameReading was.engine.reading core.engine.reading
  pub state : core.engine.state ≡ committed_state session xid (past.state.count + 1) was.engine.state
  pub work : IsTrue core.disk.told → IsAtWork core.engine (now core.disk)
  pub durable : IsTrue core.disk.told → IsDurable core.server.log (so_far past ++ of_changes xid changes ∷ []) core.disk
  pub xids : core.server.xids ≡ was.server.xids
  pub acks : core.server.acks.items ≡ was.server.acks.items ++ (record { number = past.state.count + 1; call = core.disk.calls }) ∷ []
  pub noted : IsNoted past core changes
  pub lines : core.server.lines ≡ was.server.lines
  pub limit : core.server.limit ≡ was.server.limit
  pub halted : core.server.halted ≡ None
  pub count : flushed_of core.server.log ≡ past.state.count + 1
  pub len : end_in core.server.log ≡ past.state.len + logged_size changes

-- the engine behind the commit
after_of : (past : Past) (idle : EngineState) (asks : Work) (changes : List Change) (xid : ℕ) (was core : Core) → IsDone past idle asks changes xid was core
    → core.engine.state ≡ begun_state (after_commit (share xid changes) (past.state.count + 1) (after_prepare (share xid changes) idle.gist))
after_of past idle asks changes xid was core d =
    d.state ∙ ap (committed_state session xid (past.state.count + 1)) (prepared_is_state past idle asks changes xid was d.ready)

-- the shelf with an engine of this kind, and that engine with a gist
abbrev shelf_as : Kind → List ShelfEngine
shelf_as kind = (record { engine = kind.name; allows = allows kind.flags }) ∷ []

abbrev engine_as : Kind → Gist → List SafeEngine
engine_as kind gist = (record { engine = kind.name; allows = allows kind.flags; gist = gist }) ∷ []

-- The line ends with its acknowledgement.
pub done_now : (past : Past) (idle : EngineState) (asks : Work) (changes : List Change) (xid : ℕ) (was core : Core) → IsDone past idle asks changes xid was core → PlaysTo past asks.text (Done (count_of asks) (past.state.count + 1)) core
done_now past idle asks changes xid was core d line gives = record {
  state = after;
  fixed = record { kind = subst (λ k. IsJournal k) (sym d.kind) ahead.fixed.kind; limit = d.limit ∙ ahead.fixed.limit; small = ahead.fixed.small };
  line = omega (arith, ahead.line, length-append past.lines (line ∷ []));
  stopped = record {
    secure = subst (λ (all : List Transaction). Secure past.base all core) (joined ∙ ap (λ (l : List Transaction). past.base.found ++ l) (sym (append-nil (past.state.asked ++ t ∷ [])))) d.secure;
    plays = plays_push (rules_of past.base) past.base.first past.lines past.replies past.state line (reply ∷ []) after ahead.stopped.plays
        (logs asks (record { gives = given_comes asks.text line past.state.catalog asks.outcome gives d.ready.granted.makes.comes; serves = ahead.is_serving }) t (asked_by past asks changes xid d.ready.granted d.ready.next) d.room refl refl);
    numbers = ap (map (λ (a : Ack). a.number)) d.acks ∙ map-append (λ (a : Ack). a.number) was.server.acks.items (ack ∷ []) ∙ ap (λ (l : List ℕ). l ++ (past.state.count + 1) ∷ []) ahead.stopped.numbers
        ∙ sym (numbers-append past.replies (reply ∷ []));
    cause = λ c some. absurd (no_none (sym some));
    count = λ told. let before = ahead.stopped.count told in omega (arith, before, length-append past.state.asked (t ∷ []));
    whole = λ told none. subst (IsLogged (contents core.disk 0)) joined (rest_logged core.server.log (so_far past ++ t ∷ []) (now core.disk 0) (d.durable (told_now told)).is_log);
  };
  shows = record {
    line = d.lines ∙ ahead.counted;
    halted = d.halted;
    catalog = λ none. d.noted;
    count = λ none. d.count;
    len = λ none. d.len;
  };
  met = λ none. refl;
  sound = sound_goes changes past.state.catalog.definitions d.ready.granted.fit ahead.sound;
  idle = λ none. subst (λ (s : EngineState). IsIdle s after) (sym state_is) (record {
    pending = refl;
    kept = refl;
    none_prepared = none_left xid idle.gist (share xid changes) d.ready.way.was_idle.none_prepared refl;
    live = ap (after_changes changes) d.ready.way.was_idle.live;
    last = omega arith;
  });
  rest = λ told none. rest_now told;
}
  where
    t : Transaction
    t = of_changes xid changes

    ahead : IsAhead past was
    ahead = d.ready.way.ahead

    after : State
    after = logged t past.state

    reply : Reply
    reply = Done (count_of asks) (past.state.count + 1)

    ack : Ack
    ack = record { number = past.state.count + 1; call = core.disk.calls }

    joined : so_far past ++ t ∷ [] ≡ past.base.found ++ (past.state.asked ++ t ∷ [])
    joined = more_of past.base.found past.state.asked t

    gist : Gist
    gist = after_commit (share xid changes) (past.state.count + 1) (after_prepare (share xid changes) idle.gist)

    state_is : core.engine.state ≡ begun_state gist
    state_is = after_of past idle asks changes xid was core d

    told_now : IsTrue past.base.start.told → IsTrue core.disk.told
    told_now told = subst IsTrue (sym d.secure.told) told

    recovered_after : IsTrue past.base.start.told → CouldRecover past.base core.engine → IsRecovered (shelf_of core.engine) (past.base.found ++ (past.state.asked ++ t ∷ [])) (with_gists (reader_of core.engine ∷ []) (gist ∷ []))
    recovered_after told could =
        let count = ahead.stopped.count told in
        let number : past.state.count + 1 ≡ suc (length (so_far past)) = omega (arith, count, length-append past.base.found past.state.asked) in
        let before = volume_same (shelf_of was.engine) was.engine.kind core.engine.reading was.engine.reading past.base.start (same_back was.engine.reading core.engine.reading d.reading)
        (subst (λ (k : Kind). IsRecoverableVolume (shelf_as k) (read_by k core.engine.reading) past.base.start) d.kind could) in
        let fit = ready_fit past idle asks changes xid was d.touches d.ready told before in
        subst (λ (n : ℕ). IsRecovered (shelf_as core.engine.kind) (past.base.found ++ (past.state.asked ++ t ∷ [])) (engine_as core.engine.kind (after_commit (share xid changes) n (after_prepare (share xid changes) idle.gist)))) (sym number)
        (subst (λ (l : List Transaction). IsRecovered (shelf_as core.engine.kind) l (engine_as core.engine.kind (after_commit (share xid changes) (suc (length (so_far past))) (after_prepare (share xid changes) idle.gist)))) joined
        (subst (λ (k : Kind). IsRecovered (shelf_as k) (so_far past ++ t ∷ []) (engine_as k (after_commit (share xid changes) (suc (length (so_far past))) (after_prepare (share xid changes) idle.gist)))) (sym d.kind)
        (fit_committed past was idle.gist changes xid fit)))

    rest_now : IsTrue past.base.start.told → IsAtRest past.base core core.engine.state.gist after after.given
    rest_now told =
        let r = d.ready.way.rest told in
        let gist_is : core.engine.state.gist ≡ gist = ap (λ (s : EngineState). s.gist) state_is in
        record {
          durable = subst (λ (l : List Transaction). IsDurable core.server.log l core.disk) joined (d.durable (told_now told));
          knows = subst (λ (set : XidSet). Knows set (xids_of past.base.found ++ (past.state.given ++ xid ∷ []))) (sym d.xids) r.knows;
          asked_given = λ x on. ⊎_elim (λ old. Contains-append_left past.state.given (xid ∷ []) x (r.asked_given x old)) (λ new. Contains-append_right past.state.given (xid ∷ []) x new)
              (Contains-append_cases (xids_of past.state.asked) (xid ∷ []) x (subst (λ (l : List ℕ). Contains l x) (map-append (λ (u : Transaction). u.xid) past.state.asked (t ∷ [])) on));
          catalog = subst (λ (l : List Transaction). IsCatalogOf l (catalog_after changes past.state.catalog)) joined (catalog_goes (so_far past) t past.state.catalog r.catalog);
          at_work = d.work (told_now told);
          recovered = λ could. subst (λ (g : Gist). IsRecovered (shelf_of core.engine) (past.base.found ++ (past.state.asked ++ t ∷ [])) (with_gists (reader_of core.engine ∷ []) (g ∷ []))) (sym gist_is) (recovered_after told could);
        }
