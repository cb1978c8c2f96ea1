-- A run that has played some lines stays what it is over a call of the engine.
use Rattle.std.proofs.Common.{◌≡◌, ◌⊎◌, ⊎_elim, ℕ, ◌<◌, ◌≤◌, List, [], ◌∷◌, ◌++◌, map, take, IsTrue, sym, ◌∙◌, ap, subst, arith}
use Rattle.std.specs.Prelude.{Contains}
use Rattle.disk_model.specs.File.{File}
use Rattle.disk_model.specs.Disk.{Disk, now, Keeps}
use Rattle.disk_model.proofs.Moments.{both, weaker}
use Rattle.row_format.specs.declared.change.Transaction.{Transaction}
use Rattle.binlog_file.specs.Logged.{Holds, IsLogged}
use Rattle.log_tables.specs.declared.gist.Gist.{Gist}
use Rattle.engine_api.specs.States.{Kind, EngineState}
use Rattle.engine_api.specs.Reads.{Reading, SameReading, EachReads, OnlyIn}
use Rattle.recovery_rules.specs.Recovery.{ShelfEngine, IsRecoverable}
use Rattle.volume_rules.specs.Images.{EachRecoverable, EachRecovered}
use Rattle.volume_rules.proofs.StepLemmas.{alone}
use Rattle.volume_rules.proofs.MomentLemmas.{engine_moments}
use Rattle.volume_rules.proofs.SameLemmas.{read_by, same_back, recoverable_same, recovered_same, volume_same}
use Rattle.plugd.specs.declared.ack.Ack.{Ack}
use Rattle.plugd.specs.declared.reply.Reply.{Reply}
use Rattle.plugd.specs.declared.reply.HaltCause.{HaltCause}
use Rattle.plugd.specs.declared.reply.HaltCause.TheVariants.{Device, NotAVolume}
use Rattle.plugd.specs.declared.server.Server.{Server}
use Rattle.plugd.specs.Crash.{StaysRecoverable, StandsIn, OthersStay, IsKept, AreKept, all_of, Safe}
use Rattle.plugd.specs.Play.{State}
use Rattle.plugd.specs.Serve.{Base, Core, reader_of, shelf_of, CouldRecover, IsCause, Secure, Stopped}

-- some device calls: the counts go on
pub record GoesOn (old new : Disk) : Type 0 where
  pub told : new.told ≡ old.told
  pub later : old.calls ≤ new.calls
  pub no_fewer : old.faults ≤ new.faults

-- a cause stays one
pub cause_stays : (base : Base) (kind : Kind) (old new : Disk) (cause : HaltCause) → GoesOn old new → IsCause base kind old cause → IsCause base kind new cause
cause_stays base kind old new Device on is = let more = on.no_fewer in omega (arith, is, more)
cause_stays base kind old new (NotAVolume file) on is = is

-- the log's file is as it was at each moment
pub record LogStays (old new : Disk) : Type 0 where
  pub run : Keeps old new (λ files. files 0 ≡ now old 0)

split : (c n : ℕ) → (c ≤ n) ⊎ (n < c)
split c n = grind arith

-- an acknowledgement stays kept
kept_stays : (all : List Transaction) (old new : Disk) (ack : Ack) → LogStays old new → IsKept all old ack → IsKept all new ack
kept_stays all old new ack stays is = record {
  count = is.count;
  in_time = let more = stays.run.later in omega (arith, is.in_time, more);
  exactly = ap (λ (files : ℕ → File). (files 0).bytes) (stays.run.past ack.call is.in_time) ∙ is.exactly;
  kept = λ m low high. ⊎_elim
      (λ le. subst (λ (files : ℕ → File). Holds (take ack.number all) all (files 0)) (sym (stays.run.past m le)) (is.kept m low le))
      (λ gt. subst (λ (file : File). Holds (take ack.number all) all file) (sym (stays.run.each m (omega (arith, gt)) high)) (is.kept old.calls is.in_time (omega arith)))
      (split m old.calls);
}

pub are_kept_stay : (all : List Transaction) (old new : Disk) (acks : List Ack) → LogStays old new → AreKept all old acks → AreKept all new acks
are_kept_stay all old new [] stays are = tt
are_kept_stay all old new (ack ∷ acks) stays are = (kept_stays all old new ack stays are.0, are_kept_stay all old new acks stays are.1)

-- what is safe stays so
pub safe_stays : (kind : Kind) (start : Disk) (found all : List Transaction) (acks : List Ack) (old new : Disk) → Safe kind start found all acks old
    → Keeps old new (λ files. (f : ℕ) → (Contains kind.files f → ⊥) → files f ≡ now old f) → (Contains kind.files 0 → ⊥) → Safe kind start found all acks new
safe_stays kind start found all acks old new is run apart = record {
  moments = both start old new P is.moments (weaker old new Q P (λ files p. subst (StandsIn (now start 0) found all) (sym (p 0 apart)) (is.moments.each old.calls is.moments.later (omega arith))) run);
  others = both start old new O is.others (weaker old new Q O (λ files p. (λ f no none. p f none ∙ is.others.each old.calls is.others.later (omega arith) f no none)) run);
  acks_kept = are_kept_stay all old new acks (record { run = weaker old new Q (λ files. files 0 ≡ now old 0) (λ files p. p 0 apart) run }) is.acks_kept;
}
  where
    P : (ℕ → File) → Type 0
    P = λ files. StandsIn (now start 0) found all (files 0)

    O : (ℕ → File) → Type 0
    O = OthersStay kind (now start)

    Q : (ℕ → File) → Type 0
    Q = λ files. (f : ℕ) → (Contains kind.files f → ⊥) → files f ≡ now old f

-- What a call of the engine did, which leaves the log alone: its images read as the gist before or the one after, and each of them goes
-- with the log.
pub record Called (base : Base) (log : List Transaction) (core : Core) (reading : Reading) (a b : Gist) (disk : Disk) : Type 0 where
  pub on : GoesOn core.disk disk
  pub same : SameReading core.engine.reading reading
  pub apart : Contains core.engine.kind.files 0 → ⊥
  pub moments : IsTrue core.disk.told → Keeps core.disk disk (OnlyIn core.engine.kind.files (now core.disk) (EachReads core.engine.reading (a ∷ b ∷ [])))
  pub holds : IsTrue core.disk.told → Holds log log (now core.disk 0)
  pub goes : IsTrue core.disk.told → CouldRecover base core.engine → IsRecoverable (shelf_of core.engine) log (alone (reader_of core.engine) a) × IsRecoverable (shelf_of core.engine) log (alone (reader_of core.engine) b)

-- each image stays recoverable
sound_called : (base : Base) (log : List Transaction) (core : Core) (reading : Reading) (a b : Gist) (disk : Disk) → core.disk.told ≡ base.start.told → Called base log core reading a b disk
    → StaysRecoverable (shelf_of core.engine) (reader_of core.engine ∷ []) base.start core.disk
    → StaysRecoverable (shelf_of core.engine) (read_by core.engine.kind reading) base.start disk
sound_called base log core reading a b disk told_is called sound told could =
    let told₂ = subst IsTrue (sym told_is) told in
    let could₂ = volume_same shelf kind reading was base.start (same_back was reading called.same) could in
    let goes = called.goes told₂ could₂ in
    weaker base.start disk (EachRecoverable shelf (read_by kind was)) (EachRecoverable shelf (read_by kind reading))
    (λ files each. recoverable_same shelf kind was reading files called.same each)
    (both base.start core.disk disk (EachRecoverable shelf (read_by kind was)) (sound told could₂)
    (engine_moments shelf (reader_of core.engine) log a b core.disk disk called.apart (called.holds told₂) goes.0 goes.1 (called.moments told₂)))
  where
    shelf : List ShelfEngine
    shelf = shelf_of core.engine

    kind : Kind
    kind = core.engine.kind

    was : Reading
    was = core.engine.reading

-- the core after a call of the engine: the server is another with the same acknowledgements
abbrev pub core_of : Server → Kind → Reading → EngineState → (List File → Type 0) → Disk → Core
core_of server kind reading state holds disk = record { server = server; engine = record { kind = kind; reading = reading; state = state; holds = holds }; disk = disk }

-- at each moment of it the files that are not the engine's are as they were
others_called : (base : Base) (log : List Transaction) (core : Core) (reading : Reading) (a b : Gist) (disk : Disk) → Called base log core reading a b disk → IsTrue core.disk.told
    → Keeps core.disk disk (λ files. (f : ℕ) → (Contains core.engine.kind.files f → ⊥) → files f ≡ now core.disk f)
others_called base log core reading a b disk called told =
    weaker core.disk disk (OnlyIn core.engine.kind.files (now core.disk) (EachReads core.engine.reading (a ∷ b ∷ [])))
    (λ files. (f : ℕ) → (Contains core.engine.kind.files f → ⊥) → files f ≡ now core.disk f) (λ files p. p.0) (called.moments told)

-- the log's file is as it was
pub log_called : (base : Base) (log : List Transaction) (core : Core) (reading : Reading) (a b : Gist) (disk : Disk) → Called base log core reading a b disk → IsTrue core.disk.told → now disk 0 ≡ now core.disk 0
log_called base log core reading a b disk called told =
    let run = others_called base log core reading a b disk called told in
    run.each disk.calls run.later (omega arith) 0 called.apart

-- the volume stays safe over the call
pub secure_called : (base : Base) (all log : List Transaction) (core : Core) (a b : Gist)
    (server : Server) (reading : Reading) (after : EngineState) (holds : List File → Type 0) (disk : Disk)
    → server.acks.items ≡ core.server.acks.items → Called base log core reading a b disk → Secure base all core
    → Secure base all (core_of server core.engine.kind reading after holds disk)
secure_called base all log core a b server reading after holds disk acks called is = record {
  told = called.on.told ∙ is.told;
  later = let more = called.on.later in omega (arith, is.later, more);
  no_fewer = let more = called.on.no_fewer in omega (arith, is.no_fewer, more);
  safe = λ told.
      subst (λ (l : List Ack). Safe core.engine.kind base.start base.found all l disk) (sym acks)
      (safe_stays core.engine.kind base.start base.found all core.server.acks.items core.disk disk (is.safe told) (run told) called.apart);
  sound = sound_called base log core reading a b disk is.told called is.sound;
  in_time = (is.in_time.0, let more = called.on.later in let before = is.in_time.1 in omega (arith, before, more));
  opened = λ told could.
      subst (EachRecovered shelf (read_by core.engine.kind reading) base.found) (sym ((run told).past base.opened is.in_time.1))
      (recovered_same shelf core.engine.kind core.engine.reading reading base.found (core.disk.at base.opened) called.same
      (is.opened told (volume_same shelf core.engine.kind reading core.engine.reading base.start (same_back core.engine.reading reading called.same) could)));
}
  where
    shelf : List ShelfEngine
    shelf = shelf_of core.engine

    run : IsTrue base.start.told → Keeps core.disk disk (λ files. (f : ℕ) → (Contains core.engine.kind.files f → ⊥) → files f ≡ now core.disk f)
    run told = others_called base log core reading a b disk called (subst IsTrue (sym is.told) told)

-- a run stays what it is over the call
pub stopped_called : (base : Base) (lines : List (List ℕ)) (replies : List Reply) (state : State) (log : List Transaction) (core : Core) (a b : Gist)
    (server : Server) (reading : Reading) (after : EngineState) (holds : List File → Type 0) (disk : Disk)
    → server.acks.items ≡ core.server.acks.items → Called base log core reading a b disk → Stopped base lines replies core state
    → Stopped base lines replies (core_of server core.engine.kind reading after holds disk) state
stopped_called base lines replies state log core a b server reading after holds disk acks called is = record {
  secure = secure_called base (all_of base.found state) log core a b server reading after holds disk acks called is.secure;
  plays = is.plays;
  numbers = ap (map (λ (ack : Ack). ack.number)) acks ∙ is.numbers;
  cause = λ cause some. cause_stays base core.engine.kind core.disk disk cause called.on (is.cause cause some);
  count = is.count;
  whole = λ told none.
      subst (λ (file : File). IsLogged file.bytes (base.found ++ state.asked)) (sym (log_called base log core reading a b disk called (subst IsTrue (sym is.secure.told) told))) (is.whole told none);
}
