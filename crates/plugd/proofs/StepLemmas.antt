-- A call of the engine on the way of a statement, by its answer: it goes on, halts the run, or ends it for want of memory.
use Rattle.std.proofs.Common.{◌≡◌, ℕ, ◌≤◌, List, [], ◌∷◌, Some, None, Bool, false, Result, Ok, Err, IsTrue, refl, sym, ◌∙◌, ap, subst, arith}
use Rattle.std.specs.Prelude.{Contains, IsErr}
use Rattle.std.specs.declared.alloc.AllocError.{AllocError}
use Rattle.fault_counts.specs.Rose.{Rose}
use Rattle.disk_model.specs.File.{File}
use Rattle.disk_model.specs.Disk.{Disk}
use Rattle.log_tables.specs.declared.gist.Gist.{Gist}
use Rattle.engine_api.specs.declared.fault.Code.{Code}
use Rattle.engine_api.specs.declared.fault.EngineFault.{EngineFault}
use Rattle.engine_api.specs.declared.fault.EngineFault.TheVariants as fault
use Rattle.engine_api.specs.States.{Kind, EngineState}
use Rattle.engine_api.specs.Reads.{Reading}
use Rattle.engine_api.specs.Calls.{IsSame, MayCome, GoesOn as EngineGoesOn, Turns}
use Rattle.recovery_rules.specs.Recovery.{IsRecoverable}
use Rattle.volume_rules.proofs.StepLemmas.{alone}
use Rattle.plugd.specs.declared.reply.HaltCause.{HaltCause}
use Rattle.plugd.specs.declared.reply.HaltCause.TheVariants.{Device, NotAVolume}
use Rattle.plugd.specs.Serve.{Base, Core, reader_of, shelf_of, CouldRecover, IsCause}
use Rattle.plugd.specs.Spell.{cause_by}
use Rattle.plugd.specs.Way.{Past, IsAhead, IsOnWay, HaltsBy}
use Rattle.plugd.proofs.AheadLemmas.{Called, core_of}
use Rattle.plugd.proofs.WayLemmas.{on_way_called, halts_called}
use Rattle.plugd.proofs.CallsLemmas.{turns_called, turns_work}
use Rattle.plugd.proofs.DoneLemmas.{so_far}

-- A call of the engine that turns its state: its images read as gist `a` before it, and as gist `b` behind it, and both go with the log.
pub record Turned {T : Type 0} (past : Past) (was : EngineState) (given : List ℕ) (core : Core) (result : Result T EngineFault) (next after : EngineState) (kind : Kind) (reading : Reading) (holds : List File → Type 0) (disk : Disk) (a b : Gist) : Type 0 where
  pub way : IsOnWay past was given core
  pub same : IsSame core.engine.kind kind core.engine.reading reading
  pub turns : Turns core.engine.kind core.engine.reading result next core.engine.state after holds core.disk disk
  pub had : core.engine.state.kept ≡ a ∷ []
  pub gets : next.kept ≡ b ∷ []
  pub goes : IsTrue past.base.start.told → CouldRecover past.base core.engine → IsRecoverable (shelf_of core.engine) (so_far past) (alone (reader_of core.engine) a) × IsRecoverable (shelf_of core.engine) (so_far past) (alone (reader_of core.engine) b)

-- what it did to the disk
pub turned_called : (past : Past) (was : EngineState) (given : List ℕ) (core : Core) {T : Type 0} (result : Result T EngineFault) (next after : EngineState) (kind : Kind) (reading : Reading) (holds : List File → Type 0) (disk : Disk) (a b : Gist)
    → Turned past was given core result next after kind reading holds disk a b → Called past.base (so_far past) core reading a b disk
turned_called past was given core result next after kind reading holds disk a b t =
    turns_called past was given core result next after reading holds disk a b t.way t.same.reading t.turns t.had t.gets t.goes

-- it goes on
pub turned_way : (past : Past) (was : EngineState) (given : List ℕ) (core : Core) {T : Type 0} (result : Result T EngineFault) (next after : EngineState) (kind : Kind) (reading : Reading) (holds : List File → Type 0) (disk : Disk) (a b : Gist)
    → Turned past was given core result next after kind reading holds disk a b → EngineGoesOn result → IsOnWay past was given (core_of core.server kind reading after holds disk)
turned_way past was given core result next after kind reading holds disk a b t goes =
    subst (λ (k : Kind). IsOnWay past was given (core_of core.server k reading after holds disk)) (sym t.same.kind)
    (on_way_called past was given core a b reading after holds disk t.way (turned_called past was given core result next after kind reading holds disk a b t)
    (λ told. turns_work core.engine.kind core.engine.reading reading result next core.engine.state after holds core.disk disk t.same.reading t.turns goes told))

-- a file that is none is told only where contents are not told, and then one of these
may_be_none : (files : List ℕ) (codes : List Code) (told : Bool) (file : ℕ) → MayCome codes files told (fault.NotAVolume file) → (told ≡ false) × Contains files file
may_be_none [] codes told file may = absurd may
may_be_none (first ∷ files) codes told file may = (may.0, subst (Contains (first ∷ files)) (sym may.1) (0, omega arith, refl))

-- what a fault is the cause of
cause_is : (base : Base) (kind : Kind) (before after : Disk) (codes : List Code) (it : EngineFault) (cause : HaltCause) → before.told ≡ base.start.told → base.start.faults ≤ before.faults
    → cause_by it ≡ Some cause → MayCome codes kind.files before.told it → (it ≡ fault.Device → Rose before.faults after.faults) → IsCause base kind after cause
cause_is base kind before after codes fault.Device cause told less is may rose = let same : Device ≡ cause = cc in subst (IsCause base kind after) same (let more = rose refl in omega (arith, more, less))
cause_is base kind before after codes (fault.NotAVolume file) cause told less is may rose =
    let same : NotAVolume file ≡ cause = cc in
    let none = may_be_none kind.files codes before.told file may in
    subst (IsCause base kind after) same (sym told ∙ none.0, none.1)
cause_is base kind before after codes fault.Memory cause told less is may rose = cc
cause_is base kind before after codes (fault.Code it) cause told less is may rose = cc

-- any other fault leaves the engine as it was
pub no_cause_goes_on : (T : Type 0) (it : EngineFault) → cause_by it ≡ None → EngineGoesOn {T = T} (Err it)
no_cause_goes_on T fault.Device is = cc
no_cause_goes_on T (fault.NotAVolume file) is = tt
no_cause_goes_on T fault.Memory is = tt
no_cause_goes_on T (fault.Code it) is = tt

-- it halts the run
pub turned_halts : (past : Past) (was : EngineState) (given : List ℕ) (core : Core) {T : Type 0} (it : EngineFault) (codes : List Code) (cause : HaltCause) (next after : EngineState) (kind : Kind) (reading : Reading) (holds : List File → Type 0) (disk : Disk) (a b : Gist)
    → Turned {T = T} past was given core (Err it) next after kind reading holds disk a b → cause_by it ≡ Some cause → MayCome codes core.engine.kind.files core.disk.told it
    → HaltsBy past (core_of core.server kind reading after holds disk) cause
turned_halts past was given core {T = T} it codes cause next after kind reading holds disk a b t is may =
    let secure = t.way.ahead.stopped.secure in
    subst (λ (k : Kind). HaltsBy past (core_of core.server k reading after holds disk) cause) (sym t.same.kind)
    (halts_called past was given core a b reading after holds disk cause t.way (turned_called past was given core (Err it) next after kind reading holds disk a b t)
    (cause_is past.base core.engine.kind core.disk disk codes it cause secure.told secure.no_fewer is may (λ same. t.turns.cause.cause (ap (λ (f : EngineFault). Err f) same))))

-- no memory was left: what was ahead still is
pub turned_ahead : (past : Past) (was : EngineState) (given : List ℕ) (core : Core) {T : Type 0} (it : EngineFault) (next after : EngineState) (kind : Kind) (reading : Reading) (holds : List File → Type 0) (disk : Disk) (a b : Gist)
    → Turned {T = T} past was given core (Err it) next after kind reading holds disk a b → cause_by it ≡ None → IsAhead past (core_of core.server kind reading after holds disk)
turned_ahead past was given core {T = T} it next after kind reading holds disk a b t is =
    (turned_way past was given core {T = T} (Err it) next after kind reading holds disk a b t (no_cause_goes_on T it is)).ahead

-- what holds of each want of memory holds of this one
pub by_err : {T : Type 0} (P : Result T AllocError → Type 0) → ((e : AllocError) → P (Err e)) → (r : Result T AllocError) → IsErr r → P r
by_err P each (Ok value) is = cc
by_err P each (Err e) is = each e
