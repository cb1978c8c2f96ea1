-- The execution of a text, by its answer.
use Rattle.std.proofs.Common.{◌≡◌, ℕ, List, [], ◌∷◌, ◌++◌, Some, None, Bool, false, Result, Ok, OnOk, IfOk, IsTrue, refl, sym, ◌∙◌, ap, subst}
use Rattle.std.specs.Prelude.{Err, IfErr, IsErr, Contains}
use Rattle.std.specs.declared.alloc.AllocError.{AllocError}
use Rattle.disk_model.specs.File.{File}
use Rattle.disk_model.specs.Disk.{Disk, now}
use Rattle.sql_value.specs.declared.refusal.Refusal.{Refusal}
use Rattle.row_format.specs.declared.change.Change.{Change}
use Rattle.log_tables.specs.declared.gist.Gist.{Gist}
use Rattle.log_tables.specs.declared.table.Definition.{Definition}
use Rattle.log_tables.specs.declared.table.Table.{Table}
use Rattle.engine_api.specs.declared.flags.Flags.{Flags}
use Rattle.engine_api.specs.declared.fault.EngineFault.{EngineFault}
use Rattle.engine_api.specs.declared.fault.EngineFault.TheVariants as fault
use Rattle.engine_api.specs.States.{Kind, EngineState, live_tables}
use Rattle.engine_api.specs.Reads.{Reading}
use Rattle.engine_api.specs.Calls.{IsSame, MayCome, Turns, IsDevice as IsDeviceThere, IsRefused as IsRefusedThere, GoesOn as EngineGoesOn}
use Rattle.sql_effect.specs.declared.shape.EngineFacts.{EngineFacts}
use Rattle.sql_exec.specs.declared.fault.ExecFault.{ExecFault}
use Rattle.sql_exec.specs.declared.fault.ExecFault.TheVariants as exec
use Rattle.sql_exec.specs.CarriesOut.{CarriesOut, IsDevice, IsRefused, GoesOn}
use Rattle.sql_exec.specs.Changes.{with_changes}
use Rattle.dictionary.specs.Dictionary.{DictionaryState}
use Rattle.sql_step.specs.declared.outcome.Outcome.{Outcome}
use Rattle.sql_step.specs.declared.outcome.Outcome.TheVariants.{Rows, Changed, Noted}
use Rattle.sql_step.specs.Catalogs.{Catalog, catalog_of, facts_here}
use Rattle.sql_step.specs.Outcomes.{changes_in, state_behind, IsLoggable}
use Rattle.sql_step.specs.Steps.{CanStep, Refuses, IsTextAnswer, MayEnd}
use Rattle.sql_step.proofs.CarryLemmas.{kept_by}
use Rattle.plugd.specs.declared.reply.HaltCause.{HaltCause}
use Rattle.plugd.specs.declared.reply.HaltCause.TheVariants.{Device, NotAVolume}
use Rattle.plugd.specs.declared.statement.Executed.{Executed}
use Rattle.plugd.specs.declared.statement.Executed.TheVariants as executed
use Rattle.plugd.specs.Asked.{Comes, engine_facts}
use Rattle.plugd.specs.Noting.{AreSound}
use Rattle.plugd.specs.Serve.{session, Core, IsIdle, IsJournal}
use Rattle.plugd.specs.Way.{Past, IsOnWay, IsBegun, SomeOnWay, IsUntouched, IsExecuted, IsExecutedTo, Executes, HaltsBy, EndsAt}
use Rattle.plugd.proofs.AheadLemmas.{core_of}
use Rattle.plugd.proofs.AskedLemmas.{granted_now}
use Rattle.plugd.proofs.CallsLemmas.{idle_is}
use Rattle.plugd.proofs.SoundLemmas.{sound_schemas}
use Rattle.plugd.proofs.StepLemmas.{Turned, turned_way, turned_halts, by_err}
use Rattle.plugd.proofs.WayLemmas.{ends_now}

-- what holds of each run with a statement on its way
abbrev pub EachWay : Core → (Past → Type 0) → Type 0
EachWay core P = (past : Past) → IsBegun past core → P past

-- What is there, as the run tells it.

-- the engine's live tables are those of the catalog
idle_live : (idle : EngineState) (past : Past) → IsIdle idle past.state → live_tables idle ≡ past.state.catalog.live
idle_live idle past is = ap live_tables (idle_is idle past.state is) ∙ is.live

same_catalog : (a b : Catalog) → a.definitions ≡ b.definitions → a.installed ≡ b.installed → a.live ≡ b.live → a ≡ b
same_catalog a b definitions installed live =
    ap (λ (l : List Definition). catalog_with l a.installed a.live) definitions ∙ ap (λ (l : List (List ℕ)). catalog_with b.definitions l a.live) installed
    ∙ ap (catalog_with b.definitions b.installed) live
  where
    catalog_with : List Definition → List (List ℕ) → List Table → Catalog
    catalog_with definitions installed live = record { definitions = definitions; installed = installed; live = live }

catalog_is : (past : Past) (core : Core) → IsBegun past core → catalog_of core.server.dictionary core.engine.state ≡ past.state.catalog
catalog_is past core begun =
    same_catalog (catalog_of core.server.dictionary core.engine.state) past.state.catalog begun.catalog.definitions begun.catalog.installed (idle_live core.engine.state past begun.way.was_idle)

same_facts : (a b : EngineFacts) → a.name ≡ b.name → a.soname ≡ b.soname → a.flags ≡ b.flags → a.keeps_rows ≡ b.keeps_rows → a ≡ b
same_facts a b name soname flags keeps =
    ap (λ (l : List ℕ). facts_with l a.soname a.flags a.keeps_rows) name ∙ ap (λ (l : List ℕ). facts_with b.name l a.flags a.keeps_rows) soname
    ∙ ap (λ (f : Flags). facts_with b.name b.soname f a.keeps_rows) flags ∙ ap (facts_with b.name b.soname b.flags) keeps
  where
    facts_with : List ℕ → List ℕ → Flags → Bool → EngineFacts
    facts_with name soname flags keeps = record { name = name; soname = soname; flags = flags; keeps_rows = keeps }

facts_are : (kind : Kind) → IsJournal kind → facts_here kind ≡ engine_facts
facts_are kind is = same_facts (facts_here kind) engine_facts is.name is.library is.flags refl

-- The engine can carry out a text.
pub some_can : (core : Core) → SomeOnWay core → CanStep core.server.dictionary core.engine.kind core.engine.reading core.engine.state core.engine.holds core.disk
some_can core (past, begun) =
    let way = begun.way in
    let idle = way.was_idle in
    record {
      schemas = sound_schemas core.server.dictionary.definitions (subst (λ ds. AreSound ds) (sym begun.catalog.definitions) way.ahead.sound);
      idle = record { nothing = idle.pending; unprepared = idle.none_prepared };
      synced = idle.kept;
      at_work = λ told. (way.rest (subst IsTrue way.ahead.stopped.secure.told told)).at_work;
    }

-- What it did to the engine, as one call.
abbrev as_call : Result Outcome ExecFault → Result (Unit {0}) EngineFault
as_call (Ok outcome) = Ok tt
as_call (Err (exec.Refused refusal)) = Err fault.Memory
as_call (Err exec.Device) = Err fault.Device
as_call (Err (exec.NotAVolume file)) = Err (fault.NotAVolume file)
as_call (Err exec.Memory) = Err fault.Memory

as_device : (r : Result Outcome ExecFault) → IsDeviceThere (as_call r) → IsDevice r
as_device (Ok outcome) is = absurd cc
as_device (Err (exec.Refused refusal)) is = absurd cc
as_device (Err exec.Device) is = refl
as_device (Err (exec.NotAVolume file)) is = absurd cc
as_device (Err exec.Memory) is = absurd cc

as_refused : (r : Result Outcome ExecFault) → IsRefusedThere (as_call r) → IsRefused r
as_refused (Ok outcome) is = absurd is
as_refused (Err (exec.Refused refusal)) is = tt
as_refused (Err exec.Device) is = absurd is
as_refused (Err (exec.NotAVolume file)) is = tt
as_refused (Err exec.Memory) is = tt

as_goes : (r : Result Outcome ExecFault) → EngineGoesOn (as_call r) → GoesOn r
as_goes (Ok outcome) is = tt
as_goes (Err (exec.Refused refusal)) is = tt
as_goes (Err exec.Device) is = absurd is
as_goes (Err (exec.NotAVolume file)) is = tt
as_goes (Err exec.Memory) is = tt

as_ok : (r : Result Outcome ExecFault) (P : Type 0) → OnOk r P → OnOk (as_call r) P
as_ok (Ok outcome) P is = is
as_ok (Err (exec.Refused refusal)) P is = tt
as_ok (Err exec.Device) P is = tt
as_ok (Err (exec.NotAVolume file)) P is = tt
as_ok (Err exec.Memory) P is = tt

as_turns : (kind : Kind) (reading : Reading) (r : Result Outcome ExecFault) (next s new : EngineState) (holds : List File → Type 0) (a b : Disk) → CarriesOut kind reading r next s new holds a b
    → Turns kind reading (as_call r) next s new holds a b
as_turns kind reading r next s new holds a b carries = record {
  ok = as_ok r (new ≡ next) carries.ok;
  refused = λ is. carries.refused (as_refused r is);
  cause = record { told = carries.cause.told; later = carries.cause.later; no_fewer = carries.cause.no_fewer; cause = λ is. carries.cause.cause (as_device r is) };
  moments = carries.moments;
  files = λ told goes. carries.files told (as_goes r goes);
}

-- What carrying out a text leaves of the way.
carried : (past : Past) (core : Core) (r : Result Outcome ExecFault) (after : EngineState) (kind : Kind) (reading : Reading) (holds : List File → Type 0) (disk : Disk) → IsBegun past core
    → IsSame core.engine.kind kind core.engine.reading reading
    → CarriesOut core.engine.kind core.engine.reading r (state_behind session r core.engine.state) core.engine.state after holds core.disk disk
    → Turned past core.engine.state past.state.given core (as_call r) (state_behind session r core.engine.state) after kind reading holds disk core.engine.state.gist core.engine.state.gist
carried past core r after kind reading holds disk begun same carries = record {
  way = begun.way;
  same = same;
  turns = as_turns core.engine.kind core.engine.reading r (state_behind session r core.engine.state) core.engine.state after holds core.disk disk carries;
  had = begun.way.was_idle.kept;
  gets = kept_behind r ∙ begun.way.was_idle.kept;
  goes = λ told could. let is = ((begun.way.rest told).recovered could).recoverable in (is, is);
}
  where
    kept_behind : (r : Result Outcome ExecFault) → (state_behind session r core.engine.state).kept ≡ core.engine.state.kept
    kept_behind r = kept_by session (changes_in r) core.engine.state

-- it goes on
carried_way : (past : Past) (core : Core) (r : Result Outcome ExecFault) (after : EngineState) (kind : Kind) (reading : Reading) (holds : List File → Type 0) (disk : Disk) → IsBegun past core
    → IsSame core.engine.kind kind core.engine.reading reading
    → CarriesOut core.engine.kind core.engine.reading r (state_behind session r core.engine.state) core.engine.state after holds core.disk disk → EngineGoesOn (as_call r)
    → IsOnWay past core.engine.state past.state.given (core_of core.server kind reading after holds disk)
carried_way past core r after kind reading holds disk begun same carries goes =
    turned_way past core.engine.state past.state.given core (as_call r) (state_behind session r core.engine.state) after kind reading holds disk core.engine.state.gist core.engine.state.gist
    (carried past core r after kind reading holds disk begun same carries) goes

-- what is answered of what the dictionary and the engine tell is answered of the catalog
answers_here : (past : Past) (core : Core) (text files : List ℕ) (told : Bool) (r : Result Outcome ExecFault) → IsBegun past core
    → IsTextAnswer (catalog_of core.server.dictionary core.engine.state) (facts_here core.engine.kind) files told text r → IsTextAnswer past.state.catalog engine_facts files told text r
answers_here past core text files told r begun answer =
    subst (λ (f : EngineFacts). IsTextAnswer past.state.catalog f files told text r) (facts_are core.engine.kind begun.way.ahead.fixed.kind)
    (subst (λ (c : Catalog). IsTextAnswer c (facts_here core.engine.kind) files told text r) (catalog_is past core begun) answer)

-- It came to something.
pub executes_done : (text : List ℕ) (core : Core) (outcome : Outcome) (after : EngineState) (kind : Kind) (reading : Reading) (holds : List File → Type 0) (disk : Disk)
    → IsSame core.engine.kind kind core.engine.reading reading
    → CarriesOut core.engine.kind core.engine.reading (Ok outcome) (state_behind session (Ok outcome) core.engine.state) core.engine.state after holds core.disk disk
    → IsTextAnswer (catalog_of core.server.dictionary core.engine.state) (facts_here core.engine.kind) core.engine.kind.files core.disk.told text (Ok outcome) → IsLoggable outcome
    → Executes text core (core_of core.server kind reading after holds disk) (Ok (executed.Done outcome))
executes_done text core outcome after kind reading holds disk same carries answer loggable = record {
  done = λ past begun it is. let alike : outcome ≡ it = cc in subst (λ (o : Outcome). IsExecutedTo past core.engine.state text o (core_of core.server kind reading after holds disk)) alike (by past begun);
  refused = λ past begun refusal is. cc;
  halted = λ past begun cause is. cc;
  err = λ past begun. tt;
}
  where
    way : (past : Past) → IsBegun past core → IsOnWay past core.engine.state past.state.given (core_of core.server kind reading after holds disk)
    way past begun = carried_way past core (Ok outcome) after kind reading holds disk begun same carries tt

    comes : (past : Past) → IsBegun past core → Comes text past.state.catalog outcome
    comes past begun = answers_here past core text core.engine.kind.files core.disk.told (Ok outcome) begun answer

    by : (past : Past) → IsBegun past core → IsExecutedTo past core.engine.state text outcome (core_of core.server kind reading after holds disk)
    by past begun = at outcome (comes past begun) loggable carries.ok
      where
        at : (o : Outcome) → Comes text past.state.catalog o → IsLoggable o → after ≡ state_behind session (Ok o) core.engine.state
            → IsExecutedTo past core.engine.state text o (core_of core.server kind reading after holds disk)
        at (Rows rows) is can state = (is, record { way = way past begun; catalog = begun.catalog; state = state })
        at (Changed count changes) is can state = record { way = way past begun; catalog = begun.catalog; granted = granted_now past text (Changed count changes) is can; state = state }
        at (Noted changes) is can state = record { way = way past begun; catalog = begun.catalog; granted = granted_now past text (Noted changes) is can; state = state }

-- It is refused.
refused_so : (text : List ℕ) (core : Core) (refusal : Refusal) (after : EngineState) (kind : Kind) (reading : Reading) (holds : List File → Type 0) (disk : Disk)
    → IsSame core.engine.kind kind core.engine.reading reading
    → CarriesOut {T = Outcome} core.engine.kind core.engine.reading (Err (exec.Refused refusal)) (state_behind session (Err (exec.Refused refusal)) core.engine.state) core.engine.state after holds core.disk disk
    → IsTextAnswer (catalog_of core.server.dictionary core.engine.state) (facts_here core.engine.kind) core.engine.kind.files core.disk.told text (Err (exec.Refused refusal))
    → Executes text core (core_of core.server kind reading after holds disk) (Ok (executed.Refused refusal))
refused_so text core refusal after kind reading holds disk same carries answer = record {
  done = λ past begun it is. cc;
  refused = λ past begun it is.
      let alike : refusal ≡ it = cc in
      subst (λ (r : Refusal). Refuses past.state.catalog engine_facts text r × IsUntouched past core.engine.state (core_of core.server kind reading after holds disk)) alike (
        answers_here past core text core.engine.kind.files core.disk.told (Err (exec.Refused refusal)) begun answer,
        record { way = carried_way past core (Err (exec.Refused refusal)) after kind reading holds disk begun same carries tt; catalog = begun.catalog; state = carries.refused tt },
      );
  halted = λ past begun cause is. cc;
  err = λ past begun. tt;
}

-- The device failed, or a file of the engine is none.
may_come : (core : Core) (text : List ℕ) (file : ℕ) (files : List ℕ) (told : Bool) (catalog : Catalog) (facts : EngineFacts) → IsTextAnswer catalog facts files told text (Err (exec.NotAVolume file))
    → MayCome [] files told (fault.NotAVolume file)
may_come core text file [] told catalog facts may = absurd may
may_come core text file (first ∷ files) told catalog facts may = may

halts_by : (text : List ℕ) (core : Core) (cause : HaltCause) (new : Core) → EachWay core (λ past. HaltsBy past new cause) → Executes text core new (Ok (executed.Halted cause))
halts_by text core cause new each = record {
  done = λ past begun it is. cc;
  refused = λ past begun refusal is. cc;
  halted = λ past begun it is. let alike : cause ≡ it = cc in subst (λ (c : HaltCause). HaltsBy past new c) alike (each past begun);
  err = λ past begun. tt;
}

device_so : (text : List ℕ) (core : Core) (after : EngineState) (kind : Kind) (reading : Reading) (holds : List File → Type 0) (disk : Disk)
    → IsSame core.engine.kind kind core.engine.reading reading
    → CarriesOut {T = Outcome} core.engine.kind core.engine.reading (Err exec.Device) (state_behind session (Err exec.Device) core.engine.state) core.engine.state after holds core.disk disk
    → Executes text core (core_of core.server kind reading after holds disk) (Ok (executed.Halted Device))
device_so text core after kind reading holds disk same carries =
    halts_by text core Device (core_of core.server kind reading after holds disk) (λ past begun.
    turned_halts past core.engine.state past.state.given core {T = Unit {0}} fault.Device [] Device (state_behind session (Err exec.Device) core.engine.state) after kind reading holds disk core.engine.state.gist core.engine.state.gist
    (carried past core (Err exec.Device) after kind reading holds disk begun same carries) refl tt)

none_so : (text : List ℕ) (core : Core) (file : ℕ) (after : EngineState) (kind : Kind) (reading : Reading) (holds : List File → Type 0) (disk : Disk)
    → IsSame core.engine.kind kind core.engine.reading reading
    → CarriesOut {T = Outcome} core.engine.kind core.engine.reading (Err (exec.NotAVolume file)) (state_behind session (Err (exec.NotAVolume file)) core.engine.state) core.engine.state after holds core.disk disk
    → IsTextAnswer (catalog_of core.server.dictionary core.engine.state) (facts_here core.engine.kind) core.engine.kind.files core.disk.told text (Err (exec.NotAVolume file))
    → Executes text core (core_of core.server kind reading after holds disk) (Ok (executed.Halted (NotAVolume file)))
none_so text core file after kind reading holds disk same carries answer =
    halts_by text core (NotAVolume file) (core_of core.server kind reading after holds disk) (λ past begun.
    turned_halts past core.engine.state past.state.given core {T = Unit {0}} (fault.NotAVolume file) [] (NotAVolume file) (state_behind session (Err (exec.NotAVolume file)) core.engine.state) after kind reading holds disk
    core.engine.state.gist core.engine.state.gist
    (carried past core (Err (exec.NotAVolume file)) after kind reading holds disk begun same carries) refl
    (may_come core text file core.engine.kind.files core.disk.told (catalog_of core.server.dictionary core.engine.state) (facts_here core.engine.kind) answer))

-- There was no memory.
ended_so : (text : List ℕ) (core : Core) (e : AllocError) (after : EngineState) (kind : Kind) (reading : Reading) (holds : List File → Type 0) (disk : Disk)
    → IsSame core.engine.kind kind core.engine.reading reading
    → CarriesOut {T = Outcome} core.engine.kind core.engine.reading (Err exec.Memory) (state_behind session (Err exec.Memory) core.engine.state) core.engine.state after holds core.disk disk
    → Executes text core (core_of core.server kind reading after holds disk) (Err e)
ended_so text core e after kind reading holds disk same carries = record {
  done = λ past begun it is. cc;
  refused = λ past begun refusal is. cc;
  halted = λ past begun cause is. cc;
  err = λ past begun. ends_now past (core_of core.server kind reading after holds disk) (carried_way past core (Err exec.Memory) after kind reading holds disk begun same carries tt).ahead;
}

-- The same of a fault that is one of these.

abbrev Carried : Core → ExecFault → EngineState → (List File → Type 0) → Disk → Type 0
Carried core f after holds disk = CarriesOut {T = Outcome} core.engine.kind core.engine.reading (Err f) (state_behind session (Err f) core.engine.state) core.engine.state after holds core.disk disk

abbrev Answered : Core → List ℕ → ExecFault → Type 0
Answered core text f = IsTextAnswer (catalog_of core.server.dictionary core.engine.state) (facts_here core.engine.kind) core.engine.kind.files core.disk.told text (Err f)

pub executes_refused : (text : List ℕ) (core : Core) (found : ExecFault) (refusal : Refusal) (after : EngineState) (kind : Kind) (reading : Reading) (holds : List File → Type 0) (disk : Disk)
    → found ≡ exec.Refused refusal → IsSame core.engine.kind kind core.engine.reading reading → Carried core found after holds disk → Answered core text found
    → Executes text core (core_of core.server kind reading after holds disk) (Ok (executed.Refused refusal))
executes_refused text core found refusal after kind reading holds disk is same carries answer =
    refused_so text core refusal after kind reading holds disk same (subst (λ (f : ExecFault). Carried core f after holds disk) is carries) (subst (Answered core text) is answer)

pub executes_device : (text : List ℕ) (core : Core) (found : ExecFault) (after : EngineState) (kind : Kind) (reading : Reading) (holds : List File → Type 0) (disk : Disk)
    → found ≡ exec.Device → IsSame core.engine.kind kind core.engine.reading reading → Carried core found after holds disk
    → Executes text core (core_of core.server kind reading after holds disk) (Ok (executed.Halted Device))
executes_device text core found after kind reading holds disk is same carries =
    device_so text core after kind reading holds disk same (subst (λ (f : ExecFault). Carried core f after holds disk) is carries)

pub executes_none : (text : List ℕ) (core : Core) (found : ExecFault) (file : ℕ) (after : EngineState) (kind : Kind) (reading : Reading) (holds : List File → Type 0) (disk : Disk)
    → found ≡ exec.NotAVolume file → IsSame core.engine.kind kind core.engine.reading reading → Carried core found after holds disk → Answered core text found
    → Executes text core (core_of core.server kind reading after holds disk) (Ok (executed.Halted (NotAVolume file)))
executes_none text core found file after kind reading holds disk is same carries answer =
    none_so text core file after kind reading holds disk same (subst (λ (f : ExecFault). Carried core f after holds disk) is carries) (subst (Answered core text) is answer)

pub executes_ended : (text : List ℕ) (core : Core) (found : ExecFault) (e : AllocError) (after : EngineState) (kind : Kind) (reading : Reading) (holds : List File → Type 0) (disk : Disk)
    → found ≡ exec.Memory → IsSame core.engine.kind kind core.engine.reading reading → Carried core found after holds disk
    → Executes text core (core_of core.server kind reading after holds disk) (Err e)
executes_ended text core found e after kind reading holds disk is same carries =
    ended_so text core e after kind reading holds disk same (subst (λ (f : ExecFault). Carried core f after holds disk) is carries)
