-- The prepare of a statement, by its answer.
use Rattle.std.proofs.Common.{◌≡◌, ℕ, List, [], ◌∷◌, ◌++◌, Some, None, Bool, true, false, Result, Ok, Err, refl, sym, ◌∙◌, ap, subst}
use Rattle.std.specs.Prelude.{IsErr}
use Rattle.std.specs.declared.alloc.AllocError.{AllocError}
use Rattle.disk_model.specs.File.{File}
use Rattle.disk_model.specs.Disk.{Disk}
use Rattle.row_format.specs.declared.change.Change.{Change}
use Rattle.log_tables.specs.Gists.{after_prepare, is_prepared}
use Rattle.engine_api.specs.declared.fault.Code.{Code}
use Rattle.engine_api.specs.declared.fault.EngineFault.{EngineFault}
use Rattle.engine_api.specs.declared.fault.EngineFault.TheVariants as fault
use Rattle.engine_api.specs.declared.flags.Flags.{Flags}
use Rattle.engine_api.specs.States.{Kind, EngineState, prepared_state}
use Rattle.engine_api.specs.Live.{is_under}
use Rattle.engine_api.specs.Reads.{Reading}
use Rattle.engine_api.specs.Calls.{IsSame, IsRefused, MayCome, AnswersOnly, GoesOn as EngineGoesOn, Turns}
use Rattle.engine_api.specs.declared.fault.Code.TheVariants.{Full}
use Rattle.volume_rules.proofs.ListLemmas.{only_one}
use Rattle.plugd.specs.Asked.{Work}
use Rattle.plugd.specs.declared.reply.HaltCause.{HaltCause}
use Rattle.plugd.specs.Serve.{session}
use Rattle.plugd.specs.declared.statement.Prepared.{Prepared}
use Rattle.plugd.specs.declared.statement.Prepared.TheVariants as prepared
use Rattle.plugd.specs.Serve.{Core}
use Rattle.plugd.specs.Spell.{cause_by}
use Rattle.plugd.specs.Way.{Past, IsToPrepare, Prepares, changed_if}
use Rattle.plugd.proofs.AheadLemmas.{core_of}
use Rattle.plugd.proofs.ChangedLemmas.{changed_state}
use Rattle.plugd.proofs.WayLemmas.{ends_now}
use Rattle.plugd.proofs.DoneLemmas.{share, executed_is, executed_kept, prepared_kept, is_fit, fit_prepared}
use Rattle.plugd.proofs.StepLemmas.{Turned, turned_way, turned_halts, turned_ahead, by_err}

-- the engine has the changes of this statement, and nothing else
pub ready_is : (past : Past) (idle : EngineState) (asks : Work) (changes : List Change) (xid : ℕ) (core : Core) → IsToPrepare past idle asks changes xid core → core.engine.state ≡ changed_state session changes idle.gist
ready_is past idle asks changes xid core is = executed_is past idle asks changes (past.state.given ++ xid ∷ []) core is.touches is.executed

-- nothing of it is prepared yet
pub ready_unprepared : (past : Past) (idle : EngineState) (asks : Work) (changes : List Change) (xid : ℕ) (core : Core) → IsToPrepare past idle asks changes xid core → is_under session core.engine.state ≡ false
ready_unprepared past idle asks changes xid core is = ap (is_under session) (ready_is past idle asks changes xid core is)

-- nor is anything under its xid
pub ready_fresh : (past : Past) (idle : EngineState) (asks : Work) (changes : List Change) (xid : ℕ) (core : Core) → IsToPrepare past idle asks changes xid core → is_prepared xid core.engine.state.gist.prepared ≡ false
ready_fresh past idle asks changes xid core is =
    ap (λ (s : EngineState). is_prepared xid s.gist.prepared) (ready_is past idle asks changes xid core is)
    ∙ ap (is_prepared xid) is.executed.way.was_idle.none_prepared

-- JOURNAL can prepare
pub journal_prepares : (past : Past) (idle : EngineState) (asks : Work) (changes : List Change) (xid : ℕ) (core : Core) → IsToPrepare past idle asks changes xid core → core.engine.kind.flags.transactional ≡ true
journal_prepares past idle asks changes xid core is = ap (λ (f : Flags). f.transactional) is.executed.way.ahead.fixed.kind.flags

-- what the prepare did
pub prepare_turned : (past : Past) (idle : EngineState) (asks : Work) (changes : List Change) (xid : ℕ) (core : Core) {T : Type 0} (result : Result T EngineFault) (after : EngineState) (kind : Kind) (reading : Reading) (holds : List File → Type 0) (disk : Disk)
    → IsToPrepare past idle asks changes xid core → IsSame core.engine.kind kind core.engine.reading reading
    → Turns core.engine.kind core.engine.reading result (prepared_state session xid core.engine.state) core.engine.state after holds core.disk disk
    → Turned past idle (past.state.given ++ xid ∷ []) core result (prepared_state session xid core.engine.state) after kind reading holds disk idle.gist (after_prepare (share xid changes) idle.gist)
prepare_turned past idle asks changes xid core result after kind reading holds disk is same turns = record {
  way = is.executed.way;
  same = same;
  turns = turns;
  had = executed_kept past idle asks changes (past.state.given ++ xid ∷ []) core is.touches is.executed;
  gets = prepared_kept past idle asks changes (past.state.given ++ xid ∷ []) core xid is.touches is.executed;
  goes = λ told could. (
    ((is.executed.way.rest told).recovered could).recoverable,
    fit_prepared past core idle.gist changes xid (is_fit past idle asks changes (past.state.given ++ xid ∷ []) core xid is.touches is.executed.way is.executed.granted is.next told could),
  );
}

-- it is prepared
pub prepares_done : (xid : ℕ) (core : Core) {T : Type 0} (value : T) (after : EngineState) (kind : Kind) (reading : Reading) (holds : List File → Type 0) (disk : Disk)
    → IsSame core.engine.kind kind core.engine.reading reading
    → Turns {T = T} core.engine.kind core.engine.reading (Ok value) (prepared_state session xid core.engine.state) core.engine.state after holds core.disk disk
    → Prepares xid core (core_of core.server kind reading after holds disk) (Ok prepared.Done)
prepares_done xid core value after kind reading holds disk same turns = record {
  done = λ past idle asks changes is answer. record {
    touches = is.touches;
    way = turned_way past idle (past.state.given ++ xid ∷ []) core (Ok value) (prepared_state session xid core.engine.state) after kind reading holds disk idle.gist (after_prepare (share xid changes) idle.gist)
        (prepare_turned past idle asks changes xid core (Ok value) after kind reading holds disk is same turns) tt;
    granted = is.executed.granted;
    next = is.next;
    state = turns.ok ∙ ap (prepared_state session xid) (is.executed.state ∙ ap (λ (b : Bool). changed_if b changes idle) is.touches);
  };
  full = λ past idle asks changes is answer. cc;
  halted = λ past idle asks changes is cause answer. cc;
  err = λ past idle asks changes is. tt;
}

-- its journal has no room
pub prepares_full : (xid : ℕ) (core : Core) {T : Type 0} (found : EngineFault) (code : Code) (after : EngineState) (kind : Kind) (reading : Reading) (holds : List File → Type 0) (disk : Disk)
    → IsSame core.engine.kind kind core.engine.reading reading
    → Turns {T = T} core.engine.kind core.engine.reading (Err found) (prepared_state session xid core.engine.state) core.engine.state after holds core.disk disk → found ≡ fault.Code code
    → Prepares xid core (core_of core.server kind reading after holds disk) (Ok prepared.Full)
prepares_full xid core {T = T} found code after kind reading holds disk same turns is_code = record {
  done = λ past idle asks changes is answer. cc;
  full = λ past idle asks changes is answer. record {
    touches = is.touches;
    executed = record {
      way = turned_way past idle (past.state.given ++ xid ∷ []) core {T = T} (Err found) (prepared_state session xid core.engine.state) after kind reading holds disk idle.gist (after_prepare (share xid changes) idle.gist)
          (prepare_turned past idle asks changes xid core (Err found) after kind reading holds disk is same turns) (subst (λ (f : EngineFault). EngineGoesOn {T = T} (Err f)) (sym is_code) tt);
      catalog = is.executed.catalog;
      granted = is.executed.granted;
      state = turns.refused (subst (λ (f : EngineFault). IsRefused {T = T} (Err f)) (sym is_code) tt) ∙ is.executed.state;
    };
    next = is.next;
  };
  halted = λ past idle asks changes is cause answer. cc;
  err = λ past idle asks changes is. tt;
}

-- the call halts the run
pub prepares_halted : (xid : ℕ) (core : Core) {T : Type 0} (found : EngineFault) (codes : List Code) (cause : HaltCause) (after : EngineState) (kind : Kind) (reading : Reading) (holds : List File → Type 0) (disk : Disk)
    → IsSame core.engine.kind kind core.engine.reading reading
    → Turns {T = T} core.engine.kind core.engine.reading (Err found) (prepared_state session xid core.engine.state) core.engine.state after holds core.disk disk
    → cause_by found ≡ Some cause → MayCome codes core.engine.kind.files core.disk.told found
    → Prepares xid core (core_of core.server kind reading after holds disk) (Ok (prepared.Halted cause))
prepares_halted xid core {T = T} found codes cause after kind reading holds disk same turns is_cause may = record {
  done = λ past idle asks changes is answer. cc;
  full = λ past idle asks changes is answer. cc;
  halted = λ past idle asks changes is told answer.
      let one : cause ≡ told = cc in
      turned_halts past idle (past.state.given ++ xid ∷ []) core {T = T} found codes told (prepared_state session xid core.engine.state) after kind reading holds disk idle.gist (after_prepare (share xid changes) idle.gist)
      (prepare_turned past idle asks changes xid core {T = T} (Err found) after kind reading holds disk is same turns) (is_cause ∙ ap Some one) may;
  err = λ past idle asks changes is. tt;
}

-- no memory is left
pub prepares_err : (r : Result Prepared AllocError) → IsErr r → (xid : ℕ) (core : Core) {T : Type 0} (found : EngineFault) (after : EngineState) (kind : Kind) (reading : Reading) (holds : List File → Type 0) (disk : Disk)
    → IsSame core.engine.kind kind core.engine.reading reading
    → Turns {T = T} core.engine.kind core.engine.reading (Err found) (prepared_state session xid core.engine.state) core.engine.state after holds core.disk disk
    → cause_by found ≡ None → Prepares xid core (core_of core.server kind reading after holds disk) r
prepares_err r is_err xid core {T = T} found after kind reading holds disk same turns none =
    by_err (λ (r : Result Prepared AllocError). Prepares xid core (core_of core.server kind reading after holds disk) r) (λ e. record {
      done = λ past idle asks changes is answer. cc;
      full = λ past idle asks changes is answer. cc;
      halted = λ past idle asks changes is cause answer. cc;
      err = λ past idle asks changes is.
          ends_now past (core_of core.server kind reading after holds disk)
          (turned_ahead past idle (past.state.given ++ xid ∷ []) core {T = T} found (prepared_state session xid core.engine.state) after kind reading holds disk idle.gist (after_prepare (share xid changes) idle.gist)
          (prepare_turned past idle asks changes xid core {T = T} (Err found) after kind reading holds disk is same turns) none);
    }) r is_err

-- the journal has no room where a prepare is refused
pub spent_where_full : {T S : Type 0} (files : List ℕ) (told : Bool) (found : EngineFault) (code : Code) → found ≡ fault.Code code → AnswersOnly {T = T} (Full ∷ []) files told (Err found) → (found ≡ fault.Code Full → S) → S
spent_where_full files told found code is answers full = full (is ∙ ap (λ (c : Code). fault.Code c) (only_one Full code (subst (MayCome (Full ∷ []) files told) is (answers found refl))))
