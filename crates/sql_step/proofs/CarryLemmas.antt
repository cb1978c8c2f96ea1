-- What a plan does to the engine, told by what it came to.
use Rattle.std.proofs.Common.{◌≡◌, ◌<◌, ℕ, List, [], ◌∷◌, ◌++◌, length, Option, Some, None, Result, Ok, OnOk, IsErrAnd, refl, sym, ap, subst, ◌∙◌, arith}
use Rattle.std.specs.Prelude.{Err, Contains, IfOk}
use Rattle.disk_model.specs.File.{File}
use Rattle.disk_model.specs.Disk.{Disk, now}
use Rattle.sql_value.specs.declared.refusal.Refusal.{Refusal}
use Rattle.sql_value.specs.declared.value.Value.{Value}
use Rattle.row_format.specs.declared.change.Change.{Change}
use Rattle.row_format.specs.declared.change.Change.TheVariants as change
use Rattle.log_tables.specs.declared.gist.Gist.{Gist}
use Rattle.engine_api.specs.States.{Kind, EngineState, with_change}
use Rattle.engine_api.specs.Reads.{Reading}
use Rattle.sql_text.specs.declared.statement.Statement.{Statement}
use Rattle.sql_text.specs.declared.statement.Statement.TheVariants as statement
use Rattle.sql_plan.specs.declared.shape.Plan.{Plan}
use Rattle.sql_effect.specs.declared.shape.Effect.{Effect}
use Rattle.sql_effect.specs.Effects.{answers, makes}
use Rattle.sql_effect.specs.Rewrite.{refused_or}
use Rattle.sql_exec.specs.declared.fault.ExecFault.{ExecFault}
use Rattle.sql_exec.specs.declared.fault.ExecFault.TheVariants.{Refused, Device, NotAVolume, Memory}
use Rattle.sql_exec.specs.CarriesOut.{CarriesOut, IsDevice, IsRefused, GoesOn}
use Rattle.sql_exec.specs.Changes.{with_changes}
use Rattle.sql_exec.specs.Executes.{plan_effect, work_effect, planned_state, refused_state, changes_told, CanExecute, CanWork}
use Rattle.sql_exec.specs.Selects.{IsInOrder, refusal_of, rows_of}
use Rattle.sql_exec.specs.Spelt.{CanBeSpelt}
use Rattle.sql_exec.proofs.BackLemmas.{moments_as}
use Rattle.sql_exec.proofs.RunLemmas.{same_goes, on_ok, is_device}
use Rattle.sql_exec.proofs.CarryLemmas.{refused_so, fails_so}
use Rattle.sql_step.specs.declared.outcome.Outcome.{Outcome}
use Rattle.sql_step.specs.declared.outcome.Outcome.TheVariants as outcome
use Rattle.sql_step.specs.Outcomes.{outcome_of, changes_of, changes_in, state_behind, IsLoggable}
use Rattle.sql_step.specs.Steps.{HasRows}

-- changes keep the gists that an image may read as
pub kept_by : (txn : ℕ) (cs : List Change) (s : EngineState) → (with_changes txn cs s).kept ≡ s.kept
kept_by txn [] s = refl
kept_by txn (c ∷ cs) s = kept_by txn cs (with_change txn c s)

-- an engine that has synced what it has is as it was behind a sync
pub back_is : (asks : Statement) (s : EngineState) → s.kept ≡ s.gist ∷ [] → refused_state asks s ≡ s
back_is (statement.Insert table rows) s synced = ap (λ (k : List Gist). state_with k) (sym synced)
  where
    state_with : List Gist → EngineState
    state_with k = record { gist = s.gist; pending = s.pending; kept = k }
back_is _ s synced = refl

-- What was carried out by one result, told by another: done where that is, and the same fault.
turned : {T U : Type 0} (kind : Kind) (reading : Reading) (inner : Result T ExecFault) (outer : Result U ExecFault) (next other back last new : EngineState) (holds : List File → Type 0) (a b : Disk)
    → CarriesOut kind reading inner next back new holds a b → OnOk outer (new ≡ other) → (IsRefused outer → IsRefused inner)
    → (GoesOn outer → GoesOn inner) × (IsDevice outer → IsDevice inner) → back ≡ last → next.kept ≡ other.kept
    → CarriesOut kind reading outer other last new holds a b
turned kind reading inner outer next other back last new holds a b first ok refuses goes same kept = record {
  ok = ok;
  refused = λ is. first.refused (refuses is) ∙ same;
  cause = record { told = first.cause.told; later = first.cause.later; no_fewer = first.cause.no_fewer; cause = λ is. first.cause.cause (goes.1 is) };
  moments = λ told. moments_as kind reading (back.kept ++ next.kept) (last.kept ++ other.kept) a b
      (λ g has. subst (λ (l : List Gist). Contains l g) (ap (λ (e : EngineState). e.kept ++ next.kept) same ∙ ap (λ (l : List Gist). last.kept ++ l) kept) has) (first.moments told);
  files = λ told on. first.files told (goes.0 on);
}

none_told : (o : Option Refusal) (rows : List (List Value)) → changes_told (refused_or o (Ok (answers rows))) ≡ []
none_told None rows = refl
none_told (Some r) rows = refl

-- The changes of a plan are those of what it came to.
changes_same : (asks : Statement) (plan : Plan) (kind : Kind) (s : EngineState) (txn : ℕ) (it : Effect) → plan.work ≡ asks → CanWork txn asks plan kind s
    → (IsInOrder asks plan.schema s → plan_effect 0 plan kind s ≡ Ok it) → changes_told (plan_effect 0 plan kind s) ≡ changes_of (outcome_of asks it)
changes_same (statement.Select table names where_is) plan kind s txn it work can shown =
    let asks = statement.Select table names where_is in
    ap changes_told (ap (λ (w : Statement). work_effect 0 w plan.schema kind s) work) ∙ none_told (refusal_of asks plan.schema.columns s) (rows_of asks plan.schema.columns s)
changes_same (statement.Create table items engine) plan kind s txn it work can shown = ap changes_told (shown tt)
changes_same (statement.Drop table) plan kind s txn it work can shown = ap changes_told (shown tt)
changes_same (statement.Insert table rows) plan kind s txn it work can shown = ap changes_told (shown tt)
changes_same _ plan kind s txn it work can shown = absurd can

-- A plan was carried out.
pub plan_done : (kind : Kind) (reading : Reading) (plan : Plan) (txn : ℕ) (it : Effect) (o : Outcome) (s new : EngineState) (holds : List File → Type 0) (a b : Disk) → CanExecute txn plan kind s
    → s.kept ≡ s.gist ∷ [] → (IsInOrder plan.work plan.schema s → plan_effect 0 plan kind s ≡ Ok it) → o ≡ outcome_of plan.work it
    → CarriesOut kind reading (Ok it) (planned_state txn 0 plan kind s) (refused_state plan.work s) new holds a b
    → CarriesOut kind reading (Ok o) (state_behind txn (Ok o) s) s new holds a b
plan_done kind reading plan txn it o s new holds a b can synced shown is first =
    let same = ap (λ (l : List Change). with_changes txn l s) (changes_same plan.work plan kind s txn it refl can shown ∙ ap changes_of (sym is)) in
    turned kind reading (Ok it) (Ok o) (planned_state txn 0 plan kind s) (state_behind txn (Ok o) s) (refused_state plan.work s) s new holds a b first
    (first.ok ∙ same) (λ is. absurd is) ((λ on. tt), (λ is. absurd (done_no_device is))) (back_is plan.work s synced) (ap (λ (e : EngineState). e.kept) same)
  where
    done_no_device : IsDevice {T = Outcome} (Ok o) → ⊥
    done_no_device is = cc

-- A fault of a plan is told.
pub plan_failed : (kind : Kind) (reading : Reading) (plan : Plan) (txn : ℕ) (inner : Result Effect ExecFault) (outer : Result Outcome ExecFault) (fault : ExecFault) (s new : EngineState)
    (holds : List File → Type 0) (a b : Disk) → s.kept ≡ s.gist ∷ [] → inner ≡ Err fault → IsErrAnd outer (λ e. e ≡ fault)
    → CarriesOut kind reading inner (planned_state txn 0 plan kind s) (refused_state plan.work s) new holds a b
    → CarriesOut kind reading outer (state_behind txn outer s) s new holds a b
plan_failed kind reading plan txn inner outer fault s new holds a b synced is tells first =
    turned kind reading inner outer (planned_state txn 0 plan kind s) (state_behind txn outer s) (refused_state plan.work s) s new holds a b first
    (fails_so outer fault (state_behind txn outer s) new tells)
    (λ refused. subst (λ (r : Result Effect ExecFault). IsRefused r) (sym is) (refused_so Effect outer fault tells refused))
    (same_goes inner outer fault is tells) (back_is plan.work s synced)
    (kept_by txn (changes_told (plan_effect 0 plan kind s)) s ∙ sym (kept_by txn (changes_in outer) s))

abbrev done : Effect → Result Effect Refusal
done it = Ok it

same_ok : (a b : Effect) → done a ≡ done b → a ≡ b
same_ok a b e = cc

granted : (o : Option Refusal) (r : Result Effect Refusal) (it : Effect) → refused_or o r ≡ Ok it → r ≡ Ok it
granted None r it is = is
granted (Some x) r it is = cc

-- one change is some
one_some : (c : Change) (cs : List Change) → c ∷ [] ≡ cs → 0 < length cs
one_some c cs is = subst (λ (l : List Change). 0 < length l) is (omega arith)

more_some : (c : Change) (rest cs : List Change) → c ∷ rest ≡ cs → 0 < length cs
more_some c rest cs is = subst (λ (l : List Change). 0 < length l) is (omega arith)

-- What a plan has come to can be logged.
loggable_by : (asks : Statement) (plan : Plan) (kind : Kind) (s : EngineState) (txn : ℕ) (it : Effect) → plan.work ≡ asks → CanWork txn asks plan kind s → HasRows asks
    → (IsInOrder asks plan.schema s → plan_effect 0 plan kind s ≡ Ok it) → CanBeSpelt it → IsLoggable (outcome_of asks it)
loggable_by (statement.Select table names where_is) plan kind s txn it work can rows shown spelt = tt
loggable_by (statement.Create table items engine) plan kind s txn it work can rows shown spelt =
    let asks = statement.Create table items engine in
    let is = granted _ _ it (sym (ap (λ (w : Statement). work_effect 0 w plan.schema kind s) work) ∙ shown tt) in
    record { some = one_some _ it.changes (ap (λ (x : Effect). x.changes) (same_ok _ it is)); few = spelt.few; fit = spelt.fit }
loggable_by (statement.Drop table) plan kind s txn it work can rows shown spelt =
    let is = sym (ap (λ (w : Statement). work_effect 0 w plan.schema kind s) work) ∙ shown tt in
    record { some = one_some (change.Drop table) it.changes (ap (λ (x : Effect). x.changes) (same_ok (makes (change.Drop table)) it is)); few = spelt.few; fit = spelt.fit }
loggable_by (statement.Insert table []) plan kind s txn it work can rows shown spelt = absurd (omega (arith, rows))
loggable_by (statement.Insert table (row ∷ rest)) plan kind s txn it work can rows shown spelt =
    let is = granted _ _ it (granted _ _ it (sym (ap (λ (w : Statement). work_effect 0 w plan.schema kind s) work) ∙ shown tt)) in
    record { some = more_some _ _ it.changes (ap (λ (x : Effect). x.changes) (same_ok _ it is)); few = spelt.few; fit = spelt.fit }
loggable_by _ plan kind s txn it work can rows shown spelt = absurd can

pub plan_loggable : (plan : Plan) (kind : Kind) (s : EngineState) (txn : ℕ) (it : Effect) (o : Outcome) → CanExecute txn plan kind s → HasRows plan.work
    → (IsInOrder plan.work plan.schema s → plan_effect 0 plan kind s ≡ Ok it) → CanBeSpelt it → o ≡ outcome_of plan.work it → IsLoggable o
plan_loggable plan kind s txn it o can rows shown spelt is = subst IsLoggable (sym is) (loggable_by plan.work plan kind s txn it refl can rows shown spelt)
