-- A statement on an engine, by its plan.
use Rattle.std.proofs.Common.{◌≡◌, ℕ, List, [], ◌∷◌, ◌++◌, Result, Ok, OnOk, IfOk, IsTrue, Option, Some, None, Bool, false, refl, sym, ap, subst, ◌∙◌, arith}
use Rattle.std.specs.Prelude.{Err, Contains, IfErr, is_some}
use Rattle.std.specs.Result.{result_err}
use Rattle.std.proofs.lemmas.List.Elements.{Contains-append_left}
use Rattle.disk_model.specs.File.{File}
use Rattle.disk_model.specs.Disk.{Disk, now}
use Rattle.disk_model.proofs.Moments.{started}
use Rattle.sql_value.specs.declared.refusal.Refusal.{Refusal}
use Rattle.sql_value.specs.declared.value.Value.{Value}
use Rattle.row_format.specs.declared.change.Change.{Change}
use Rattle.row_format.specs.declared.change.Change.TheVariants as change
use Rattle.log_tables.specs.declared.gist.Gist.{Gist}
use Rattle.engine_api.specs.States.{Kind, EngineState, xid_of, with_change, synced_state}
use Rattle.engine_api.specs.Reads.{Reading, EachReads, files_in, OnlyIn}
use Rattle.engine_api.specs.Live.{is_under}
use Rattle.engine_api.specs.Many.{IsAtWork, working}
use Rattle.engine_api.proofs.ManyLemmas.{reads_as, same_itself}
use Rattle.sql_text.specs.declared.statement.Cond.{Cond}
use Rattle.sql_text.specs.declared.statement.Item.{Item}
use Rattle.sql_text.specs.declared.statement.Literals.{Literals}
use Rattle.sql_text.specs.declared.statement.Statement.{Statement}
use Rattle.sql_text.specs.declared.statement.Statement.TheVariants as statement
use Rattle.sql_plan.specs.declared.shape.Plan.{Plan}
use Rattle.sql_effect.specs.declared.shape.Effect.{Effect}
use Rattle.sql_effect.specs.Effects.{answers, makes, counts}
use Rattle.sql_effect.specs.Insert.{written}
use Rattle.sql_effect.specs.Rewrite.{refused_or}
use Rattle.sql_exec.specs.declared.fault.ExecFault.{ExecFault}
use Rattle.sql_exec.specs.declared.fault.ExecFault.TheVariants.{Refused, Device, NotAVolume, Memory}
use Rattle.sql_exec.specs.CarriesOut.{IsDevice, CarriesOut, CarriesAlone}
use Rattle.sql_exec.specs.Changes.{with_changes}
use Rattle.sql_exec.specs.Executes.{CanExecute, CanWork, changes_told, plan_effect, planned_state, refused_state, work_effect}
use Rattle.sql_exec.specs.Faults.{FailsFor}
use Rattle.sql_exec.specs.Inserts.{Gives, insert_outcome, inserts_of}
use Rattle.sql_exec.specs.Makes.{create_outcome}
use Rattle.sql_exec.specs.Selects.{refusal_of, rows_of}
use Rattle.sql_exec.proofs.BackLemmas.{moments_as}
use Rattle.sql_exec.proofs.RowsLemmas.{kept_still}
use Rattle.sql_exec.proofs.RunLemmas.{is_device}

-- The state that Ok leaves, told as another that is the same.
next_as : (T : Type 0) (kind : Kind) (reading : Reading) (result : Result T ExecFault) (next other back new : EngineState) (holds : List File → Type 0) (a b : Disk)
    → CarriesOut kind reading result next back new holds a b → OnOk result (next ≡ other) → next.kept ≡ other.kept → CarriesOut kind reading result other back new holds a b
next_as T kind reading result next other back new holds a b first same kept = record {
  ok = both result first.ok same;
  refused = first.refused;
  cause = first.cause;
  moments = λ told. moments_as kind reading (back.kept ++ next.kept) (back.kept ++ other.kept) a b (λ g has. subst (λ (l : List Gist). Contains (back.kept ++ l) g) kept has) (first.moments told);
  files = first.files;
}
  where
    both : (r : Result T ExecFault) → OnOk r (new ≡ next) → OnOk r (next ≡ other) → OnOk r (new ≡ other)
    both (Ok value) first second = first ∙ second
    both (Err fault) first second = tt

no_device : (T : Type 0) (result : Result T ExecFault) (refusal : Option Refusal) → IfErr result (FailsFor refusal) → IsDevice result → ⊥
no_device T (Ok value) refusal fails is = cc
no_device T (Err fault) refusal fails is = subst (FailsFor refusal) (is_device {V = T} fault is) fails

-- the gists of an engine behind a statement that makes no device call
kept_alone : (T : Type 0) (result : Result T ExecFault) (refusal : Option Refusal) (next s new : EngineState) (held holds : List File → Type 0)
    → CarriesAlone result next s new held holds → IfErr result (FailsFor refusal) → next.kept ≡ s.kept → new.kept ≡ s.kept
kept_alone T (Ok value) refusal next s new held holds alone fails kept = ap (λ (e : EngineState). e.kept) alone.ok ∙ kept
kept_alone T (Err (Refused it)) refusal next s new held holds alone fails kept = ap (λ (e : EngineState). e.kept) (alone.refused tt)
kept_alone T (Err Device) refusal next s new held holds alone fails kept = absurd fails
kept_alone T (Err (NotAVolume file)) refusal next s new held holds alone fails kept = ap (λ (e : EngineState). e.kept) (alone.refused tt)
kept_alone T (Err Memory) refusal next s new held holds alone fails kept = ap (λ (e : EngineState). e.kept) (alone.refused tt)

-- A statement that makes no device call, as one that may.
alone_carries : (T : Type 0) (kind : Kind) (reading : Reading) (result : Result T ExecFault) (refusal : Option Refusal) (next s new : EngineState) (held holds : List File → Type 0) (d : Disk)
    → CarriesAlone result next s new held holds → IfErr result (FailsFor refusal) → next.kept ≡ s.kept → (IsTrue d.told → IsAtWork (working kind reading s held) (now d))
    → CarriesOut kind reading result next s new holds d d
alone_carries T kind reading result refusal next s new held holds d alone fails kept work = record {
  ok = alone.ok;
  refused = alone.refused;
  cause = record { told = refl; later = omega arith; no_fewer = omega arith; cause = λ is. absurd (no_device T result refusal fails is) };
  moments = λ told. started d (OnlyIn kind.files (now d) (EachReads reading (s.kept ++ next.kept)))
      ((λ f not. refl), reads_as reading reading s.kept (s.kept ++ next.kept) (files_in kind.files d) (same_itself reading) (λ g h. Contains-append_left s.kept next.kept g h) (work told).reads);
  files = λ told on. (
    alone.files (files_in kind.files d) (work told).holds,
    subst (λ (l : List Gist). EachReads reading l (files_in kind.files d)) (sym (kept_alone T result refusal next s new held holds alone fails kept)) (work told).reads,
  );
}

-- what is answered is this outcome
abbrev Answers : Result Effect Refusal → Result Effect ExecFault → Type 0
Answers outcome result = IfOk result (λ it. outcome ≡ Ok it)

gives_ok : (files : List ℕ) (told : Bool) (outcome : Result Effect Refusal) (result : Result Effect ExecFault) → Gives files told outcome result → Answers outcome result
gives_ok files told outcome (Ok it) gives = gives
gives_ok files told outcome (Err fault) gives = tt

-- what an outcome that is answered changes
on_answer : (outcome : Result Effect Refusal) (cs : List Change) (result : Result Effect ExecFault) → Answers outcome result → ((it : Effect) → outcome ≡ Ok it → it.changes ≡ cs)
    → OnOk result (cs ≡ changes_told outcome)
on_answer outcome cs (Ok it) answers same = sym (same it answers) ∙ ap changes_told (sym answers)
on_answer outcome cs (Err fault) answers same = tt

on_map : {T A B : Type 0} (r : Result T ExecFault) (f : A → B) (x y : A) → OnOk r (x ≡ y) → OnOk r (f x ≡ f y)
on_map (Ok value) f x y is = ap f is
on_map (Err fault) f x y is = tt

-- the effect of an answer, or this one
abbrev effect_in : Result Effect Refusal → Effect → Effect
effect_in (Ok it) other = it
effect_in (Err refusal) other = other

pub granted_is : (o : Option Refusal) (effect it : Effect) → refused_or o (Ok effect) ≡ Ok it → it ≡ effect
granted_is None effect it is = sym (ap (λ (r : Result Effect Refusal). effect_in r effect) is)
granted_is (Some r) effect it is = cc

both_granted : (o p : Option Refusal) (effect it : Effect) → refused_or o (refused_or p (Ok effect)) ≡ Ok it → it ≡ effect
both_granted None p effect it is = granted_is p effect it is
both_granted (Some r) p effect it is = cc

-- An outcome was carried out whose changes are these.
carried : (txn open_bytes : ℕ) (plan : Plan) (kind : Kind) (reading : Reading) (outcome : Result Effect Refusal) (cs : List Change) (result : Result Effect ExecFault)
    (back s new : EngineState) (holds : List File → Type 0) (a b : Disk) → plan_effect open_bytes plan kind s ≡ outcome → refused_state plan.work s ≡ back → is_under txn s ≡ false
    → Answers outcome result → ((it : Effect) → outcome ≡ Ok it → it.changes ≡ cs) → CarriesOut kind reading result (with_changes txn cs s) back new holds a b
    → CarriesOut kind reading result (planned_state txn open_bytes plan kind s) (refused_state plan.work s) new holds a b
carried txn open_bytes plan kind reading outcome cs result back s new holds a b is was free answers same first =
    subst (λ (e : EngineState). CarriesOut kind reading result (planned_state txn open_bytes plan kind s) e new holds a b) (sym was)
    (subst (λ (o : Result Effect Refusal). CarriesOut kind reading result (with_changes txn (changes_told o) s) back new holds a b) (sym is)
    (next_as Effect kind reading result (with_changes txn cs s) (with_changes txn (changes_told outcome) s) back new holds a b first
    (on_map result (λ (l : List Change). with_changes txn l s) cs (changes_told outcome) (on_answer outcome cs result answers same))
    (kept_still txn cs s free ∙ sym (kept_still txn (changes_told outcome) s free))))

effect_is : (open_bytes : ℕ) (plan : Plan) (kind : Kind) (s : EngineState) (asks : Statement) → plan.work ≡ asks → plan_effect open_bytes plan kind s ≡ work_effect open_bytes asks plan.schema kind s
effect_is open_bytes plan kind s asks is = ap (λ (w : Statement). work_effect open_bytes w plan.schema kind s) is

can_is : (txn : ℕ) (plan : Plan) (kind : Kind) (s : EngineState) (asks : Statement) → plan.work ≡ asks → CanExecute txn plan kind s → CanWork txn asks plan kind s
can_is txn plan kind s asks is can = subst (λ (w : Statement). CanWork txn w plan kind s) is can

-- An INSERT.
pub insert_carries : (txn open_bytes : ℕ) (table : List ℕ) (rows : List Literals) (plan : Plan) (kind : Kind) (reading : Reading) (files : List ℕ) (told : Bool) (result : Result Effect ExecFault)
    (s new : EngineState) (holds : List File → Type 0) (a b : Disk) → plan.work ≡ statement.Insert table rows → CanExecute txn plan kind s
    → Gives files told (insert_outcome open_bytes table plan.schema (written rows) s) result
    → CarriesOut kind reading result (with_changes txn (inserts_of table plan.schema (written rows)) s) (synced_state s) new holds a b
    → CarriesOut kind reading result (planned_state txn open_bytes plan kind s) (refused_state plan.work s) new holds a b
insert_carries txn open_bytes table rows plan kind reading files told result s new holds a b is can gives first =
    let idle = (can_is txn plan kind s (statement.Insert table rows) is can).idle in
    let outcome = insert_outcome open_bytes table plan.schema (written rows) s in
    carried txn open_bytes plan kind reading outcome (inserts_of table plan.schema (written rows)) result (synced_state s) s new holds a b
    (effect_is open_bytes plan kind s (statement.Insert table rows) is) (ap (λ (w : Statement). refused_state w s) is) (ap (λ o. is_some (xid_of o)) idle) (gives_ok files told outcome result gives)
    (λ it so. ap (λ (e : Effect). e.changes) (both_granted _ _ (counts (inserts_of table plan.schema (written rows))) it so)) first

-- A SELECT.
pub select_carries : (txn open_bytes : ℕ) (table : List ℕ) (names : Option (List (List ℕ))) (w : Option Cond) (plan : Plan) (kind : Kind) (reading : Reading) (result : Result Effect ExecFault)
    (s new : EngineState) (holds : List File → Type 0) (a b : Disk) → plan.work ≡ statement.Select table names w → CarriesOut kind reading result s s new holds a b
    → CarriesOut kind reading result (planned_state txn open_bytes plan kind s) (refused_state plan.work s) new holds a b
select_carries txn open_bytes table names w plan kind reading result s new holds a b is first =
    let asks = statement.Select table names w in
    subst (λ (e : EngineState). CarriesOut kind reading result (planned_state txn open_bytes plan kind s) e new holds a b) (sym (ap (λ (x : Statement). refused_state x s) is))
    (subst (λ (e : EngineState). CarriesOut kind reading result e s new holds a b)
    (sym (ap (λ (o : Result Effect Refusal). with_changes txn (changes_told o) s) (effect_is open_bytes plan kind s asks is)
    ∙ ap (λ (l : List Change). with_changes txn l s) (none_told (refusal_of asks plan.schema.columns s) (rows_of asks plan.schema.columns s)))) first)
  where
    none_told : (o : Option Refusal) (rows : List (List Value)) → changes_told (refused_or o (Ok (answers rows))) ≡ []
    none_told None rows = refl
    none_told (Some r) rows = refl

-- A CREATE.
pub create_carries : (txn open_bytes : ℕ) (table : List ℕ) (items : List Item) (engine : List ℕ) (plan : Plan) (kind : Kind) (reading : Reading) (result : Result Effect ExecFault)
    (s new : EngineState) (held holds : List File → Type 0) (d : Disk) → plan.work ≡ statement.Create table items engine → CanExecute txn plan kind s
    → (IsTrue d.told → IsAtWork (working kind reading s held) (now d))
    → Answers (create_outcome table plan.schema kind s) result → IfErr result (FailsFor (result_err (create_outcome table plan.schema kind s)))
    → CarriesAlone result (with_change txn (change.Create table kind.name plan.schema) s) s new held holds
    → CarriesOut kind reading result (planned_state txn open_bytes plan kind s) (refused_state plan.work s) new holds d d
create_carries txn open_bytes table items engine plan kind reading result s new held holds d is can work ok err alone =
    let asks = statement.Create table items engine in
    let may = can_is txn plan kind s asks is can in
    let made = change.Create table kind.name plan.schema in
    let outcome = create_outcome table plan.schema kind s in
    carried txn open_bytes plan kind reading outcome (made ∷ []) result s s new holds d d (effect_is open_bytes plan kind s asks is) (ap (λ (w : Statement). refused_state w s) is) may.unprepared
    ok (λ it so. ap (λ (e : Effect). e.changes) (granted_is _ (makes made) it so))
    (alone_carries Effect kind reading result (result_err outcome) (with_change txn made s) s new held holds d alone err (kept_still txn (made ∷ []) s may.unprepared) work)

-- A DROP.
dropped : (table : List ℕ) (result : Result Effect ExecFault) → IfOk result (λ it. it ≡ makes (change.Drop table)) → Answers (Ok (makes (change.Drop table))) result
dropped table (Ok it) is = ap Ok (sym is)
dropped table (Err fault) is = tt

pub drop_carries : (txn open_bytes : ℕ) (table : List ℕ) (plan : Plan) (kind : Kind) (reading : Reading) (result : Result Effect ExecFault) (s new : EngineState) (held holds : List File → Type 0) (d : Disk)
    → plan.work ≡ statement.Drop table → CanExecute txn plan kind s → (IsTrue d.told → IsAtWork (working kind reading s held) (now d))
    → IfOk result (λ it. it ≡ makes (change.Drop table)) → IfErr result (FailsFor None) → CarriesAlone result (with_change txn (change.Drop table) s) s new held holds
    → CarriesOut kind reading result (planned_state txn open_bytes plan kind s) (refused_state plan.work s) new holds d d
drop_carries txn open_bytes table plan kind reading result s new held holds d is can work ok err alone =
    let asks = statement.Drop table in
    let may = can_is txn plan kind s asks is can in
    let outcome : Result Effect Refusal = Ok (makes (change.Drop table)) in
    carried txn open_bytes plan kind reading outcome (change.Drop table ∷ []) result s s new holds d d (effect_is open_bytes plan kind s asks is) (ap (λ (w : Statement). refused_state w s) is) may.unprepared
    (dropped table result ok) (λ it so. ap (λ (e : Effect). e.changes) (granted_is None (makes (change.Drop table)) it so))
    (alone_carries Effect kind reading result None (with_change txn (change.Drop table) s) s new held holds d alone err (kept_still txn (change.Drop table ∷ []) s may.unprepared) work)
