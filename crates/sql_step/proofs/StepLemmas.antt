-- A statement that was planned by the dictionary is carried out on the engine, and what it comes to is its effect on what is seen here.
use Rattle.std.proofs.Common.{◌≡◌, ◌<◌, ◌≤◌, ◌⊎◌, ℕ, List, [], ◌∷◌, ◌++◌, Option, Some, None, Bool, true, false, IsTrue, Result, Ok, OnOk, IsErrAnd, inl, inr, length, refl, sym, ap, subst, ◌∙◌, arith}
use Rattle.std.specs.Prelude.{Err, All, IfOk, IfErr, is_some, is_none, not, ◌||◌, Contains}
use Rattle.std.specs.Result.{result_err}
use Rattle.std.specs.Str.{bytes_eq}
use Rattle.std.specs.List.{list_any}
use Rattle.disk_model.specs.File.{File}
use Rattle.disk_model.specs.Disk.{Disk, now}
use Rattle.sql_value.specs.Names.{IsName}
use Rattle.sql_value.specs.declared.refusal.Refusal.{Refusal}
use Rattle.sql_value.specs.declared.refusal.Refusal.TheVariants.{NoSuchTable, TableExists, UnknownEngine, PluginInstalled, NoSuchLibrary, NotBuilt}
use Rattle.row_format.specs.declared.change.Change.{Change}
use Rattle.row_format.specs.declared.change.Change.TheVariants as change
use Rattle.row_format.specs.declared.schema.Schema.{Schema}
use Rattle.row_format.specs.Rows.{first_of_two}
use Rattle.log_tables.specs.declared.gist.Gist.{Gist}
use Rattle.log_tables.specs.declared.table.Definition.{Definition}
use Rattle.log_tables.specs.declared.table.Table.{Table}
use Rattle.log_tables.specs.Keys.{IsOrdered}
use Rattle.log_tables.specs.Tables.{table_named}
use Rattle.engine_api.specs.declared.flags.Flags.{Flags}
use Rattle.engine_api.specs.States.{Kind, EngineState, with_change, synced_state}
use Rattle.engine_api.specs.Live.{live_rows, live_schema}
use Rattle.engine_api.specs.Reads.{Reading, files_in}
use Rattle.engine_api.specs.Many.{IsAtWork, working}
use Rattle.sql_text.specs.declared.statement.Item.{Item}
use Rattle.sql_text.specs.declared.statement.Statement.{Statement}
use Rattle.sql_text.specs.declared.statement.Statement.TheVariants as statement
use Rattle.sql_text.specs.declared.parser.ParseFault.{ParseFault}
use Rattle.sql_text.specs.declared.parser.ParseFault.TheVariants as parse
use Rattle.sql_text.specs.Statements.{Spells, Refuses as RefusesRead}
use Rattle.sql_plan.specs.declared.shape.Plan.{Plan}
use Rattle.sql_plan.specs.Plans.{plan_refusal, unless, IsOnTable, IsPlan}
use Rattle.sql_effect.specs.declared.shape.Effect.{Effect}
use Rattle.sql_effect.specs.declared.shape.EngineFacts.{EngineFacts}
use Rattle.sql_effect.specs.Effects.{effect_of, use_effect, planned_effect, create_effect, create_in, engine_named, makes, answers}
use Rattle.sql_effect.specs.Rewrite.{refused_or}
use Rattle.sql_effect.proofs.TextLemmas.{read_effect, refused_effect}
use Rattle.sql_exec.specs.declared.fault.ExecFault.{ExecFault}
use Rattle.sql_exec.specs.declared.fault.ExecFault.TheVariants.{Refused, Device, NotAVolume, Memory}
use Rattle.sql_exec.specs.CarriesOut.{CarriesOut, MayFail, IsDevice}
use Rattle.sql_exec.specs.Changes.{with_changes}
use Rattle.sql_exec.specs.Executes.{plan_effect, work_effect, planned_state, refused_state, changes_told, sizes_on, CanExecute, CanWork}
use Rattle.sql_exec.specs.Faults.{FailsFor}
use Rattle.sql_exec.specs.Plannings.{IsIdle, HasSchema, SuitsEngine, SuitsView, IsSeen}
use Rattle.sql_exec.specs.Selects.{IsInOrder}
use Rattle.sql_exec.proofs.PlanningLemmas.{idle_can, same_effect, same_refusal}
use Rattle.sql_exec.proofs.RunLemmas.{no_call}
use Rattle.sql_exec.proofs.SelectLemmas.{work_tells}
use Rattle.dictionary.specs.Dictionary.{DictionaryState, definition_named}
use Rattle.sql_step.specs.declared.outcome.Outcome.{Outcome}
use Rattle.sql_step.specs.declared.outcome.Outcome.TheVariants as outcome
use Rattle.sql_step.specs.Catalogs.{catalog_of, facts_here, table_here, view_here, sizes_here, effect_here, rows_here, is_there, is_from, AreSchemas, IsInOrderHere}
use Rattle.sql_step.specs.Looks.{IsUsable, IsAbsentThere, IsNotUsable, IsMakeable, IsThereAlone, IsNotMakeable}
use Rattle.sql_step.specs.Looks.IsNotUsable.{absent, unserved, differs}
use Rattle.sql_step.specs.Looks.IsNotMakeable.{defined, unserving, taken}
use Rattle.sql_step.specs.Outcomes.{outcome_of, state_behind, AreLoggable}
use Rattle.sql_step.specs.Steps.{CanStep, IsUse, IsMake, HasRows, HasShown, IsNoted, IsText, IsUnbuilt, IsAmiss, IsExcepted, IsRefused, Refuses, ComesTo, MayEnd, IsAnswer, IsTextAnswer}
use Rattle.sql_step.specs.Steps.IsExcepted.{unbuilt, amiss}
use Rattle.sql_step.proofs.LookLemmas.{none_here, some_here, same_some, engine_is, at_hand, not_at_hand, seen_here, schema_here}

-- A statement that uses a table.

-- it is planned for the engine
suits_engine : (asks : Statement) (table : List ℕ) (known : DictionaryState) (kind : Kind) (s : EngineState) (it : Definition) (schema : Schema) → IsUse table asks → IsName table → AreSchemas known.definitions
    → IsUsable table (catalog_of known s) (facts_here kind) it → SuitsEngine asks (Some it) schema s
suits_engine (statement.Drop name) table known kind s it schema is named schemas usable =
    subst (λ (n : List ℕ). HasSchema n it.schema s) (sym is) (schema_here table known kind s it schemas usable)
suits_engine (statement.Insert name rows) table known kind s it schema is named schemas usable =
    (subst IsName (sym is) named, subst (λ (n : List ℕ). HasSchema n it.schema s) (sym is) (schema_here table known kind s it schemas usable))
suits_engine (statement.Select name names where_is) table known kind s it schema is named schemas usable =
    subst (λ (n : List ℕ). HasSchema n it.schema s) (sym is) (schema_here table known kind s it schemas usable)
suits_engine _ table known kind s it schema is named schemas usable = absurd is

-- and for the view
suits_view : (asks : Statement) (table : List ℕ) (known : DictionaryState) (kind : Kind) (s : EngineState) (it : Definition) → IsUse table asks
    → IsUsable table (catalog_of known s) (facts_here kind) it → SuitsView asks (Some it) (view_here (catalog_of known s)) kind s
suits_view (statement.Drop name) table known kind s it is usable =
    subst (λ (n : List ℕ). IsSeen n (Some it) (view_here (catalog_of known s)) kind s) (sym is) (seen_here table known kind s it usable)
suits_view (statement.Insert name rows) table known kind s it is usable =
    subst (λ (n : List ℕ). IsSeen n (Some it) (view_here (catalog_of known s)) kind s) (sym is) (seen_here table known kind s it usable)
suits_view (statement.Select name names where_is) table known kind s it is usable =
    subst (λ (n : List ℕ). IsSeen n (Some it) (view_here (catalog_of known s)) kind s) (sym is) (seen_here table known kind s it usable)
suits_view _ table known kind s it is usable = absurd is

-- a plan by the flags of the engine
plan_as : (asks : Statement) (definition : Option Definition) (flags other : Flags) (plan : Plan) → flags ≡ other → IsPlan asks definition flags plan → IsPlan asks definition other plan
plan_as asks definition flags other plan same planned = subst (λ (f : Flags). IsPlan asks definition f plan) same planned

-- The engine can carry it out.
pub use_can : (asks : Statement) (table : List ℕ) (known : DictionaryState) (kind : Kind) (s : EngineState) (it : Definition) (flags : Flags) (plan : Plan) (txn : ℕ) → IsUse table asks → IsName table → AreSchemas known.definitions
    → IsIdle s → IsUsable table (catalog_of known s) (facts_here kind) it → flags ≡ kind.flags → IsPlan asks (Some it) flags plan → CanExecute txn plan kind s
use_can asks table known kind s it flags plan txn is named schemas idle usable same planned =
    idle_can asks (Some it) plan kind s txn idle (plan_as asks (Some it) flags kind.flags plan same planned) (suits_engine asks table known kind s it plan.schema is named schemas usable)

-- a statement that uses a table is about it
pub use_on_table : (asks : Statement) (table : List ℕ) → IsUse table asks → IsOnTable asks
use_on_table (statement.Drop name) table is = tt
use_on_table (statement.Insert name rows) table is = tt
use_on_table (statement.Select name names where_is) table is = tt
use_on_table _ table is = absurd is

-- it is carried out
use_built : (asks : Statement) (table : List ℕ) → IsUse table asks → IsUnbuilt asks → ⊥
use_built (statement.Drop name) table is not_one = not_one
use_built (statement.Insert name rows) table is not_one = not_one
use_built (statement.Select name names where_is) table is not_one = not_one
use_built _ table is not_one = absurd is

-- its rows are in order
use_order : (asks : Statement) (table : List ℕ) (known : DictionaryState) (kind : Kind) (s : EngineState) (it : Definition) (schema : Schema) → IsUse table asks → it.schema ≡ schema
    → IsUsable table (catalog_of known s) (facts_here kind) it → IsInOrderHere (catalog_of known s) asks → IsInOrder asks schema s
use_order (statement.Select name names where_is) table known kind s it schema is same usable ordered =
    subst (λ (x : Schema). IsOrdered x.key (live_rows name s)) same (ordered it (ap (λ (n : List ℕ). definition_named n known.definitions) is ∙ usable.defined))
use_order (statement.Drop name) table known kind s it schema is same usable ordered = tt
use_order (statement.Insert name rows) table known kind s it schema is same usable ordered = tt
use_order _ table known kind s it schema is same usable ordered = absurd is

-- the schema of its plan is that of the definition
plan_schema : (asks : Statement) (table : List ℕ) (it : Definition) (plan : Plan) (kind : Kind) → IsUse table asks → IsPlan asks (Some it) kind.flags plan → it.schema ≡ plan.schema
plan_schema (statement.Drop name) table it plan kind is planned = same_some planned.made.schema
plan_schema (statement.Insert name rows) table it plan kind is planned = same_some planned.made.schema
plan_schema (statement.Select name names where_is) table it plan kind is planned = same_some planned.made.schema
plan_schema _ table it plan kind is planned = absurd is

-- What a plan has come to is what its statement comes to.
shown_here : (asks : Statement) (definition : Option Definition) (known : DictionaryState) (kind : Kind) (s : EngineState) (plan : Plan) (o : Outcome)
    → (IsUnbuilt asks → ⊥) → effect_here (catalog_of known s) (facts_here kind) asks ≡ plan_effect 0 plan kind s → plan.work ≡ asks → (IsInOrderHere (catalog_of known s) asks → IsInOrder asks plan.schema s) → HasShown plan kind s o → ComesTo (catalog_of known s) (facts_here kind) asks o
shown_here asks definition known kind s plan o built same work order shown = record {
  built = built;
  it = shown.it;
  is = shown.is ∙ ap (λ (w : Statement). outcome_of w shown.it) work;
  effect = λ ordered. same ∙ shown.shown (subst (λ (w : Statement). IsInOrder w plan.schema s) (sym work) (order ordered));
}

-- a fault of a plan is one of its statement
may_end : (P : Refusal → Type 0) (o : Option Refusal) (files : List ℕ) (told : Bool) (fault : ExecFault) → ((r : Refusal) → o ≡ Some r → P r) → MayFail o files told fault → MayEnd P files told fault
may_end P o files told (Refused r) each may = each r may
may_end P o files told Device each may = tt
may_end P o [] told (NotAVolume file) each may = absurd may
may_end P o (first ∷ files) told (NotAVolume file) each may = may
may_end P o files told Memory each may = tt

-- so is one that tells its refusal
ends_for : (P : Refusal → Type 0) (o : Option Refusal) (files : List ℕ) (told : Bool) (fault : ExecFault) → ((r : Refusal) → o ≡ Some r → P r) → FailsFor o fault → MayEnd P files told fault
ends_for P o files told (Refused r) each is = each r is
ends_for P o files told Device each is = absurd is
ends_for P o files told (NotAVolume file) each is = absurd is
ends_for P o files told Memory each is = tt

err_is : (o : Result Effect Refusal) (r : Refusal) → result_err o ≡ Some r → o ≡ Err r
err_is (Ok it) r is = absurd cc
err_is (Err e) r is = ap (λ (x : Refusal). Err x) (same_some is)

-- A result of a plan is an answer of its statement.
answer_by : (asks : Statement) (known : DictionaryState) (kind : Kind) (s : EngineState) (told : Bool) (plan : Plan) (result : Result Outcome ExecFault)
    → (IsUnbuilt asks → ⊥) → effect_here (catalog_of known s) (facts_here kind) asks ≡ plan_effect 0 plan kind s → plan.work ≡ asks
    → (IsInOrderHere (catalog_of known s) asks → IsInOrder asks plan.schema s) → IfOk result (HasShown plan kind s) → IfErr result (MayFail (result_err (plan_effect 0 plan kind s)) kind.files told) → IsAnswer (catalog_of known s) (facts_here kind) kind.files told asks result
answer_by asks known kind s told plan (Ok o) built same work order ok err = shown_here asks None known kind s plan o built same work order ok
answer_by asks known kind s told plan (Err fault) built same work order ok err =
    may_end (IsRefused (catalog_of known s) (facts_here kind) asks) (result_err (plan_effect 0 plan kind s)) kind.files told fault (λ r is. inl (same ∙ err_is (plan_effect 0 plan kind s) r is)) err

pub use_answers : (asks : Statement) (table : List ℕ) (known : DictionaryState) (kind : Kind) (s : EngineState) (told : Bool) (it : Definition) (flags : Flags) (plan : Plan) (result : Result Outcome ExecFault)
    → IsUse table asks → IsUsable table (catalog_of known s) (facts_here kind) it → flags ≡ kind.flags → IsPlan asks (Some it) flags plan
    → IfOk result (HasShown plan kind s) → IfErr result (MayFail (result_err (plan_effect 0 plan kind s)) kind.files told) → IsAnswer (catalog_of known s) (facts_here kind) kind.files told asks result
use_answers asks table known kind s told it flags plan result is usable same made ok err =
    let planned = plan_as asks (Some it) flags kind.flags plan same made in
    answer_by asks known kind s told plan result (use_built asks table is)
    (same_effect (facts_here kind ∷ []) (view_here (catalog_of known s)) asks (Some it) plan kind s 0 (at_hand it.engine (catalog_of known s) kind usable.served) planned (suits_view asks table known kind s it is usable))
    planned.made.work
    (use_order asks table known kind s it plan.schema is (plan_schema asks table it plan kind is planned) usable)
    ok err

-- A refusal at planning.
pub use_refused : (asks : Statement) (table : List ℕ) (known : DictionaryState) (kind : Kind) (s : EngineState) (told : Bool) (it : Definition) (flags : Flags) (fault : ExecFault)
    → IsUse table asks → IsUsable table (catalog_of known s) (facts_here kind) it → flags ≡ kind.flags → FailsFor (plan_refusal asks (Some it) flags) fault → MayEnd (IsRefused (catalog_of known s) (facts_here kind) asks) kind.files told fault
use_refused asks table known kind s told it flags fault is usable same fails =
    ends_for (IsRefused (catalog_of known s) (facts_here kind) asks) (plan_refusal asks (Some it) kind.flags) kind.files told fault
    (λ r refused. inl (same_refusal (facts_here kind ∷ []) (view_here (catalog_of known s)) (sizes_here (catalog_of known s)) asks (Some it) kind s r (at_hand it.engine (catalog_of known s) kind usable.served)
    (suits_view asks table known kind s it is usable) refused))
    (subst (λ (f : Flags). FailsFor (plan_refusal asks (Some it) f) fault) same fails)

-- A fault that is told is the answer.
pub answers_err : (asks : Statement) (known : DictionaryState) (kind : Kind) (s : EngineState) (told : Bool) (result : Result Outcome ExecFault) (fault : ExecFault) → IsErrAnd result (λ e. e ≡ fault)
    → MayEnd (IsRefused (catalog_of known s) (facts_here kind) asks) kind.files told fault → IsAnswer (catalog_of known s) (facts_here kind) kind.files told asks result
answers_err asks known kind s told (Ok o) fault is may = absurd is
answers_err asks known kind s told (Err e) fault is may = subst (MayEnd (IsRefused (catalog_of known s) (facts_here kind) asks) kind.files told) (sym is) may

-- the answer of a statement, under its name
pub answers_as : (a b : Statement) (known : DictionaryState) (kind : Kind) (s : EngineState) (told : Bool) (result : Result Outcome ExecFault) → a ≡ b
    → IsAnswer (catalog_of known s) (facts_here kind) kind.files told b result → IsAnswer (catalog_of known s) (facts_here kind) kind.files told a result
answers_as a b known kind s told result is answer = subst (λ (x : Statement). IsAnswer (catalog_of known s) (facts_here kind) kind.files told x result) (sym is) answer

-- The effect of a statement that uses a table.
use_is : (asks : Statement) (table : List ℕ) (known : DictionaryState) (kind : Kind) (s : EngineState) → IsUse table asks
    → effect_here (catalog_of known s) (facts_here kind) asks ≡ use_effect (facts_here kind ∷ []) (view_here (catalog_of known s)) (sizes_here (catalog_of known s)) (table_named table (view_here (catalog_of known s)).tables) asks
use_is (statement.Drop name) table known kind s is = ap (λ (n : List ℕ). use_effect (facts_here kind ∷ []) (view_here (catalog_of known s)) (sizes_here (catalog_of known s)) (table_named n (view_here (catalog_of known s)).tables) (statement.Drop name)) is
use_is (statement.Insert name rows) table known kind s is =
    ap (λ (n : List ℕ). use_effect (facts_here kind ∷ []) (view_here (catalog_of known s)) (sizes_here (catalog_of known s)) (table_named n (view_here (catalog_of known s)).tables) (statement.Insert name rows)) is
use_is (statement.Select name names where_is) table known kind s is =
    ap (λ (n : List ℕ). use_effect (facts_here kind ∷ []) (view_here (catalog_of known s)) (sizes_here (catalog_of known s)) (table_named n (view_here (catalog_of known s)).tables) (statement.Select name names where_is)) is
use_is _ table known kind s is = absurd is

use_amiss : (asks : Statement) (table : List ℕ) (known : DictionaryState) (kind : Kind) (s : EngineState) → IsUse table asks → IsAbsentThere table (catalog_of known s) (facts_here kind) → IsAmiss (catalog_of known s) (facts_here kind) NoSuchTable asks
use_amiss (statement.Drop name) table known kind s is there = (subst (λ (n : List ℕ). IsAbsentThere n (catalog_of known s) (facts_here kind)) (sym is) there, refl)
use_amiss (statement.Insert name rows) table known kind s is there = (subst (λ (n : List ℕ). IsAbsentThere n (catalog_of known s) (facts_here kind)) (sym is) there, refl)
use_amiss (statement.Select name names where_is) table known kind s is there = (subst (λ (n : List ℕ). IsAbsentThere n (catalog_of known s) (facts_here kind)) (sym is) there, refl)
use_amiss _ table known kind s is there = absurd is

-- A table that cannot be used refuses its statement.
pub not_usable : (asks : Statement) (table : List ℕ) (known : DictionaryState) (kind : Kind) (s : EngineState) (r : Refusal) → IsUse table asks → IsNotUsable table (catalog_of known s) (facts_here kind) r
    → IsRefused (catalog_of known s) (facts_here kind) asks r
not_usable asks table known kind s _ is (absent free) =
    inl (use_is asks table known kind s is ∙ ap (λ (o : Option Table). use_effect (facts_here kind ∷ []) (view_here (catalog_of known s)) (sizes_here (catalog_of known s)) o asks) (none_here table (catalog_of known s) free))
not_usable asks table known kind s _ is (unserved it there apart) =
    inl (use_is asks table known kind s is ∙ ap (λ (o : Option Table). use_effect (facts_here kind ∷ []) (view_here (catalog_of known s)) (sizes_here (catalog_of known s)) o asks) (some_here table (catalog_of known s) it there)
    ∙ ap (λ (e : Option EngineFacts). planned_effect e (sizes_here (catalog_of known s)) (table_here (catalog_of known s) it) asks) (not_at_hand it.engine (catalog_of known s) (facts_here kind) apart))
not_usable asks table known kind s _ is (differs there) = inr (amiss (use_amiss asks table known kind s is there))

-- A CREATE.

pub make_can : (table : List ℕ) (items : List Item) (engine : List ℕ) (known : DictionaryState) (kind : Kind) (s : EngineState) (flags : Flags) (plan : Plan) (txn : ℕ) → IsIdle s → IsMakeable table engine (catalog_of known s) (facts_here kind)
    → flags ≡ kind.flags → IsPlan (statement.Create table items engine) None flags plan → All (λ it. IsName it.name) plan.schema.columns → CanExecute txn plan kind s
make_can table items engine known kind s flags plan txn idle makeable same planned named =
    idle_can (statement.Create table items engine) None plan kind s txn idle (plan_as (statement.Create table items engine) None flags kind.flags plan same planned) (makeable.none, named)

make_suits : (table : List ℕ) (items : List Item) (engine : List ℕ) (known : DictionaryState) (kind : Kind) (s : EngineState) → IsMakeable table engine (catalog_of known s) (facts_here kind)
    → SuitsView (statement.Create table items engine) None (view_here (catalog_of known s)) kind s
make_suits table items engine known kind s makeable = (none_here table (catalog_of known s) makeable.free, engine_is engine known.installed (facts_here kind) makeable.served)

pub make_answers : (table : List ℕ) (items : List Item) (engine : List ℕ) (known : DictionaryState) (kind : Kind) (s : EngineState) (told : Bool) (flags : Flags) (plan : Plan) (result : Result Outcome ExecFault)
    → IsMakeable table engine (catalog_of known s) (facts_here kind) → flags ≡ kind.flags → IsPlan (statement.Create table items engine) None flags plan
    → IfOk result (HasShown plan kind s) → IfErr result (MayFail (result_err (plan_effect 0 plan kind s)) kind.files told)
    → IsAnswer (catalog_of known s) (facts_here kind) kind.files told (statement.Create table items engine) result
make_answers table items engine known kind s told flags plan result makeable same made ok err =
    let asks = statement.Create table items engine in
    let planned = plan_as asks None flags kind.flags plan same made in
    answer_by asks known kind s told plan result (λ not_one. not_one)
    (same_effect (facts_here kind ∷ []) (view_here (catalog_of known s)) asks None plan kind s 0 (at_hand engine (catalog_of known s) kind makeable.served) planned (make_suits table items engine known kind s makeable))
    planned.made.work (λ ordered. tt) ok err

pub make_refused : (table : List ℕ) (items : List Item) (engine : List ℕ) (known : DictionaryState) (kind : Kind) (s : EngineState) (told : Bool) (flags : Flags) (fault : ExecFault)
    → IsMakeable table engine (catalog_of known s) (facts_here kind) → flags ≡ kind.flags → FailsFor (plan_refusal (statement.Create table items engine) None flags) fault
    → MayEnd (IsRefused (catalog_of known s) (facts_here kind) (statement.Create table items engine)) kind.files told fault
make_refused table items engine known kind s told flags fault makeable same fails =
    let asks = statement.Create table items engine in
    ends_for (IsRefused (catalog_of known s) (facts_here kind) asks) (plan_refusal asks None kind.flags) kind.files told fault
    (λ r refused. inl (same_refusal (facts_here kind ∷ []) (view_here (catalog_of known s)) (sizes_here (catalog_of known s)) asks None kind s r (at_hand engine (catalog_of known s) kind makeable.served)
    (make_suits table items engine known kind s makeable) refused))
    (subst (λ (f : Flags). FailsFor (plan_refusal asks None f) fault) same fails)

-- a definition that was found is seen
there_here : (table : List ℕ) (known : DictionaryState) (s : EngineState) (o : Option Definition) → definition_named table known.definitions ≡ o → IsTrue (is_some o)
    → is_none (table_named table (view_here (catalog_of known s)).tables) ≡ false
there_here table known s None is some = absurd cc
there_here table known s (Some it) is some = ap (λ (o : Option Table). is_none o) (some_here table (catalog_of known s) it is)

-- A table that cannot be made refuses its CREATE.
pub not_makeable : (table : List ℕ) (items : List Item) (engine : List ℕ) (known : DictionaryState) (kind : Kind) (s : EngineState) (r : Refusal) → IsNotMakeable table engine (catalog_of known s) (facts_here kind) r
    → IsRefused (catalog_of known s) (facts_here kind) (statement.Create table items engine) r
not_makeable table items engine known kind s _ (defined there) =
    let asks = statement.Create table items engine in
    inl (ap (λ (b : Bool). refused_or (unless b TableExists) (create_in (engine_named engine (facts_here kind ∷ []) (view_here (catalog_of known s))) (sizes_here (catalog_of known s)) table engine asks))
    (there_here table known s (definition_named table known.definitions) refl there))
not_makeable table items engine known kind s _ (unserving free apart) =
    let asks = statement.Create table items engine in
    inl (ap (λ (o : Option Table). refused_or (unless (is_none o) TableExists) (create_in (engine_named engine (facts_here kind ∷ []) (view_here (catalog_of known s))) (sizes_here (catalog_of known s)) table engine asks))
    (none_here table (catalog_of known s) free)
    ∙ ap (λ (e : Option EngineFacts). create_in e (sizes_here (catalog_of known s)) table engine asks) (not_at_hand engine (catalog_of known s) (facts_here kind) apart))
not_makeable table items engine known kind s _ (taken there) = inr (amiss (there, refl))

-- The same of a statement under its name.
make_as : (asks : Statement) (table : List ℕ) (items : List Item) (engine : List ℕ) (P : Statement → Type 0) → asks ≡ statement.Create table items engine → P (statement.Create table items engine) → P asks
make_as asks table items engine P is p = subst P (sym is) p

pub not_makeable_as : (asks : Statement) (table : List ℕ) (items : List Item) (engine : List ℕ) (known : DictionaryState) (kind : Kind) (s : EngineState) (r : Refusal) → asks ≡ statement.Create table items engine
    → IsNotMakeable table engine (catalog_of known s) (facts_here kind) r → IsRefused (catalog_of known s) (facts_here kind) asks r
not_makeable_as asks table items engine known kind s r is isnt =
    make_as asks table items engine (λ a. IsRefused (catalog_of known s) (facts_here kind) a r) is (not_makeable table items engine known kind s r isnt)

pub make_refused_as : (asks : Statement) (table : List ℕ) (items : List Item) (engine : List ℕ) (known : DictionaryState) (kind : Kind) (s : EngineState) (told : Bool) (flags : Flags) (fault : ExecFault)
    → asks ≡ statement.Create table items engine → IsMakeable table engine (catalog_of known s) (facts_here kind) → flags ≡ kind.flags → FailsFor (plan_refusal asks None flags) fault
    → MayEnd (IsRefused (catalog_of known s) (facts_here kind) asks) kind.files told fault
make_refused_as asks table items engine known kind s told flags fault is makeable same fails =
    make_as asks table items engine (λ a. MayEnd (IsRefused (catalog_of known s) (facts_here kind) a) kind.files told fault) is
    (make_refused table items engine known kind s told flags fault makeable same (subst (λ (a : Statement). FailsFor (plan_refusal a None flags) fault) is fails))

pub make_can_as : (asks : Statement) (table : List ℕ) (items : List Item) (engine : List ℕ) (known : DictionaryState) (kind : Kind) (s : EngineState) (flags : Flags) (plan : Plan) (txn : ℕ)
    → asks ≡ statement.Create table items engine → IsIdle s → IsMakeable table engine (catalog_of known s) (facts_here kind) → flags ≡ kind.flags → IsPlan asks None flags plan
    → All (λ it. IsName it.name) plan.schema.columns → CanExecute txn plan kind s
make_can_as asks table items engine known kind s flags plan txn is idle makeable same planned named =
    make_can table items engine known kind s flags plan txn idle makeable same (subst (λ (a : Statement). IsPlan a None flags plan) is planned) named

pub make_answers_as : (asks : Statement) (table : List ℕ) (items : List Item) (engine : List ℕ) (known : DictionaryState) (kind : Kind) (s : EngineState) (told : Bool) (flags : Flags) (plan : Plan)
    (result : Result Outcome ExecFault) → asks ≡ statement.Create table items engine → IsMakeable table engine (catalog_of known s) (facts_here kind) → flags ≡ kind.flags → IsPlan asks None flags plan
    → IfOk result (HasShown plan kind s) → IfErr result (MayFail (result_err (plan_effect 0 plan kind s)) kind.files told)
    → IsAnswer (catalog_of known s) (facts_here kind) kind.files told asks result
make_answers_as asks table items engine known kind s told flags plan result is makeable same planned ok err =
    answers_as asks (statement.Create table items engine) known kind s told result is
    (make_answers table items engine known kind s told flags plan result makeable same (subst (λ (a : Statement). IsPlan a None flags plan) is planned) ok err)

-- An INSTALL.

abbrev installs : Bool → Bool → Effect → Result Effect Refusal
installs a b m = refused_or (first_of_two (unless (not a) PluginInstalled) (unless (b || false) NoSuchLibrary)) (Ok m)

install_is : (name soname : List ℕ) (known : DictionaryState) (kind : Kind) (s : EngineState) (a b : Bool) → is_there name known.installed ≡ a → is_from name soname (facts_here kind) ≡ b
    → effect_here (catalog_of known s) (facts_here kind) (statement.Install name soname) ≡ installs a b (makes (change.Install name))
install_is name soname known kind s a b first second =
    ap (λ (x : Bool). installs x (is_from name soname (facts_here kind)) (makes (change.Install name))) first ∙ ap (λ (x : Bool). installs a x (makes (change.Install name))) second

pub installed_before : (name soname : List ℕ) (known : DictionaryState) (kind : Kind) (s : EngineState) → is_there name known.installed ≡ true
    → IsRefused (catalog_of known s) (facts_here kind) (statement.Install name soname) PluginInstalled
installed_before name soname known kind s is = inl (install_is name soname known kind s true (is_from name soname (facts_here kind)) is refl)

pub not_in_library : (name soname : List ℕ) (known : DictionaryState) (kind : Kind) (s : EngineState) → is_there name known.installed ≡ false → is_from name soname (facts_here kind) ≡ false
    → IsRefused (catalog_of known s) (facts_here kind) (statement.Install name soname) NoSuchLibrary
not_in_library name soname known kind s free apart = inl (install_is name soname known kind s false false free apart)

pub install_comes_to : (name soname : List ℕ) (known : DictionaryState) (kind : Kind) (s : EngineState) (changes : List Change) → is_there name known.installed ≡ false → is_from name soname (facts_here kind) ≡ true
    → changes ≡ change.Install name ∷ [] → ComesTo (catalog_of known s) (facts_here kind) (statement.Install name soname) (outcome.Noted changes)
install_comes_to name soname known kind s changes free here is = record {
  built = λ not_one. not_one;
  it = makes (change.Install name);
  is = ap (λ (l : List Change). outcome.Noted l) is;
  effect = λ ordered. install_is name soname known kind s false true free here;
}

-- What becomes of the engine.

-- An answer that was given with no call of the engine.
pub nothing_done : (kind : Kind) (reading : Reading) (txn : ℕ) (result : Result Outcome ExecFault) (s : EngineState) (held : List File → Type 0) (d : Disk) → IsNoted result
    → (IsTrue d.told → IsAtWork (working kind reading s held) (now d)) → CarriesOut kind reading result (state_behind txn result s) s s held d d
nothing_done kind reading txn result s held d noted work =
    subst (λ (e : EngineState). CarriesOut kind reading result e s s held d d) (noted_still result noted)
    (no_call kind reading result s s held held d (noted_device result noted) refl (λ fs h. h) (λ told. work_tells kind reading s held (now d) (work told)))
  where
    noted_device : (r : Result Outcome ExecFault) → IsNoted r → IsDevice r → ⊥
    noted_device (Ok value) noted is = cc
    noted_device (Err (Refused it)) noted is = cc
    noted_device (Err Device) noted is = absurd noted
    noted_device (Err (NotAVolume file)) noted is = absurd noted
    noted_device (Err Memory) noted is = cc

    noted_still : (r : Result Outcome ExecFault) → IsNoted r → s ≡ state_behind txn r s
    noted_still (Ok (outcome.Noted changes)) noted = refl
    noted_still (Ok (outcome.Rows rows)) noted = absurd noted
    noted_still (Ok (outcome.Changed count changes)) noted = absurd noted
    noted_still (Err fault) noted = refl

-- A text.

pub text_comes_to : (text : List ℕ) (asks : Statement) (known : DictionaryState) (kind : Kind) (s : EngineState) (told : Bool) (result : Result Outcome ExecFault) → (length text ≤ 65536) × Spells text asks
    → IsAnswer (catalog_of known s) (facts_here kind) kind.files told asks result → IsTextAnswer (catalog_of known s) (facts_here kind) kind.files told text result
text_comes_to text asks known kind s told (Ok o) spelt answer = record { asks = asks; short = spelt.0; spells = spelt.1; holds = answer }
text_comes_to text asks known kind s told (Err fault) spelt answer = ends fault answer
  where
    each : (r : Refusal) → IsRefused (catalog_of known s) (facts_here kind) asks r → Refuses (catalog_of known s) (facts_here kind) text r
    each r (inl is) = inl (read_effect (facts_here kind ∷ []) (view_here (catalog_of known s)) (sizes_here (catalog_of known s)) text asks spelt (Err r) is)
    each r (inr excepted) = inr (record { asks = asks; short = spelt.0; spells = spelt.1; holds = excepted })

    ends_in : (files : List ℕ) (e : ExecFault) → MayEnd (IsRefused (catalog_of known s) (facts_here kind) asks) files told e → MayEnd (Refuses (catalog_of known s) (facts_here kind) text) files told e
    ends_in files (Refused r) may = each r may
    ends_in files Device may = tt
    ends_in [] (NotAVolume file) may = absurd may
    ends_in (first ∷ files) (NotAVolume file) may = may
    ends_in files Memory may = tt

    ends : (e : ExecFault) → MayEnd (IsRefused (catalog_of known s) (facts_here kind) asks) kind.files told e → MayEnd (Refuses (catalog_of known s) (facts_here kind) text) kind.files told e
    ends e may = ends_in kind.files e may

read_refused : (text : List ℕ) (known : DictionaryState) (kind : Kind) (s : EngineState) (r : Refusal) → RefusesRead text (parse.Refused r) → Refuses (catalog_of known s) (facts_here kind) text r
read_refused text known kind s r refuses = inl (refused_effect (facts_here kind ∷ []) (view_here (catalog_of known s)) (sizes_here (catalog_of known s)) text r refuses)

pub text_refused : (text : List ℕ) (known : DictionaryState) (kind : Kind) (s : EngineState) (r it : Refusal) (e : ParseFault) → RefusesRead text e → e ≡ parse.Refused r → it ≡ r
    → Refuses (catalog_of known s) (facts_here kind) text it
text_refused text known kind s r it e refuses fault_is is = subst (Refuses (catalog_of known s) (facts_here kind) text) (sym is)
    (read_refused text known kind s r (subst (RefusesRead text) fault_is refuses))

-- An INSERT that is spelt has a row.
pub spelt_rows : (text : List ℕ) (asks : Statement) → Spells text asks → HasRows asks
spelt_rows text (statement.Insert table []) spells = absurd spells.2.3.2
spelt_rows text (statement.Insert table (row ∷ rest)) spells = omega arith
spelt_rows text (statement.Create table items engine) spells = tt
spelt_rows text (statement.Drop table) spells = tt
spelt_rows text (statement.Select table names where_is) spells = tt
spelt_rows text (statement.Update table sets where_is) spells = tt
spelt_rows text (statement.Delete table where_is) spells = tt
spelt_rows text statement.Begin spells = tt
spelt_rows text statement.Commit spells = tt
spelt_rows text statement.Rollback spells = tt
spelt_rows text (statement.Savepoint point) spells = tt
spelt_rows text (statement.RollbackTo point) spells = tt
spelt_rows text (statement.Release point) spells = tt
spelt_rows text (statement.Install name soname) spells = tt
spelt_rows text (statement.Uninstall name) spells = tt

-- the plan of a statement that uses a table has the statement's rows
pub plan_rows : (asks : Statement) (definition : Option Definition) (plan : Plan) (kind : Kind) → IsPlan asks definition kind.flags plan → HasRows asks → HasRows plan.work
plan_rows asks definition plan kind planned rows = subst HasRows (sym planned.made.work) rows

-- An INSTALL can be logged.
pub install_loggable : (name : List ℕ) (changes : List Change) → changes ≡ change.Install name ∷ [] → IsName name → AreLoggable changes
install_loggable name changes is named = subst AreLoggable (sym is) (record { some = omega arith; few = omega arith; fit = (named, tt) })
