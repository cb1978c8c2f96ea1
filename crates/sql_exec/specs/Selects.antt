-- What a SELECT answers on an engine, and which plans of one an engine can carry out. (This project.)
use Rattle.std.specs.Prelude.{◌≡◌, ◌≤◌, length, take, ℕ, suc, List, [], Option, Some, None, Bool, Result, Ok, OnOk, IfOk, IfErr}
use Rattle.std.specs.declared.vec.Vec.{Vec}
use Rattle.std.specs.declared.alloc.Global.{Global}
use Rattle.sql_value.specs.declared.refusal.Refusal.{Refusal}
use Rattle.sql_value.specs.declared.value.Value.{Value}
use Rattle.row_format.specs.declared.schema.Column.{Column}
use Rattle.row_format.specs.declared.schema.Schema.{Schema}
use Rattle.row_format.specs.Schemas.{IsSchema}
use Rattle.log_tables.specs.Keys.{IsOrdered}
use Rattle.engine_api.specs.States.{EngineState}
use Rattle.engine_api.specs.Live.{live_schema, live_rows}
use Rattle.sql_text.specs.declared.statement.Cond.{Cond}
use Rattle.sql_text.specs.declared.statement.Statement.{Statement}
use Rattle.sql_text.specs.declared.statement.Statement.TheVariants as statement
use Rattle.sql_plan.specs.declared.shape.Plan.{Plan}
use Rattle.sql_plan.specs.Plans.{use_refusal, path_of}
use Rattle.sql_effect.specs.declared.shape.Effect.{Effect}
use Rattle.sql_effect.specs.Effects.{answers}
use Rattle.sql_effect.specs.Rewrite.{refused_or}
use Rattle.sql_effect.specs.Select.{search_refusal, selected}
use Rattle.sql_exec.specs.declared.fault.ExecFault.{ExecFault}
use Rattle.sql_exec.specs.CarriesOut.{MayFail}

-- the rows that a SELECT answers on an engine with this state
abbrev pub rows_of : Statement → List Column → EngineState → List (List Value)
rows_of (statement.Select table names where_is) columns state = selected columns names where_is (live_rows table state)
rows_of _ columns state = []

-- why a SELECT is refused on an engine with this state
abbrev pub refusal_of : Statement → List Column → EngineState → Option Refusal
refusal_of (statement.Select table names where_is) columns state = search_refusal columns where_is (live_rows table state)
refusal_of _ columns state = None

-- what a SELECT comes to on an engine with this state
abbrev pub select_outcome : Plan → EngineState → Result Effect Refusal
select_outcome plan state = refused_or (refusal_of plan.work plan.schema.columns state) (Ok (answers (rows_of plan.work plan.schema.columns state)))

-- it is a SELECT of a table that is live with this schema
abbrev pub IsSelectOn : Statement → Schema → EngineState → Type 0
IsSelectOn (statement.Select table names where_is) schema state = live_schema table state ≡ Some schema
IsSelectOn _ schema state = ⊥

-- the rows that a SELECT looks at are in the order of the key, where their table has one
abbrev pub IsInOrder : Statement → Schema → EngineState → Type 0
IsInOrder (statement.Select table names where_is) schema state = IsOrdered schema.key (live_rows table state)
IsInOrder _ schema state = Unit {0}

-- the plan of a SELECT that an engine with this state can carry out: planning did not refuse it, and its rows are found as it says
pub record CanSelect (plan : Plan) (state : EngineState) : Type 0 where
  pub select : IsSelectOn plan.work plan.schema state
  pub schema : IsSchema plan.schema
  pub granted : use_refusal plan.work plan.schema.columns ≡ None
  pub path : plan.path ≡ path_of plan.work plan.schema

-- Rows are searched: what is answered is what a SELECT answers of them, or a fault that may come.
pub record Searches (columns : List Column) (names : Option (List (List ℕ))) (where_is : Option Cond) (rows : List (List Value)) (files : List ℕ) (told : Bool) (result : Result (Vec (List Value) Global) ExecFault) : Type 0 where
  pub granted : OnOk result (search_refusal columns where_is rows ≡ None)
  pub answer : IfOk result (λ it. it.items ≡ selected columns names where_is rows)
  pub err : IfErr result (MayFail (search_refusal columns where_is rows) files told)

-- The plan of a SELECT is carried out: what is answered is what the SELECT answers on the engine's live tables, where the rows of its table
-- are in order, or a fault that may come.
pub record Selects (plan : Plan) (state : EngineState) (files : List ℕ) (told : Bool) (result : Result (Vec (List Value) Global) ExecFault) : Type 0 where
  pub granted : IsInOrder plan.work plan.schema state → OnOk result (refusal_of plan.work plan.schema.columns state ≡ None)
  pub answer : IsInOrder plan.work plan.schema state → IfOk result (λ it. it.items ≡ rows_of plan.work plan.schema.columns state)
  pub err : IfErr result (MayFail (refusal_of plan.work plan.schema.columns state) files told)

-- where a scan stands behind what it found: one place on, where that is a row
abbrev pub behind : {A : Type 0} → Option A → ℕ → ℕ
behind None position = position
behind (Some it) position = suc position

-- so far: none of so many rows, from the first, is refused, and this was found among them
pub record HasFound (columns : List Column) (names : Option (List (List ℕ))) (where_is : Option Cond) (rows : List (List Value)) (count : ℕ) (found : List (List Value)) : Type 0 where
  pub within : count ≤ length rows
  pub granted : search_refusal columns where_is (take count rows) ≡ None
  pub answer : found ≡ selected columns names where_is (take count rows)
