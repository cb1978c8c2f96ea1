-- What a statement comes to on an engine, by its plan, and which plans an engine can carry out. (This project.)
use Rattle.std.specs.Prelude.{ℕ, List, [], Some, true, Result, Ok, Err}
use Rattle.sql_value.specs.declared.refusal.Refusal.{Refusal}
use Rattle.sql_value.specs.declared.refusal.Refusal.TheVariants.{NotBuilt}
use Rattle.row_format.specs.declared.change.Change.{Change}
use Rattle.row_format.specs.declared.schema.Schema.{Schema}
use Rattle.log_tables.specs.declared.table.Table.{Table}
use Rattle.engine_api.specs.States.{Kind, EngineState, live_tables, synced_state}
use Rattle.engine_api.specs.Live.{live_bytes, live_rows}
use Rattle.sql_text.specs.declared.statement.Statement.{Statement}
use Rattle.sql_text.specs.declared.statement.Statement.TheVariants as statement
use Rattle.sql_plan.specs.declared.shape.Plan.{Plan}
use Rattle.sql_effect.specs.declared.shape.Effect.{Effect}
use Rattle.sql_effect.specs.declared.shape.EngineFacts.{EngineFacts}
use Rattle.sql_effect.specs.declared.shape.Sizes.{Sizes}
use Rattle.sql_effect.specs.Effects.{made_effect, table_effect}
use Rattle.sql_effect.specs.Insert.{written}
use Rattle.sql_exec.specs.Changes.{with_changes}
use Rattle.sql_exec.specs.Inserts.{CanInsert}
use Rattle.sql_exec.specs.Makes.{CanCreate, CanDrop}
use Rattle.sql_exec.specs.Selects.{CanSelect}

-- what a statement knows of an engine of this kind, which keeps rows
abbrev pub facts_of : Kind → EngineFacts
facts_of kind = record { name = kind.name; soname = []; flags = kind.flags; keeps_rows = true }

-- the live table of this name and schema
abbrev pub table_on : List ℕ → Schema → Kind → EngineState → Table
table_on table schema kind state = record { definition = record { table = table; engine = kind.name; schema = schema }; rows = live_rows table state }

-- the bytes that are live, and those that the transaction had in the log
abbrev pub sizes_on : ℕ → EngineState → Sizes
sizes_on open_bytes state = record { live = live_bytes (live_tables state); «open» = open_bytes }

-- a statement on the live table of this name
abbrev pub effect_on : ℕ → List ℕ → Statement → Schema → Kind → EngineState → Result Effect Refusal
effect_on open_bytes table asks schema kind state = table_effect (facts_of kind) (sizes_on open_bytes state) (table_on table schema kind state) asks

-- what a statement comes to on an engine, with the schema of its plan
abbrev pub work_effect : ℕ → Statement → Schema → Kind → EngineState → Result Effect Refusal
work_effect open_bytes (statement.Create table items engine) schema kind state = made_effect (sizes_on open_bytes state) table kind.name (Some schema)
work_effect open_bytes (statement.Drop table) schema kind state = effect_on open_bytes table (statement.Drop table) schema kind state
work_effect open_bytes (statement.Insert table rows) schema kind state = effect_on open_bytes table (statement.Insert table rows) schema kind state
work_effect open_bytes (statement.Select table names where_is) schema kind state =
    effect_on open_bytes table (statement.Select table names where_is) schema kind state
work_effect open_bytes _ schema kind state = Err NotBuilt

-- what a plan comes to on an engine: the effect of its statement on the live tables
abbrev pub plan_effect : ℕ → Plan → Kind → EngineState → Result Effect Refusal
plan_effect open_bytes plan kind state = work_effect open_bytes plan.work plan.schema kind state

-- the changes of a statement; none where it is refused
abbrev pub changes_told : Result Effect Refusal → List Change
changes_told (Ok it) = it.changes
changes_told (Err refusal) = []

-- the state behind a plan: that before it, with the changes of its statement
abbrev pub planned_state : ℕ → ℕ → Plan → Kind → EngineState → EngineState
planned_state txn open_bytes plan kind state = with_changes txn (changes_told (plan_effect open_bytes plan kind state)) state

-- the state behind a refusal: that before it; an INSERT that is taken back has synced it
abbrev pub refused_state : Statement → EngineState → EngineState
refused_state (statement.Insert table rows) state = synced_state state
refused_state _ state = state

-- an engine of this kind, with this state, can carry out a statement by its plan
abbrev pub CanWork : ℕ → Statement → Plan → Kind → EngineState → Type 0
CanWork txn (statement.Create table items engine) plan kind state = CanCreate txn table plan.schema kind state
CanWork txn (statement.Drop table) plan kind state = CanDrop txn table state
CanWork txn (statement.Insert table rows) plan kind state = CanInsert txn table plan.schema (written rows) state
CanWork txn (statement.Select table names where_is) plan kind state = CanSelect plan state
CanWork txn _ plan kind state = ⊥

-- it can carry out a plan in this transaction
abbrev pub CanExecute : ℕ → Plan → Kind → EngineState → Type 0
CanExecute txn plan kind state = CanWork txn plan.work plan kind state
