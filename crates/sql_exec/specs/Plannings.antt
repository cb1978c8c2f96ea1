-- A statement that was planned by the definitions of a log, on a view of that log and on the engine of its table. (This project.)
use Rattle.std.specs.Prelude.{◌≡◌, ℕ, List, [], Option, Some, None, true, All}
use Rattle.sql_value.specs.Names.{IsName}
use Rattle.row_format.specs.declared.schema.Schema.{Schema}
use Rattle.row_format.specs.Schemas.{IsSchema}
use Rattle.log_tables.specs.declared.table.Definition.{Definition}
use Rattle.log_tables.specs.declared.table.Table.{Table}
use Rattle.log_tables.specs.Tables.{table_named}
use Rattle.engine_api.specs.States.{Kind, EngineState}
use Rattle.engine_api.specs.Live.{live_schema, live_rows}
use Rattle.sql_text.specs.declared.statement.Statement.{Statement}
use Rattle.sql_text.specs.declared.statement.Statement.TheVariants as statement
use Rattle.sql_effect.specs.declared.shape.EngineFacts.{EngineFacts}
use Rattle.sql_effect.specs.declared.shape.View.{View}
use Rattle.sql_effect.specs.Effects.{engine_named}

-- nothing is pending on an engine, and nothing is prepared
pub record IsIdle (state : EngineState) : Type 0 where
  pub nothing : state.pending ≡ []
  pub unprepared : state.gist.prepared ≡ []

-- the live table of this name has this schema, which is one
pub record HasSchema (table : List ℕ) (of_schema : Schema) (state : EngineState) : Type 0 where
  pub live : live_schema table state ≡ Some of_schema
  pub schema : IsSchema of_schema

-- the live table of this name has the schema of the definition by which a statement was planned
abbrev pub IsDefined : List ℕ → Option Definition → EngineState → Type 0
IsDefined table None state = ⊥
IsDefined table (Some it) state = HasSchema table it.schema state

-- The table of a statement is live as its definition says; that of a CREATE is not live, and the columns of its schema have names.
abbrev pub SuitsEngine : Statement → Option Definition → Schema → EngineState → Type 0
SuitsEngine (statement.Create table items engine) definition schema state = (live_schema table state ≡ None) × All (λ it. IsName it.name) schema.columns
SuitsEngine (statement.Drop table) definition schema state = IsDefined table definition state
SuitsEngine (statement.Insert table rows) definition schema state = IsName table × IsDefined table definition state
SuitsEngine (statement.Select table names where_is) definition schema state = IsDefined table definition state
SuitsEngine _ definition schema state = ⊥

-- an engine of this kind is at hand and installed, and keeps rows
pub record IsAtHand (shelf : List EngineFacts) (view : View) (kind : Kind) : Type 0 where
  pub facts : EngineFacts
  pub found : engine_named kind.name shelf view ≡ Some facts
  pub flags : facts.flags ≡ kind.flags
  pub keeps_rows : facts.keeps_rows ≡ true

-- the view has a table of this name with this definition, one of the engine, where it has the same rows
pub record IsSeen (table : List ℕ) (definition : Option Definition) (view : View) (kind : Kind) (state : EngineState) : Type 0 where
  pub it : Table
  pub found : table_named table view.tables ≡ Some it
  pub defined : definition ≡ Some it.definition
  pub engine : it.definition.engine ≡ kind.name
  pub rows : live_rows table state ≡ it.rows

-- The table of a statement is seen as its engine has it; that of a CREATE is not there, and is to be one of this engine.
abbrev pub SuitsView : Statement → Option Definition → View → Kind → EngineState → Type 0
SuitsView (statement.Create table items engine) definition view kind state = (table_named table view.tables ≡ None) × (engine ≡ kind.name)
SuitsView (statement.Drop table) definition view kind state = IsSeen table definition view kind state
SuitsView (statement.Insert table rows) definition view kind state = IsSeen table definition view kind state
SuitsView (statement.Select table names where_is) definition view kind state = IsSeen table definition view kind state
SuitsView _ definition view kind state = ⊥
