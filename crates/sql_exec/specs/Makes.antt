-- What a CREATE or a DROP makes of an engine. (This project.)
use Rattle.std.specs.Prelude.{◌≡◌, ℕ, List, Some, None, false, Result, IsTrue}
use Rattle.sql_value.specs.declared.refusal.Refusal.{Refusal}
use Rattle.row_format.specs.declared.schema.Schema.{Schema}
use Rattle.row_format.specs.declared.change.Change.TheVariants.{Create, Drop}
use Rattle.row_format.specs.Schemas.{IsSchema}
use Rattle.sql_value.specs.declared.refusal.Refusal.TheVariants.{TableFull}
use Rattle.engine_api.specs.declared.fault.EngineFault.{EngineFault}
use Rattle.engine_api.specs.declared.fault.EngineFault.TheVariants.{Code as code}
use Rattle.engine_api.specs.States.{Kind, EngineState, live_tables}
use Rattle.engine_api.specs.Live.{live_bytes, live_schema, allows, is_under, IsApart, IsLive}
use Rattle.sql_effect.specs.declared.shape.Effect.{Effect}
use Rattle.sql_effect.specs.Effects.{made_effect}
use Rattle.sql_exec.specs.declared.fault.ExecFault.{ExecFault}
use Rattle.sql_exec.specs.declared.fault.ExecFault.TheVariants.{Refused, Memory}
use Rattle.sql_exec.specs.Changes.{StandsLast}

-- a transaction may make a table of this name and schema in an engine of this kind
pub record CanCreate (txn : ℕ) (table : List ℕ) (of_schema : Schema) (kind : Kind) (state : EngineState) : Type 0 where
  pub free : live_schema table state ≡ None
  pub schema : IsSchema of_schema
  pub allowed : IsTrue (allows kind.flags of_schema)
  pub unprepared : is_under txn state ≡ false
  pub last : StandsLast txn state
  pub apart : IsApart txn (Create table kind.name of_schema) state

-- a transaction may drop the table of this name
pub record CanDrop (txn : ℕ) (table : List ℕ) (state : EngineState) : Type 0 where
  pub live : IsLive table state
  pub unprepared : is_under txn state ≡ false
  pub apart : IsApart txn (Drop table) state

-- what a CREATE comes to on an engine
abbrev pub create_outcome : List ℕ → Schema → Kind → EngineState → Result Effect Refusal
create_outcome table schema kind state = made_effect (record { live = live_bytes (live_tables state); «open» = 0 }) table kind.name (Some schema)

-- why a table is not made: there is no room for it, or no memory
abbrev pub not_made : EngineFault → ExecFault
not_made (code it) = Refused TableFull
not_made _ = Memory
