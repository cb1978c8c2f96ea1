-- What an INSERT makes of an engine. (This project.)
use Rattle.std.specs.Prelude.{◌≡◌, ℕ, ◌+◌, List, All, Option, Some, None, Bool, true, false, Result, Ok, Err, OnOk, IfErr, unwrap_or, IsTrue, [], ◌∷◌}
use Rattle.std.specs.Result.{result_err}
use Rattle.sql_value.specs.declared.refusal.Refusal.{Refusal}
use Rattle.sql_value.specs.declared.value.Value.{Value}
use Rattle.sql_value.specs.Names.{IsName}
use Rattle.row_format.specs.Schemas.{IsSchema}
use Rattle.row_format.specs.declared.schema.Schema.{Schema}
use Rattle.row_format.specs.declared.change.Change.{Change}
use Rattle.row_format.specs.declared.change.Change.TheVariants.{Insert}
use Rattle.log_tables.specs.Keys.{inserted}
use Rattle.engine_api.specs.declared.fault.EngineFault.{EngineFault}
use Rattle.engine_api.specs.declared.fault.EngineFault.TheVariants.{Code as code}
use Rattle.engine_api.specs.declared.fault.Code.TheVariants.{Duplicate, Full}
use Rattle.engine_api.specs.Calls.{AnswersOnly}
use Rattle.engine_api.specs.States.{EngineState, live_tables, pending_of}
use Rattle.engine_api.specs.Live.{live_bytes, live_schema, live_rows, is_under, is_taken, wrote_state, HasRoom, IsApart}
use Rattle.sql_effect.specs.Insert.{insert_refusal, inserts_refusal, inserts}
use Rattle.sql_effect.specs.declared.shape.Effect.{Effect}
use Rattle.sql_effect.specs.Effects.{sized}
use Rattle.sql_effect.specs.Rewrite.{refused_or}
use Rattle.sql_effect.specs.Sizes.{row_bytes}
use Rattle.sql_exec.specs.declared.fault.ExecFault.{ExecFault}
use Rattle.sql_exec.specs.CarriesOut.{MayFail}
use Rattle.sql_exec.specs.Changes.{StandsLast}

-- the insert of a row into a table with this schema
abbrev pub insert_of : List ℕ → Schema → List Value → Change
insert_of table schema row = Insert (record { table = table; schema = schema }) row

-- The live table of this name has one row more, where the log's Insert puts it, and so have the live bytes.
pub record Written (table : List ℕ) (of_schema : Schema) (row : List Value) (old new : EngineState) : Type 0 where
  pub schema : live_schema table new ≡ Some of_schema
  pub rows : live_rows table new ≡ unwrap_or (inserted of_schema.key row (live_rows table old)) (live_rows table old)
  pub bytes : live_bytes (live_tables new) ≡ live_bytes (live_tables old) + row_bytes row

-- A row is written into the live table of its name; a key that is there and want of room are told exactly, and a file that is none only where
-- contents are not told.
pub record WritesRow (txn : ℕ) (table : List ℕ) (row : List Value) (old new : EngineState) (files : List ℕ) (told : Bool) (result : Result (Unit {0}) EngineFault) : Type 0 where
  pub duplicate : result ≡ Err (code Duplicate) → IsTrue (is_taken table row old)
  pub not_duplicate : OnOk result (is_taken table row old ≡ false)
  pub full : result ≡ Err (code Full) → (is_taken table row old ≡ false) × (HasRoom (wrote_state txn table row old) → ⊥)
  pub not_full : OnOk result (HasRoom new)
  pub answers : AnswersOnly (Duplicate ∷ Full ∷ []) files told result

-- a transaction may put a row into the live table of this name, which has this schema
pub record CanPut (txn : ℕ) (table : List ℕ) (of_schema : Schema) (row : List Value) (state : EngineState) : Type 0 where
  pub live : live_schema table state ≡ Some of_schema
  pub unprepared : is_under txn state ≡ false
  pub last : StandsLast txn state
  pub apart : IsApart txn (insert_of table of_schema row) state

-- why a row is not put into the live table of this name
abbrev pub put_refusal : List ℕ → Schema → List Value → EngineState → Option Refusal
put_refusal table schema row state = insert_refusal true schema (live_bytes (live_tables state)) (live_rows table state) row

-- a row is put in where nothing refuses it, or a fault comes that may
pub record Puts {T : Type 0} (refusal : Option Refusal) (files : List ℕ) (told : Bool) (result : Result T ExecFault) : Type 0 where
  pub granted : OnOk result (refusal ≡ None)
  pub err : IfErr result (MayFail refusal files told)

-- the inserts of rows into a table with this schema
abbrev pub inserts_of : List ℕ → Schema → List (List Value) → List Change
inserts_of table schema rows = inserts (record { table = table; schema = schema }) rows

-- a transaction may put rows into the live table of this name, which has this schema, one after the other
pub record CanPutAll (txn : ℕ) (table : List ℕ) (of_schema : Schema) (rows : List (List Value)) (state : EngineState) : Type 0 where
  pub live : live_schema table state ≡ Some of_schema
  pub unprepared : is_under txn state ≡ false
  pub last : StandsLast txn state
  pub apart : All (λ row. IsApart txn (insert_of table of_schema row) state) rows

-- a transaction that has changed nothing may insert rows into the live table of this name, which has this schema
pub record CanInsert (txn : ℕ) (table : List ℕ) (of_schema : Schema) (all : List (List Value)) (state : EngineState) : Type 0 where
  pub named : IsName table
  pub schema : IsSchema of_schema
  pub idle : pending_of txn state.pending ≡ None
  pub live : live_schema table state ≡ Some of_schema
  pub apart : All (λ row. IsApart txn (insert_of table of_schema row) state) all

-- why rows are not put into it: the first of them that is refused
abbrev pub puts_refusal : List ℕ → Schema → List (List Value) → EngineState → Option Refusal
puts_refusal table schema rows state = inserts_refusal true schema (live_bytes (live_tables state)) (live_rows table state) rows

-- what the rows of an INSERT come to that go into their table, in a transaction that had so many bytes in the log
abbrev pub rows_outcome : ℕ → List ℕ → Schema → List (List Value) → Result Effect Refusal
rows_outcome open_bytes table schema rows = sized (record { live = 0; «open» = open_bytes }) (inserts_of table schema rows)

-- what an INSERT of rows comes to on an engine
abbrev pub insert_outcome : ℕ → List ℕ → Schema → List (List Value) → EngineState → Result Effect Refusal
insert_outcome open_bytes table schema rows state = refused_or (puts_refusal table schema rows state) (rows_outcome open_bytes table schema rows)

-- a call answers this outcome, or a fault that may come
abbrev pub Gives : List ℕ → Bool → Result Effect Refusal → Result Effect ExecFault → Type 0
Gives files told outcome (Ok it) = outcome ≡ Ok it
Gives files told outcome (Err fault) = MayFail (result_err outcome) files told fault
