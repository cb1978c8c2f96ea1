-- What a text is answered. (This project.)
use Rattle.std.specs.Prelude.{◌≡◌, ◌<◌, ◌≤◌, ◌⊎◌, ℕ, List, [], ◌∷◌, length, Bool, false, IsTrue, Result, Ok, Err}
use Rattle.sql_value.specs.declared.refusal.Refusal.{Refusal}
use Rattle.sql_value.specs.declared.refusal.Refusal.TheVariants.{NoSuchTable, TableExists, NotBuilt}
use Rattle.disk_model.specs.File.{File}
use Rattle.disk_model.specs.Disk.{Disk, now}
use Rattle.engine_api.specs.States.{Kind, EngineState}
use Rattle.engine_api.specs.Reads.{Reading}
use Rattle.engine_api.specs.Many.{IsAtWork, working}
use Rattle.sql_text.specs.declared.statement.Statement.{Statement}
use Rattle.sql_text.specs.declared.statement.Statement.TheVariants as statement
use Rattle.sql_text.specs.Statements.{Spells}
use Rattle.sql_effect.specs.declared.shape.Effect.{Effect}
use Rattle.sql_effect.specs.declared.shape.EngineFacts.{EngineFacts}
use Rattle.sql_plan.specs.declared.shape.Plan.{Plan}
use Rattle.sql_exec.specs.declared.fault.ExecFault.{ExecFault}
use Rattle.sql_exec.specs.declared.fault.ExecFault.TheVariants.{Refused, Device, NotAVolume, Memory}
use Rattle.sql_exec.specs.Executes.{plan_effect}
use Rattle.sql_exec.specs.Plannings.{IsIdle}
use Rattle.sql_exec.specs.Selects.{IsInOrder}
use Rattle.dictionary.specs.Dictionary.{DictionaryState}
use Rattle.sql_step.specs.declared.outcome.Outcome.{Outcome}
use Rattle.sql_step.specs.declared.outcome.Outcome.TheVariants.{Noted}
use Rattle.sql_step.specs.Catalogs.{Catalog, effect_here, IsEffectHere, AreSchemas, IsInOrderHere}
use Rattle.sql_step.specs.Looks.{IsAbsentThere, IsThereAlone}
use Rattle.sql_step.specs.Outcomes.{outcome_of}

-- A statement may be carried out: the schema of each table of the dictionary is one; the engine is idle, has synced what it has, and is at work.
pub record CanStep (dictionary : DictionaryState) (kind : Kind) (reading : Reading) (state : EngineState) (holds : List File → Type 0) (disk : Disk) : Type 0 where
  pub schemas : AreSchemas dictionary.definitions
  pub idle : IsIdle state
  pub synced : state.kept ≡ state.gist ∷ []
  pub at_work : IsTrue disk.told → IsAtWork (working kind reading state holds) (now disk)

-- a statement uses the table of this name
abbrev pub IsUse : List ℕ → Statement → Type 0
IsUse table (statement.Drop name) = name ≡ table
IsUse table (statement.Insert name rows) = name ≡ table
IsUse table (statement.Select name names where_is) = name ≡ table
IsUse table _ = ⊥

-- it is a CREATE
abbrev pub IsMake : Statement → Type 0
IsMake (statement.Create table items engine) = Unit {0}
IsMake _ = ⊥

-- an INSERT has a row
abbrev pub HasRows : Statement → Type 0
HasRows (statement.Insert table rows) = 0 < length rows
HasRows _ = Unit {0}

-- A plan was carried out that came to this: it is what an effect comes to, and that is the plan's, where the rows that it reads are in order.
pub record HasShown (plan : Plan) (kind : Kind) (state : EngineState) (outcome : Outcome) : Type 0 where
  pub it : Effect
  pub is : outcome ≡ outcome_of plan.work it
  pub shown : IsInOrder plan.work plan.schema state → plan_effect 0 plan kind state ≡ Ok it

-- no engine has done anything, and none has failed
abbrev pub IsNoted : Result Outcome ExecFault → Type 0
IsNoted (Ok (Noted changes)) = Unit {0}
IsNoted (Ok _) = ⊥
IsNoted (Err (Refused refusal)) = Unit {0}
IsNoted (Err Memory) = Unit {0}
IsNoted (Err _) = ⊥

-- the text spells a statement of which this holds
pub record IsText (text : List ℕ) (P : Statement → Type 0) : Type 0 where
  pub asks : Statement
  pub short : length text ≤ 65536
  pub spells : Spells text asks
  pub holds : P asks

-- it is no statement that is carried out
abbrev pub IsUnbuilt : Statement → Type 0
IsUnbuilt (statement.Create table items engine) = ⊥
IsUnbuilt (statement.Drop table) = ⊥
IsUnbuilt (statement.Insert table rows) = ⊥
IsUnbuilt (statement.Select table names where_is) = ⊥
IsUnbuilt (statement.Install name soname) = ⊥
IsUnbuilt _ = Unit {0}

-- the engine and the dictionary do not agree on the table of a statement
abbrev pub IsAmiss : Catalog → EngineFacts → Refusal → Statement → Type 0
IsAmiss catalog facts refusal (statement.Create table items engine) = IsThereAlone table engine catalog facts × (refusal ≡ TableExists)
IsAmiss catalog facts refusal (statement.Drop table) = IsAbsentThere table catalog facts × (refusal ≡ NoSuchTable)
IsAmiss catalog facts refusal (statement.Insert table rows) = IsAbsentThere table catalog facts × (refusal ≡ NoSuchTable)
IsAmiss catalog facts refusal (statement.Select table names where_is) = IsAbsentThere table catalog facts × (refusal ≡ NoSuchTable)
IsAmiss catalog facts refusal _ = ⊥

-- Why a statement is refused that its effect does not refuse: it is none that is carried out; or the engine and the dictionary do not agree
-- on its table.
pub data IsExcepted (catalog : Catalog) (facts : EngineFacts) (refusal : Refusal) (asks : Statement) : Type 0 where
  unbuilt : IsUnbuilt asks → refusal ≡ NotBuilt → IsExcepted catalog facts refusal asks
  amiss : IsAmiss catalog facts refusal asks → IsExcepted catalog facts refusal asks

-- a statement is refused so: by its effect, or it is excepted
abbrev pub IsRefused : Catalog → EngineFacts → Statement → Refusal → Type 0
IsRefused catalog facts asks refusal = (effect_here catalog facts asks ≡ Err refusal) ⊎ IsExcepted catalog facts refusal asks

-- a text is refused so: by its effect, or its statement is excepted
abbrev pub Refuses : Catalog → EngineFacts → List ℕ → Refusal → Type 0
Refuses catalog facts text refusal = IsEffectHere catalog facts text (Err refusal) ⊎ IsText text (IsExcepted catalog facts refusal)

-- A statement, which is one that is carried out, comes to this: it is what an effect comes to, and that is the statement's, where the rows that
-- it looks at are in order.
pub record ComesTo (catalog : Catalog) (facts : EngineFacts) (asks : Statement) (outcome : Outcome) : Type 0 where
  pub built : IsUnbuilt asks → ⊥
  pub it : Effect
  pub is : outcome ≡ outcome_of asks it
  pub effect : IsInOrderHere catalog asks → effect_here catalog facts asks ≡ Ok it

-- The fault may come: a refusal of which this holds; Device and Memory; and that a file is none only where contents are not told, and then
-- the first of these.
abbrev pub MayEnd : (Refusal → Type 0) → List ℕ → Bool → ExecFault → Type 0
MayEnd P files told (Refused refusal) = P refusal
MayEnd P files told Device = Unit {0}
MayEnd P [] told (NotAVolume file) = ⊥
MayEnd P (first ∷ files) told (NotAVolume file) = (told ≡ false) × (file ≡ first)
MayEnd P files told Memory = Unit {0}

-- A statement is answered: by what it comes to, or a fault that may come.
abbrev pub IsAnswer : Catalog → EngineFacts → List ℕ → Bool → Statement → Result Outcome ExecFault → Type 0
IsAnswer catalog facts files told asks (Ok outcome) = ComesTo catalog facts asks outcome
IsAnswer catalog facts files told asks (Err fault) = MayEnd (IsRefused catalog facts asks) files told fault

-- A text is answered: by what the statement that it spells comes to, or a fault that may come.
abbrev pub IsTextAnswer : Catalog → EngineFacts → List ℕ → Bool → List ℕ → Result Outcome ExecFault → Type 0
IsTextAnswer catalog facts files told text (Ok outcome) = IsText text (λ asks. ComesTo catalog facts asks outcome)
IsTextAnswer catalog facts files told text (Err fault) = MayEnd (Refuses catalog facts text) files told fault
