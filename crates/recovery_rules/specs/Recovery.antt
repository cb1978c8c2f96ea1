-- When all engines can be brought to a log, and when they are. (This project.)
use Rattle.std.specs.Prelude.{◌≡◌, ℕ, List, Some, Bool, true, slice_get, Contains, All}
use Rattle.row_format.specs.declared.schema.Schema.{Schema}
use Rattle.row_format.specs.declared.change.Change.{Change}
use Rattle.row_format.specs.declared.change.Change.TheVariants.{Create}
use Rattle.row_format.specs.declared.change.Transaction.{Transaction}
use Rattle.log_tables.specs.declared.gist.Gist.{Gist}
use Rattle.recovery_rules.specs.Places.{IsDistinct}
use Rattle.recovery_rules.specs.Trails.{Trails, IsAtLog}

-- an engine on the shelf, crash-safe or not: its name, and the schemas that its flags allow
pub record ShelfEngine : Type 0 where
  pub engine : List ℕ
  pub allows : Schema → Bool

-- a crash-safe engine: its name, the schemas that its flags allow, and what its files stand for
pub record SafeEngine : Type 0 where
  pub engine : List ℕ
  pub allows : Schema → Bool
  pub gist : Gist

-- the engine, with files that stand for this gist
abbrev pub standing_for : SafeEngine → Gist → SafeEngine
standing_for it gist = record { engine = it.engine; allows = it.allows; gist = gist }

-- the engine's flags allow the schema of each of its tables that these changes make
pub record Suits (engine : List ℕ) (allows : Schema → Bool) (changes : List Change) : Type 0 where
  pub allowed : (table : List ℕ) (schema : Schema) → Contains changes (Create table engine schema) → allows schema ≡ true

-- The engines are recoverable to the log: its xids all differ, each crash-safe engine trails it, and the flags allow each table that the
-- log, or something prepared, makes.
pub record IsRecoverable (shelf : List ShelfEngine) (log : List Transaction) (engines : List SafeEngine) : Type 0 where
  pub distinct : IsDistinct log
  pub trails : All (λ it. Trails it.engine log it.gist) engines
  pub log_suits : All (λ (it : ShelfEngine). All (λ t. Suits it.engine it.allows t.changes) log) shelf
  pub prepared_suits : All (λ (it : SafeEngine). All (λ p. Suits it.engine it.allows p.changes) it.gist.prepared) engines

-- the engines are recovered: recoverable to the log, and each crash-safe engine is at it
pub record IsRecovered (shelf : List ShelfEngine) (log : List Transaction) (engines : List SafeEngine) : Type 0 where
  pub recoverable : IsRecoverable shelf log engines
  pub at_log : All (λ it. IsAtLog it.engine log it.gist) engines

-- this engine stands at this place of the list
abbrev pub StandsAt : List SafeEngine → ℕ → SafeEngine → Type 0
StandsAt engines i it = slice_get engines i ≡ Some it
