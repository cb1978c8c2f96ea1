-- What a statement comes to. (This project.)
use Rattle.std.specs.Prelude.{◌<◌, ◌^◌, ℕ, List, [], length, Result, Ok, Err}
use Rattle.row_format.specs.declared.change.Change.{Change}
use Rattle.row_format.specs.Changes.{AreFitChanges}
use Rattle.engine_api.specs.States.{EngineState}
use Rattle.sql_text.specs.declared.statement.Statement.{Statement}
use Rattle.sql_text.specs.declared.statement.Statement.TheVariants as statement
use Rattle.sql_effect.specs.declared.shape.Effect.{Effect}
use Rattle.sql_exec.specs.declared.fault.ExecFault.{ExecFault}
use Rattle.sql_exec.specs.Changes.{with_changes}
use Rattle.sql_step.specs.declared.outcome.Outcome.{Outcome}
use Rattle.sql_step.specs.declared.outcome.Outcome.TheVariants.{Rows, Changed, Noted}

-- What a statement with this effect comes to: the rows of a SELECT; what an INSTALL changes is the server's; all else is the engine's.
abbrev pub outcome_of : Statement → Effect → Outcome
outcome_of (statement.Select table names where_is) effect = Rows effect.rows
outcome_of (statement.Install name soname) effect = Noted effect.changes
outcome_of _ effect = Changed effect.count effect.changes

-- the changes that an engine has by an outcome
abbrev pub changes_of : Outcome → List Change
changes_of (Rows rows) = []
changes_of (Changed count changes) = changes
changes_of (Noted changes) = []

-- the changes that an engine has by a result
abbrev pub changes_in : Result Outcome ExecFault → List Change
changes_in (Ok it) = changes_of it
changes_in (Err fault) = []

-- the state of an engine behind a result: that before it, with what the transaction has changed
abbrev pub state_behind : ℕ → Result Outcome ExecFault → EngineState → EngineState
state_behind txn result state = with_changes txn (changes_in result) state

-- changes that a log can have as a transaction: some, fewer than 2^31, and each can be spelt
pub record AreLoggable (changes : List Change) : Type 0 where
  pub some : 0 < length changes
  pub few : length changes < 2 ^ 31
  pub fit : AreFitChanges changes

-- what an outcome changes can be logged, where it is no answer of rows
abbrev pub IsLoggable : Outcome → Type 0
IsLoggable (Rows rows) = Unit {0}
IsLoggable (Changed count changes) = AreLoggable changes
IsLoggable (Noted changes) = AreLoggable changes
