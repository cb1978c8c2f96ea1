-- What the changes of one transaction make of an engine's state. (This project.)
use Rattle.std.specs.Prelude.{◌≡◌, ℕ, List, [], ◌∷◌, ◌++◌}
use Rattle.row_format.specs.declared.change.Change.{Change}
use Rattle.engine_api.specs.States.{EngineState, changes_in, changes_by, without_txn, with_change}

-- the state after changes of a transaction, one after the other
abbrev pub with_changes : ℕ → List Change → EngineState → EngineState
with_changes txn [] state = state
with_changes txn (it ∷ rest) state = with_changes txn rest (with_change txn it state)

-- The changes of a transaction stand behind those of all others. One that has none stands so too.
abbrev pub StandsLast : ℕ → EngineState → Type 0
StandsLast txn state = changes_in state.pending ≡ changes_in (without_txn txn state.pending) ++ changes_by txn state.pending
