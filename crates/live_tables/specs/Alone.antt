-- One transaction at a time. (This project.)
use Rattle.std.specs.Prelude.{◌≡◌, ℕ, [], false}
use Rattle.engine_api.specs.States.{EngineState, without_txn}
use Rattle.engine_api.specs.Live.{is_under}

-- no other transaction has anything pending, nothing is prepared, and this one may change
pub record IsAlone (txn : ℕ) (state : EngineState) : Type 0 where
  pub others : without_txn txn state.pending ≡ []
  pub nothing : state.gist.prepared ≡ []
  pub unprepared : is_under txn state ≡ false

-- nothing is pending, and nothing is prepared
pub record IsIdle (state : EngineState) : Type 0 where
  pub nothing : state.pending ≡ []
  pub unprepared : state.gist.prepared ≡ []
