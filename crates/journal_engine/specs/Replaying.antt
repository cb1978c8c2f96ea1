-- What tables have of a journal's records, as these are read back one by one. (This project.)
use Rattle.std.specs.Prelude.{◌≡◌, ℕ, List}
use Rattle.engine_api.specs.States.{EngineState, begun_state}
use Rattle.redo_journal.specs.declared.record.Record.{Record}
use Rattle.redo_journal.specs.Replays.{Replay, Allows, AllFit, start, after_records}

-- the engine has just what records stand for, with nothing pending
abbrev pub HasRead : Replay → EngineState → Type 0
HasRead replay state = state ≡ begun_state replay.gist

-- the engine has just what some records stand for, and behind those this one may stand
pub record MayTake (it : Record) (state : EngineState) : Type 0 where
  pub seen : Replay
  pub read : HasRead seen state
  pub allowed : Allows seen it

-- Of all records those before the rest are read: the engine has just what they stand for, and each of the rest fits behind them.
pub record HasReadUpTo (rest all : List Record) (state : EngineState) : Type 0 where
  pub at : ℕ
  pub seen : Replay
  pub read : HasRead seen state
  pub fit : AllFit at seen rest
  pub ends : after_records rest seen ≡ after_records all start
