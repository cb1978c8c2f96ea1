-- That what a statement changes can be spelt in the log. (This project.)
use Rattle.std.specs.Prelude.{◌<◌, ◌^◌, length}
use Rattle.row_format.specs.Changes.{AreFitChanges}
use Rattle.sql_effect.specs.declared.shape.Effect.{Effect}

-- each of its changes fits, and there are fewer than 2^31 of them
pub record CanBeSpelt (it : Effect) : Type 0 where
  pub fit : AreFitChanges it.changes
  pub few : length it.changes < 2 ^ 31
