use Rattle.row_format.proofs.AddLemmas.{adds_stopped}
use Rattle.row_format.proofs.put.add_columns.Goals as goal

pub returns-in_err-add_column : goal.returns-in_err-add_column
returns-in_err-add_column c =
    adds_stopped _ _ _ _ _ _ c.from_residual.ensures.0 c.loop-column.invariant c.in_err-add_column.ensures
