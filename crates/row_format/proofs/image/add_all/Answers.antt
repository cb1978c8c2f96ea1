use Rattle.row_format.proofs.AddLemmas.{adds_stopped}
use Rattle.row_format.proofs.image.add_all.Goals as goal

pub returns-in_err-add_any : goal.returns-in_err-add_any
returns-in_err-add_any c =
    adds_stopped _ _ _ _ _ _ c.from_residual.ensures.0 c.loop-value.invariant c.in_err-add_any.ensures
