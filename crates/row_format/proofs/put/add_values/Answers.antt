use Rattle.row_format.proofs.AddLemmas.{adds_stopped}
use Rattle.row_format.proofs.put.add_values.Goals as goal

pub returns-in_err-add_value : goal.returns-in_err-add_value
returns-in_err-add_value c = record {
  adds = adds_stopped _ _ _ _ _ _ c.from_residual.ensures.0 c.loop-i.invariant.so_far c.in_err-add_value.ensures;
}
