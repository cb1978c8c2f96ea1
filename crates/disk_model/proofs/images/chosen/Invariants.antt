use Rattle.disk_model.specs.Held.{held}
use Rattle.disk_model.proofs.ImageLemmas.{SoFar}
use Rattle.disk_model.proofs.images.chosen.Given as goal

abbrev pub invariant-loop-place : goal.invariant-loop-place
invariant-loop-place l = SoFar (held l.start) l.calls l.fn.choice l.left l.place (held l.files.items)
