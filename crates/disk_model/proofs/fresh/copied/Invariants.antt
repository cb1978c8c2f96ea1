use Rattle.std.proofs.Common.{◌≡◌, take}
use Rattle.disk_model.specs.Held.{held}
use Rattle.disk_model.proofs.fresh.copied.Given as goal

abbrev pub invariant-loop-given : goal.invariant-loop-given
invariant-loop-given l = held l.copy.items ≡ held (take l.given-index l.files)
