use Rattle.std.proofs.Common.{◌≡◌, drop}
use Rattle.disk_model.specs.Held.{held, bytes_in}
use Rattle.disk_model.proofs.files.bytes_of.Given as goal

abbrev pub invariant-loop-given : goal.invariant-loop-given
invariant-loop-given l = bytes_in (held (drop l.given-index l.files)) l.file ≡ bytes_in (held l.files) l.file
