use Rattle.std.proofs.Common.{◌≡◌, drop}
use Rattle.disk_model.specs.Held.{place_from}
use Rattle.disk_model.proofs.files.place_of.Given as goal

abbrev pub invariant-loop-place : goal.invariant-loop-place
invariant-loop-place l = place_from l.file l.place (drop l.place l.files) ≡ place_from l.file 0 l.files
