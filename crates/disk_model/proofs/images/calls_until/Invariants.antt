use Rattle.std.proofs.Common.{◌≡◌, ◌++◌, take, drop}
use Rattle.disk_model.specs.Past.{until}
use Rattle.disk_model.proofs.images.calls_until.Given as goal

abbrev pub invariant-loop-place : goal.invariant-loop-place
invariant-loop-place l = take l.place l.past ++ until l.moment (drop l.place l.past) ≡ until l.moment l.past
