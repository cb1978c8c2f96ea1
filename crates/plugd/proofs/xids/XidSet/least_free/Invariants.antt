use Rattle.std.proofs.Common.{◌≤◌, ◌<◌, ◌-◌, ◌^◌, ℕ}
use Rattle.plugd.specs.XidSet.{HasXid}
use Rattle.plugd.proofs.xids.XidSet.least_free.Given as goal

abbrev pub invariant-loop-last : goal.invariant-loop-last
invariant-loop-last l = (1 ≤ l.candidate) × ((y : ℕ) → 1 ≤ y → y < l.candidate → HasXid l.self y)

abbrev pub decreases-loop-last : goal.decreases-loop-last
decreases-loop-last l = 2 ^ 64 - l.candidate
