use Rattle.std.proofs.Common.{ℕ, ◌<◌, ◌≤◌}
use Rattle.page_format.specs.Format.{IsOf}
use Rattle.page_format.proofs.directory.lowest.Given as goal

-- no record so far has a byte below
abbrev pub invariant-loop-slot : goal.invariant-loop-slot
invariant-loop-slot l = (l.low ≤ 4096) × ((slot at : ℕ) → slot < l.slot → IsOf l.bytes slot at → l.low ≤ at)
