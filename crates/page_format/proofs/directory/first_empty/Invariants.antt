use Rattle.std.proofs.Common.{ℕ, ◌<◌}
use Rattle.page_format.specs.Format.{length_of}
use Rattle.page_format.proofs.directory.first_empty.Given as goal

-- the slots below have records
abbrev pub invariant-loop-slot : goal.invariant-loop-slot
invariant-loop-slot l = (k : ℕ) → k < l.slot → 0 < length_of l.bytes k
