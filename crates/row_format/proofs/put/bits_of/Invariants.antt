use Rattle.std.proofs.Common.{◌≡◌, ◌≤◌, length, drop}
use Rattle.row_format.specs.Spelling.{null_bits}
use Rattle.row_format.proofs.put.bits_of.Given as goal

abbrev pub invariant-loop-i : goal.invariant-loop-i
invariant-loop-i l = record { within : l.i ≤ length l.values; so_far : l.bits ≡ null_bits (drop l.i l.values) }

abbrev pub decreases-loop-i : goal.decreases-loop-i
decreases-loop-i l = l.i
