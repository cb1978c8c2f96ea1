use Rattle.std.proofs.Common.{◌≡◌, ◌≤◌, ◌-◌, length, drop}
use Rattle.row_format.specs.Reading.{values_at}
use Rattle.row_format.proofs.FrontLemmas.{with_front}
use Rattle.row_format.proofs.take.take_values.Given as goal

abbrev pub invariant-loop-i : goal.invariant-loop-i
invariant-loop-i l = record {
  within : l.i ≤ length l.columns;
  so_far : with_front l.values.items (values_at (drop l.i l.columns) l.bits_left l.rest) ≡ values_at l.columns l.bits l.bytes;
}

abbrev pub decreases-loop-i : goal.decreases-loop-i
decreases-loop-i l = length l.columns - l.i
