use Rattle.std.proofs.Common.{◌≡◌, ◌≤◌, ◌-◌, ◌+◌, length, take}
use Rattle.std.specs.List.{flat_map}
use Rattle.row_format.specs.Schemas.{bits_len}
use Rattle.row_format.specs.Spelling.{value_spelling}
use Rattle.row_format.proofs.len.row_len.Given as goal

abbrev pub invariant-loop-i : goal.invariant-loop-i
invariant-loop-i l = record {
  within : l.i ≤ length l.values;
  values_are : l.values ≡ l.row;
  so_far : l.sum ≡ bits_len (length l.values) + length (flat_map value_spelling (take l.i l.values));
}

abbrev pub decreases-loop-i : goal.decreases-loop-i
decreases-loop-i l = length l.values - l.i
