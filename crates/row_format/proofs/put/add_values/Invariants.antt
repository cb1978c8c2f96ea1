use Rattle.std.proofs.Common.{◌≡◌, ◌≤◌, ◌-◌, ◌++◌, length, drop, take, None}
use Rattle.std.specs.List.{flat_map}
use Rattle.row_format.specs.Rows.{values_refusal}
use Rattle.row_format.specs.Spelling.{value_spelling}
use Rattle.row_format.proofs.put.add_values.Given as goal

abbrev pub invariant-loop-i : goal.invariant-loop-i
invariant-loop-i l = record {
  within : l.i ≤ length l.columns;
  same_length : length l.values ≡ length l.columns;
  taken : values_refusal (drop l.i l.columns) (drop l.i l.values) ≡ None;
  so_far : l.out.items ≡ l.fn.out.items ++ flat_map value_spelling (take l.i l.values);
}

abbrev pub decreases-loop-i : goal.decreases-loop-i
decreases-loop-i l = length l.columns - l.i
