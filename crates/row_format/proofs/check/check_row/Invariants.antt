use Rattle.std.proofs.Common.{length, ◌-◌, ◌≡◌, ◌≤◌, drop, take}
use Rattle.std.specs.Prelude.{All}
use Rattle.row_format.specs.Rows.{values_refusal, IsInRange}
use Rattle.row_format.proofs.check.check_row.Given as goal

abbrev pub invariant-loop-i : goal.invariant-loop-i
invariant-loop-i l = record {
  within : l.i ≤ length l.columns;
  same_length : length l.values ≡ length l.columns;
  so_far : values_refusal (drop l.i l.columns) (drop l.i l.values) ≡ values_refusal l.columns l.values;
  in_range : All IsInRange (take l.i l.values);
  columns_are : l.columns ≡ l.schema.columns;
  values_are : l.values ≡ l.row;
}

abbrev pub decreases-loop-i : goal.decreases-loop-i
decreases-loop-i l = length l.columns - l.i
