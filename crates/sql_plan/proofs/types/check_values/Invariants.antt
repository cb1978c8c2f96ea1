use Rattle.std.proofs.Common.{◌≡◌, ◌≤◌, ◌-◌, length, drop}
use Rattle.sql_plan.specs.Types.{values_refusal}
use Rattle.sql_plan.proofs.types.check_values.Given as goal

abbrev pub invariant-loop-i : goal.invariant-loop-i
invariant-loop-i l = record {
  within : l.i ≤ length l.columns;
  also : l.i ≤ length l.values;
  refusal : values_refusal (drop l.i l.columns) (drop l.i l.values) ≡ values_refusal l.columns l.values;
}

abbrev pub decreases-loop-i : goal.decreases-loop-i
decreases-loop-i l = length l.columns - l.i
