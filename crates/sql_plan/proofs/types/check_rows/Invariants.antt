use Rattle.std.proofs.Common.{◌≡◌, ◌≤◌, ◌-◌, length, drop}
use Rattle.sql_plan.specs.Types.{rows_refusal}
use Rattle.sql_plan.proofs.types.check_rows.Given as goal

abbrev pub invariant-loop-i : goal.invariant-loop-i
invariant-loop-i l = record {
  within : l.i ≤ length l.rows;
  refusal : rows_refusal l.columns (drop l.i l.rows) ≡ rows_refusal l.columns l.rows;
}

abbrev pub decreases-loop-i : goal.decreases-loop-i
decreases-loop-i l = length l.rows - l.i
