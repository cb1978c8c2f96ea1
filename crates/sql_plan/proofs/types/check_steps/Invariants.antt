use Rattle.std.proofs.Common.{◌≡◌, ◌≤◌, ◌-◌, length, drop}
use Rattle.sql_plan.specs.Types.{steps_refusal}
use Rattle.sql_plan.proofs.types.check_steps.Given as goal

abbrev pub invariant-loop-i : goal.invariant-loop-i
invariant-loop-i l = record {
  within : l.i ≤ length l.steps;
  refusal : steps_refusal l.columns (drop l.i l.steps) ≡ steps_refusal l.columns l.steps;
}

abbrev pub decreases-loop-i : goal.decreases-loop-i
decreases-loop-i l = length l.steps - l.i
