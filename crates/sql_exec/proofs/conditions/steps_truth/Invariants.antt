use Rattle.std.proofs.Common.{◌≡◌, ◌≤◌, ◌-◌, [], length, drop}
use Rattle.sql_effect.specs.Conditions.{truths_behind}
use Rattle.sql_exec.proofs.conditions.steps_truth.Given as goal

abbrev pub invariant-loop-i : goal.invariant-loop-i
invariant-loop-i l = record {
  within : l.i ≤ length l.steps;
  truths : truths_behind l.columns l.row (drop l.i l.steps) l.truths.items ≡ truths_behind l.columns l.row l.steps [];
}

abbrev pub decreases-loop-i : goal.decreases-loop-i
decreases-loop-i l = length l.steps - l.i
