use Rattle.std.proofs.Common.{◌≡◌, ◌≤◌, ◌-◌, length, drop}
use Rattle.sql_plan.specs.Types.{sets_refusal}
use Rattle.sql_plan.proofs.types.check_sets.Given as goal

abbrev pub invariant-loop-i : goal.invariant-loop-i
invariant-loop-i l = record {
  within : l.i ≤ length l.sets;
  refusal : sets_refusal l.columns (drop l.i l.sets) ≡ sets_refusal l.columns l.sets;
}

abbrev pub decreases-loop-i : goal.decreases-loop-i
decreases-loop-i l = length l.sets - l.i
