use Rattle.std.proofs.Common.{◌≡◌, ◌≤◌, length, drop}
use Rattle.sql_effect.specs.Conditions.{all_of}
use Rattle.sql_exec.proofs.conditions.all_of.Given as goal

abbrev pub invariant-loop-i : goal.invariant-loop-i
invariant-loop-i l = record {
  within : l.i ≤ length l.truths;
  so_far : l.all ≡ all_of (drop l.i l.truths);
}

abbrev pub decreases-loop-i : goal.decreases-loop-i
decreases-loop-i l = l.i
