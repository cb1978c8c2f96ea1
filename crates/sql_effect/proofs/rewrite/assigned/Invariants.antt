use Rattle.std.proofs.Common.{◌≡◌, ◌≤◌, ◌-◌, length, drop}
use Rattle.sql_effect.specs.Rewrite.{assigned}
use Rattle.sql_effect.proofs.rewrite.assigned.Given as goal

abbrev pub invariant-loop-i : goal.invariant-loop-i
invariant-loop-i l = record {
  within : l.i ≤ length l.sets;
  row : assigned l.columns (drop l.i l.sets) l.values.items ≡ assigned l.columns l.sets l.row;
}

abbrev pub decreases-loop-i : goal.decreases-loop-i
decreases-loop-i l = length l.sets - l.i
