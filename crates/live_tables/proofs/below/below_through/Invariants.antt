use Rattle.std.proofs.Common.{length, ◌-◌, ◌+◌, ◌≡◌, ◌≤◌, drop}
use Rattle.live_tables.specs.Folds.{through}
use Rattle.live_tables.specs.Places.{one_below, sum_step}
use Rattle.live_tables.proofs.below.below_through.Given as goal

abbrev pub invariant-loop-i : goal.invariant-loop-i
invariant-loop-i l = record {
  within : l.i ≤ length l.changes;
  few : l.low ≤ l.count + l.i;
  so_far : through (sum_step (one_below l.column l.key) l.name) (drop l.i l.changes) (l.low) ≡ through (sum_step (one_below l.column l.key) l.name) l.changes (l.count);
}

abbrev pub decreases-loop-i : goal.decreases-loop-i
decreases-loop-i l = length l.changes - l.i
