use Rattle.std.proofs.Common.{length, ◌-◌, ◌+◌, ◌≡◌, ◌≤◌, drop}
use Rattle.engine_api.specs.States.{changes_in}
use Rattle.live_tables.specs.Folds.{through}
use Rattle.live_tables.specs.Places.{one_below, sum_step}
use Rattle.live_tables.proofs.below.below_by.Given as goal

abbrev pub invariant-loop-i : goal.invariant-loop-i
invariant-loop-i l = record {
  within : l.i ≤ length l.pending;
  few : l.low + length (changes_in (drop l.i l.pending)) ≤ l.count + length (changes_in l.pending);
  so_far : through (sum_step (one_below l.column l.key) l.name) (changes_in (drop l.i l.pending)) (l.low) ≡ through (sum_step (one_below l.column l.key) l.name) (changes_in l.pending) (l.count);
}

abbrev pub decreases-loop-i : goal.decreases-loop-i
decreases-loop-i l = length l.pending - l.i
