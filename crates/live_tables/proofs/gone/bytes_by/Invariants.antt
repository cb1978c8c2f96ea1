use Rattle.std.proofs.Common.{length, ◌-◌, ◌+◌, ◌≡◌, ◌≤◌, drop, sum_by}
use Rattle.engine_api.specs.States.{changes_in}
use Rattle.live_tables.specs.Folds.{through, change_bytes}
use Rattle.live_tables.specs.Gone.{bytes_step}
use Rattle.live_tables.proofs.gone.bytes_by.Given as goal

abbrev pub invariant-loop-i : goal.invariant-loop-i
invariant-loop-i l = record {
  within : l.i ≤ length l.pending;
  few : l.bytes + sum_by change_bytes (changes_in (drop l.i l.pending)) ≤ l.count + sum_by change_bytes (changes_in l.pending);
  so_far : through (bytes_step l.name) (changes_in (drop l.i l.pending)) l.bytes ≡ through (bytes_step l.name) (changes_in l.pending) l.count;
}

abbrev pub decreases-loop-i : goal.decreases-loop-i
decreases-loop-i l = length l.pending - l.i
