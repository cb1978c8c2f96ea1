use Rattle.std.proofs.Common.{length, ◌-◌, ◌+◌, ◌≡◌, ◌≤◌, drop, sum_by}
use Rattle.live_tables.specs.Folds.{through, change_bytes}
use Rattle.live_tables.specs.Gone.{bytes_step}
use Rattle.live_tables.proofs.gone.bytes_through.Given as goal

abbrev pub invariant-loop-i : goal.invariant-loop-i
invariant-loop-i l = record {
  within : l.i ≤ length l.changes;
  few : l.bytes + sum_by change_bytes (drop l.i l.changes) ≤ l.count + sum_by change_bytes l.changes;
  so_far : through (bytes_step l.name) (drop l.i l.changes) l.bytes ≡ through (bytes_step l.name) l.changes l.count;
}

abbrev pub decreases-loop-i : goal.decreases-loop-i
decreases-loop-i l = length l.changes - l.i
