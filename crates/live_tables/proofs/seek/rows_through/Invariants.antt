use Rattle.std.proofs.Common.{length, ◌-◌, ◌+◌, ◌≡◌, ◌≤◌, drop}
use Rattle.live_tables.specs.Folds.{through, rows_step}
use Rattle.live_tables.proofs.seek.rows_through.Given as goal

abbrev pub invariant-loop-i : goal.invariant-loop-i
invariant-loop-i l = record { within : l.i ≤ length l.changes; few : l.rows ≤ l.count + l.i; so_far : through (rows_step l.name) (drop l.i l.changes) (l.rows) ≡ through (rows_step l.name) l.changes (l.count) }

abbrev pub decreases-loop-i : goal.decreases-loop-i
decreases-loop-i l = length l.changes - l.i
