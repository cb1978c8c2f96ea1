use Rattle.std.proofs.Common.{length, ◌-◌, ◌+◌, ◌≡◌, ◌≤◌, drop}
use Rattle.engine_api.specs.States.{changes_in}
use Rattle.live_tables.specs.Folds.{through, rows_step}
use Rattle.live_tables.proofs.seek.rows_by.Given as goal

abbrev pub invariant-loop-i : goal.invariant-loop-i
invariant-loop-i l = record { within : l.i ≤ length l.pending; few : l.rows + length (changes_in (drop l.i l.pending)) ≤ l.count + length (changes_in l.pending); so_far : through (rows_step l.name) (changes_in (drop l.i l.pending)) (l.rows) ≡ through (rows_step l.name) (changes_in l.pending) (l.count) }

abbrev pub decreases-loop-i : goal.decreases-loop-i
decreases-loop-i l = length l.pending - l.i
