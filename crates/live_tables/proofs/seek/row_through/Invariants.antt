use Rattle.std.proofs.Common.{length, ◌-◌, ◌≡◌, ◌≤◌, drop}
use Rattle.std.specs.Option.{option_copied}
use Rattle.live_tables.specs.Folds.{through, row_step}
use Rattle.live_tables.proofs.seek.row_through.Given as goal

abbrev pub invariant-loop-i : goal.invariant-loop-i
invariant-loop-i l = record { within : l.i ≤ length l.changes; so_far : through (row_step l.name l.column l.key) (drop l.i l.changes) (option_copied l.row) ≡ through (row_step l.name l.column l.key) l.changes (option_copied l.found) }

abbrev pub decreases-loop-i : goal.decreases-loop-i
decreases-loop-i l = length l.changes - l.i
