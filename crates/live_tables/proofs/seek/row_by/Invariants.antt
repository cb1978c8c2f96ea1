use Rattle.std.proofs.Common.{length, ◌-◌, ◌≡◌, ◌≤◌, drop}
use Rattle.std.specs.Option.{option_copied}
use Rattle.engine_api.specs.States.{changes_in}
use Rattle.live_tables.specs.Folds.{through, row_step}
use Rattle.live_tables.proofs.seek.row_by.Given as goal

abbrev pub invariant-loop-i : goal.invariant-loop-i
invariant-loop-i l = record { within : l.i ≤ length l.pending; so_far : through (row_step l.name l.column l.key) (changes_in (drop l.i l.pending)) (option_copied l.row) ≡ through (row_step l.name l.column l.key) (changes_in l.pending) (option_copied l.found) }

abbrev pub decreases-loop-i : goal.decreases-loop-i
decreases-loop-i l = length l.pending - l.i
