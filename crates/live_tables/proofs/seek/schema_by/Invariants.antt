use Rattle.std.proofs.Common.{length, ◌-◌, ◌≡◌, ◌≤◌, drop}
use Rattle.std.specs.Option.{option_copied}
use Rattle.engine_api.specs.States.{changes_in}
use Rattle.live_tables.specs.Folds.{through, schema_step}
use Rattle.live_tables.proofs.seek.schema_by.Given as goal

abbrev pub invariant-loop-i : goal.invariant-loop-i
invariant-loop-i l = record { within : l.i ≤ length l.pending; so_far : through (schema_step l.name) (changes_in (drop l.i l.pending)) (option_copied l.schema) ≡ through (schema_step l.name) (changes_in l.pending) (option_copied l.found) }

abbrev pub decreases-loop-i : goal.decreases-loop-i
decreases-loop-i l = length l.pending - l.i
