use Rattle.std.proofs.Common.{length, ◌-◌, ◌≡◌, ◌≤◌, ◌+◌, drop}
use Rattle.log_tables.specs.Keys.{place_above, key_in}
use Rattle.sql_value.specs.declared.value.Value.TheVariants.{Null}
use Rattle.log_tables.proofs.plain.place_for.Given as goal

abbrev pub invariant-loop-i : goal.invariant-loop-i
invariant-loop-i l = record { within : l.i ≤ length l.rows; so_far : l.i + place_above l.column l.row (drop l.i l.rows) ≡ place_above l.column l.row l.rows; empty : l.null ≡ Null; key_is : l.key ≡ key_in l.column l.row }

abbrev pub decreases-loop-i : goal.decreases-loop-i
decreases-loop-i l = length l.rows - l.i
