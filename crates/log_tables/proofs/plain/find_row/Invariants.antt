use Rattle.std.proofs.Common.{length, ◌-◌, ◌≡◌, ◌≤◌, drop}
use Rattle.log_tables.specs.Keys.{row_with}
use Rattle.log_tables.proofs.plain.find_row.Given as goal

abbrev pub invariant-loop-i : goal.invariant-loop-i
invariant-loop-i l = record { within : l.i ≤ length l.rows; so_far : row_with l.column l.key (drop l.i l.rows) ≡ row_with l.column l.key l.rows }

abbrev pub decreases-loop-i : goal.decreases-loop-i
decreases-loop-i l = length l.rows - l.i
