use Rattle.std.proofs.Common.{◌≤◌, ◌-◌, All, length, take}
use Rattle.row_format.specs.Rows.{IsRow}
use Rattle.sql_effect.proofs.tables.are_rows.Given as goal

abbrev pub invariant-loop-i : goal.invariant-loop-i
invariant-loop-i l = record { within : l.i ≤ length l.rows; passed : All (IsRow l.schema) (take l.i l.rows) }

abbrev pub decreases-loop-i : goal.decreases-loop-i
decreases-loop-i l = length l.rows - l.i
