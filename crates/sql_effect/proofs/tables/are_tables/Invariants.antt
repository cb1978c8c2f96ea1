use Rattle.std.proofs.Common.{◌≤◌, ◌-◌, length, take}
use Rattle.sql_effect.specs.Effects.{AreTables}
use Rattle.sql_effect.proofs.tables.are_tables.Given as goal

abbrev pub invariant-loop-i : goal.invariant-loop-i
invariant-loop-i l = record { within : l.i ≤ length l.tables; passed : AreTables (take l.i l.tables) }

abbrev pub decreases-loop-i : goal.decreases-loop-i
decreases-loop-i l = length l.tables - l.i
