use Rattle.std.proofs.Common.{length, ◌-◌, ◌≡◌, ◌≤◌, ◌+◌, drop}
use Rattle.log_tables.specs.Tables.{place_named}
use Rattle.log_tables.proofs.plain.place_of.Given as goal

abbrev pub invariant-loop-i : goal.invariant-loop-i
invariant-loop-i l = record { within : l.i ≤ length l.tables; so_far : l.i + place_named l.name (drop l.i l.tables) ≡ place_named l.name l.tables }

abbrev pub decreases-loop-i : goal.decreases-loop-i
decreases-loop-i l = length l.tables - l.i
