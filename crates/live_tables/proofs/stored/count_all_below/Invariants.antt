use Rattle.std.proofs.Common.{length, ◌-◌, ◌+◌, ◌≡◌, ◌≤◌, drop}
use Rattle.live_tables.specs.Places.{below}
use Rattle.live_tables.proofs.stored.count_all_below.Given as goal

abbrev pub invariant-loop-i : goal.invariant-loop-i
invariant-loop-i l = record { within : l.i ≤ length l.rows; few : l.low ≤ l.i; so_far : l.low + below l.column l.key (drop l.i l.rows) ≡ below l.column l.key l.rows }

abbrev pub decreases-loop-i : goal.decreases-loop-i
decreases-loop-i l = length l.rows - l.i
