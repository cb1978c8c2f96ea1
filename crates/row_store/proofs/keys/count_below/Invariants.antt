use Rattle.std.proofs.Common.{◌≤◌, ◌-◌, length}
use Rattle.log_tables.specs.Keys.{IsInKeyOrder}
use Rattle.row_store.specs.Slots.{rows_in}
use Rattle.row_store.proofs.KeyLemmas.{ArePartedUpTo}
use Rattle.row_store.proofs.keys.count_below.Given as goal

abbrev pub invariant-loop-low : goal.invariant-loop-low
invariant-loop-low l =
    (IsInKeyOrder l.column (rows_in l.slots l.order.items) → ArePartedUpTo l.column l.key (rows_in l.slots l.order.items) l.low l.high)
    × (l.low ≤ l.high) × (l.high ≤ length l.order.items)

abbrev pub decreases-loop-low : goal.decreases-loop-low
decreases-loop-low l = l.high - l.low
