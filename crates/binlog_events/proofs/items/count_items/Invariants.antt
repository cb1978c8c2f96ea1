use Rattle.std.proofs.Common.{◌≡◌, ◌≤◌, ◌-◌, ◌+◌, length, drop}
use Rattle.std.specs.Option.{option_copied}
use Rattle.row_format.specs.Changes.{AreFitChanges}
use Rattle.binlog_events.specs.Changes.{change_events}
use Rattle.binlog_events.specs.Items.{items_of_changes}
use Rattle.binlog_events.proofs.items.count_items.Given as goal

abbrev pub invariant-loop-i : goal.invariant-loop-i
invariant-loop-i l = record {
  within : l.i ≤ length l.changes;
  fit : AreFitChanges (drop l.i l.changes);
  so_far : l.count + length (change_events (option_copied l.before) (drop l.i l.changes)) ≡ length (items_of_changes l.changes);
}

abbrev pub decreases-loop-i : goal.decreases-loop-i
decreases-loop-i l = length l.changes - l.i
