use Rattle.std.proofs.Common.{◌≡◌, ◌≤◌, ◌-◌, ◌++◌, length, drop}
use Rattle.std.specs.Option.{option_copied}
use Rattle.std.specs.List.{flat_map}
use Rattle.framed_file.specs.Framed.{IsPrefix}
use Rattle.row_format.specs.Changes.{AreFitChanges}
use Rattle.binlog_events.specs.Changes.{change_events}
use Rattle.binlog_events.specs.Items.{item_spelling, items_of_changes}
use Rattle.binlog_events.proofs.items.add_items.Given as goal

abbrev pub invariant-loop-i : goal.invariant-loop-i
invariant-loop-i l = record {
  within : l.i ≤ length l.changes;
  fit : AreFitChanges (drop l.i l.changes);
  front : IsPrefix l.fn.out.items l.out.items;
  so_far : l.out.items ++ flat_map item_spelling (change_events (option_copied l.before) (drop l.i l.changes)) ≡ l.fn.out.items ++ flat_map item_spelling (items_of_changes l.changes);
}

abbrev pub decreases-loop-i : goal.decreases-loop-i
decreases-loop-i l = length l.changes - l.i
