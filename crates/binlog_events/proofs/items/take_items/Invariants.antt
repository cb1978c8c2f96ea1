use Rattle.std.proofs.Common.{◌≡◌}
use Rattle.binlog_events.specs.Walking.{Other, before_of, last_map, items_at}
use Rattle.row_format.proofs.FrontLemmas.{with_front}
use Rattle.binlog_events.proofs.items.take_items.Given as goal

abbrev pub invariant-loop-left : goal.invariant-loop-left
invariant-loop-left l = with_front l.changes.items (items_at l.left (before_of l.waiting (last_map l.changes.items)) l.rest) ≡ items_at l.count Other l.bytes

abbrev pub decreases-loop-left : goal.decreases-loop-left
decreases-loop-left l = l.left
