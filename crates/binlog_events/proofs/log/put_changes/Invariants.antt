use Rattle.std.proofs.Common.{◌≡◌, ◌≤◌, ◌-◌, ◌++◌, List, length, drop, None}
use Rattle.std.specs.Prelude.{Ok}
use Rattle.std.specs.Option.{option_copied}
use Rattle.frame_codec.specs.Frame.{Event}
use Rattle.row_format.specs.Changes.{AreFitChanges}
use Rattle.binlog_events.specs.Changes.{change_events}
use Rattle.binlog_events.specs.Frames.{Chains}
use Rattle.binlog_events.proofs.log.put_changes.Given as goal

abbrev pub invariant-loop-i : goal.invariant-loop-i
invariant-loop-i l = record {
  within : l.i ≤ length l.changes;
  fit : AreFitChanges (drop l.i l.changes);
  done : (events : List Event) × Chains (Ok l.end) l.fn.start l.fn.out.items l.out.items events × (events ++ change_events (option_copied l.before) (drop l.i l.changes) ≡ change_events None l.changes);
}

abbrev pub decreases-loop-i : goal.decreases-loop-i
decreases-loop-i l = length l.changes - l.i
