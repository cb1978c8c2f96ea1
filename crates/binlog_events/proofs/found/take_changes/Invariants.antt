use Rattle.std.proofs.Common.{length}
use Rattle.binlog_events.specs.Walking.{before_of, last_map}
use Rattle.binlog_events.proofs.LogLemmas.{Walked}
use Rattle.binlog_events.proofs.found.take_changes.Given as goal

abbrev pub invariant-events : goal.invariant-events
invariant-events l = Walked l.fn.start l.bytes l.changes.items (before_of l.waiting (last_map l.changes.items)) l.rest l.end

abbrev pub decreases-events : goal.decreases-events
decreases-events l = length l.rest
