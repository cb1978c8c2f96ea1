use Rattle.std.proofs.Common.{◌+◌, ◌-◌, length}
use Rattle.row_locks.specs.Queues.{waits_for}
use Rattle.row_locks.proofs.BackLemmas.{IsOnWay}
use Rattle.row_locks.proofs.cycle.way_back.Given as goal

abbrev pub invariant-loop-next : goal.invariant-loop-next
invariant-loop-next l = IsOnWay (waits_for (record { granted = l.granted; waits = l.waits })) l.marks.reached.items l.last l.start l.at l.way.items

abbrev pub decreases-loop-next : goal.decreases-loop-next
decreases-loop-next l = length l.waits + 3 - length l.way.items
