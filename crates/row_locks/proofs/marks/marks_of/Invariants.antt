use Rattle.std.proofs.Common.{◌-◌, length}
use Rattle.row_locks.specs.Queues.{waits_for}
use Rattle.row_locks.specs.Inside.{AreMarks}
use Rattle.row_locks.proofs.ReachLemmas.{IsReaching}
use Rattle.row_locks.proofs.marks.marks_of.Given as goal

abbrev pub invariant-loop-i : goal.invariant-loop-i
invariant-loop-i l = record {
  marks : AreMarks l.waits l.marks.reached.items l.marks.waiting.items;
  reaching : IsReaching (waits_for (record { granted = l.granted; waits = l.waits })) l.owner l.marks.reached.items l.i;
}

abbrev pub decreases-loop-i : goal.decreases-loop-i
decreases-loop-i l = length l.waits - l.i
