use Rattle.std.proofs.Common.{take}
use Rattle.row_locks.specs.Inside.{is_behind_any, AreMarks, Adds}
use Rattle.row_locks.proofs.marks.Marks.add_by_locks.Given as goal

abbrev pub invariant-loop-lock : goal.invariant-loop-lock
invariant-loop-lock l = record {
  marks : AreMarks l.waits l.self.reached.items l.self.waiting.items;
  adds : Adds (is_behind_any l.owner (take l.lock-index l.granted) l.waits) l.initial.self.reached.items l.self.reached.items;
}
