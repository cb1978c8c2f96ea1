use Rattle.std.proofs.Common.{take, drop}
use Rattle.row_locks.specs.Inside.{is_behind, AreMarks, Adds}
use Rattle.row_locks.proofs.marks.Marks.add_behind.Given as goal

abbrev pub invariant-loop-k : goal.invariant-loop-k
invariant-loop-k l = record {
  marks : AreMarks l.waits l.self.reached.items l.self.waiting.items;
  adds : Adds (is_behind l.other (drop l.from (take l.k l.waits))) l.initial.self.reached.items l.self.reached.items;
}
