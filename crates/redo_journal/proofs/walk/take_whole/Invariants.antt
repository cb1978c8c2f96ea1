use Rattle.std.proofs.Common.{length}
use Rattle.redo_journal.specs.Reading.{Follows, Walked}
use Rattle.redo_journal.proofs.walk.take_whole.Given as goal

abbrev pub invariant-loop-n : goal.invariant-loop-n
invariant-loop-n l = record {
  walked : Walked l.fn.scan l.scan l.fn.bytes l.rest;
  follows : Follows l.index l.scan.records.items;
}

abbrev pub decreases-loop-n : goal.decreases-loop-n
decreases-loop-n l = length l.rest
