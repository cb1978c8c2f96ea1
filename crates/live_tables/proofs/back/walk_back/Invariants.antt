use Rattle.std.proofs.Common.{length, ◌+◌, ◌≤◌}
use Rattle.live_tables.proofs.BackLemmas.{Walked}
use Rattle.live_tables.proofs.back.walk_back.Given as goal

abbrev pub invariant-loop-i : goal.invariant-loop-i
invariant-loop-i l = record {
  within : l.i ≤ length l.changes;
  place : l.spot.place + l.i ≤ l.fn.at.place + length l.changes;
  walked : Walked l.name l.changes l.fn.at.place l.fn.at.count l.i l.spot.place l.spot.count;
}

abbrev pub decreases-loop-i : goal.decreases-loop-i
decreases-loop-i l = l.i
