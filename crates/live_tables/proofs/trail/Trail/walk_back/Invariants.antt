use Rattle.std.proofs.Common.{length, take, ◌+◌, ◌≤◌, ◌++◌}
use Rattle.live_tables.specs.Places.{WalksBack}
use Rattle.live_tables.proofs.trail.Trail.walk_back.Given as goal

abbrev pub invariant-loop-i : goal.invariant-loop-i
invariant-loop-i l = record {
  within : l.i ≤ length l.own;
  place : l.spot + l.i ≤ l.fn.place + length l.own;
  walked : WalksBack l.name l.self.tables (l.self.changes ++ l.own) (l.self.changes ++ take l.i l.own) l.key l.fn.place l.spot;
}

abbrev pub decreases-loop-i : goal.decreases-loop-i
decreases-loop-i l = l.i
