use Rattle.std.proofs.Common.{length, take, ◌+◌, ◌≤◌, ◌++◌}
use Rattle.engine_api.specs.States.{changes_in}
use Rattle.live_tables.specs.Places.{WalksBack}
use Rattle.live_tables.proofs.trail.walk_opens.Given as goal

abbrev pub invariant-loop-i : goal.invariant-loop-i
invariant-loop-i l = record {
  within : l.i ≤ length l.opens;
  place : l.spot + length (changes_in (take l.i l.opens)) ≤ l.fn.place + length (changes_in l.opens);
  walked : WalksBack l.name l.tables (l.done ++ changes_in l.opens) (l.done ++ changes_in (take l.i l.opens)) l.key l.fn.place l.spot;
}

abbrev pub decreases-loop-i : goal.decreases-loop-i
decreases-loop-i l = l.i
