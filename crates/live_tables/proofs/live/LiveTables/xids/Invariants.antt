use Rattle.std.proofs.Common.{◌≡◌, map, take}
use Rattle.live_tables.proofs.live.LiveTables.xids.Given as goal

abbrev pub invariant-loop-it : goal.invariant-loop-it
invariant-loop-it l = record { left_are : l.it-items ≡ l.self-inside.left.items; so_far : l.xids.items ≡ map (λ it. it.xid) (take l.it-index l.it-items) }
