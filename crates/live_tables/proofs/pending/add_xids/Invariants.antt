use Rattle.std.proofs.Common.{◌≡◌, ◌++◌, map, drop}
use Rattle.live_tables.specs.Opens.{shares}
use Rattle.live_tables.proofs.pending.add_xids.Given as goal

abbrev pub invariant-loop-it : goal.invariant-loop-it
invariant-loop-it l = record {
  list_is : l.pending ≡ l.fn.pending;
  so_far : l.xids.items ++ map (λ it. it.xid) (shares (drop l.it-index l.pending)) ≡ l.fn.xids.items ++ map (λ it. it.xid) (shares l.pending);
}
