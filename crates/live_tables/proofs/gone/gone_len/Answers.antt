use Rattle.std.proofs.Common.{arith}
use Rattle.engine_api.specs.Live.{live_bytes}
use Rattle.live_tables.proofs.ShrinkLemmas.{can_pending, gone_more}
use Rattle.live_tables.proofs.gone.gone_len.Goals as goal

pub gone_through-gone-requires : goal.gone_through-gone-requires
gone_through-gone-requires c =
    can_pending c.args.pending.now c.loop-i.i c.index-pending-i.result c.changes.result.now c.args.tables.now (live_bytes c.args.tables.now)
    c.loop-i-test.true c.index-pending-i.is c.changes.ensures c.requires

pub loop-i-preserved : goal.loop-i-preserved
loop-i-preserved c = record {
  within = omega (arith, c.loop-i-test.true);
  so_far =
      gone_more c.args.pending.now c.loop-i.i c.index-pending-i.result c.changes.result.now c.args.tables.now c.loop-i.sum c.gone_through-gone.result c.saturating_add-sum.result
      c.loop-i-test.true c.index-pending-i.is c.changes.ensures c.loop-i.invariant.so_far c.gone_through-gone.ensures c.saturating_add-sum.ensures;
}
