use Rattle.std.proofs.Common.{arith}
use Rattle.live_tables.specs.Gone.{bytes_step}
use Rattle.live_tables.proofs.SeekLemmas.{pending_next}
use Rattle.live_tables.proofs.ShrinkLemmas.{pending_left}
use Rattle.live_tables.proofs.gone.bytes_by.Goals as goal

pub loop-i-preserved : goal.loop-i-preserved
loop-i-preserved c = record {
  within = omega arith;
  few =
      pending_left c.args.pending.now c.loop-i.i c.index-pending-i.result c.changes.result.now _ _ _ c.loop-i-test.true c.index-pending-i.is c.changes.ensures
      c.loop-i.invariant.few c.bytes_through-bytes.ensures.within;
  so_far =
      pending_next (bytes_step c.args.name.now) c.args.pending.now c.loop-i.i c.index-pending-i.result c.changes.result.now _ _ _ c.loop-i-test.true c.index-pending-i.is c.changes.ensures
      c.loop-i.invariant.so_far c.bytes_through-bytes.ensures.value;
}
