use Rattle.std.proofs.Common.{arith}
use Rattle.live_tables.specs.Folds.{rows_step}
use Rattle.live_tables.proofs.SeekLemmas.{pending_next, pending_fewer}
use Rattle.live_tables.proofs.seek.rows_by.Goals as goal

pub loop-i-preserved : goal.loop-i-preserved
loop-i-preserved c = record {
  within = omega arith;
  few =
      pending_fewer c.args.pending.now c.loop-i.i c.index-pending-i.result c.changes.result.now _ _ _ c.loop-i-test.true c.index-pending-i.is c.changes.ensures
      c.loop-i.invariant.few c.rows_through-rows.ensures.within;
  so_far =
      pending_next (rows_step c.args.name.now) c.args.pending.now c.loop-i.i c.index-pending-i.result c.changes.result.now _ _ _ c.loop-i-test.true c.index-pending-i.is c.changes.ensures
      c.loop-i.invariant.so_far c.rows_through-rows.ensures.value;
}
