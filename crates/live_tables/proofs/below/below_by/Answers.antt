use Rattle.std.proofs.Common.{arith}
use Rattle.live_tables.specs.Places.{one_below, sum_step}
use Rattle.live_tables.proofs.SeekLemmas.{pending_next, pending_fewer}
use Rattle.live_tables.proofs.below.below_by.Goals as goal

pub loop-i-preserved : goal.loop-i-preserved
loop-i-preserved c =
    let step = sum_step (one_below c.args.column c.args.key.now) c.args.name.now in
    record {
      within = omega arith;
      few =
          pending_fewer c.args.pending.now c.loop-i.i c.index-pending-i.result c.changes.result.now _ _ _ c.loop-i-test.true c.index-pending-i.is c.changes.ensures
          c.loop-i.invariant.few c.below_through-low.ensures.within;
      so_far =
          pending_next step c.args.pending.now c.loop-i.i c.index-pending-i.result c.changes.result.now _ _ _ c.loop-i-test.true c.index-pending-i.is c.changes.ensures
          c.loop-i.invariant.so_far c.below_through-low.ensures.value;
    }
