use Rattle.std.proofs.Common.{arith}
use Rattle.live_tables.specs.Gone.{bytes_step}
use Rattle.live_tables.proofs.SeekLemmas.{through_next}
use Rattle.live_tables.proofs.ShrinkLemmas.{bytes_left}
use Rattle.live_tables.proofs.gone.bytes_through.Goals as goal

pub loop-i-preserved : goal.loop-i-preserved
loop-i-preserved c = record {
  within = omega arith;
  few =
      bytes_left c.args.changes.now c.loop-i.i c.index-changes-i.result _ _ _ c.loop-i-test.true c.index-changes-i.is
      c.loop-i.invariant.few c.bytes_step-bytes.ensures.within;
  so_far =
      through_next (bytes_step c.args.name.now) c.args.changes.now c.loop-i.i c.index-changes-i.result _ _ _ c.loop-i-test.true c.index-changes-i.is
      c.loop-i.invariant.so_far c.bytes_step-bytes.ensures.value;
}
