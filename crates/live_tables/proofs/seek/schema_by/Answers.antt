use Rattle.std.proofs.Common.{arith}
use Rattle.live_tables.specs.Folds.{schema_step}
use Rattle.live_tables.proofs.SeekLemmas.{pending_next}
use Rattle.live_tables.proofs.seek.schema_by.Goals as goal

pub loop-i-preserved : goal.loop-i-preserved
loop-i-preserved c = record {
  within = omega arith;
  so_far =
      pending_next (schema_step c.args.name.now) c.args.pending.now c.loop-i.i c.index-pending-i.result c.changes.result.now _ _ _ c.loop-i-test.true c.index-pending-i.is c.changes.ensures
      c.loop-i.invariant.so_far c.schema_through-schema.ensures;
}
