use Rattle.std.proofs.Common.{arith}
use Rattle.engine_api.specs.States.{changes_in}
use Rattle.engine_api.specs.Live.{live_bytes}
use Rattle.live_tables.proofs.ShrinkLemmas.{can_take, gone_next}
use Rattle.live_tables.proofs.gone.gone_through.Goals as goal

pub freed_behind-freed-requires : goal.freed_behind-freed-requires
freed_behind-freed-requires c = can_take (changes_in c.args.pending.now) c.args.changes.now c.loop-i.i c.args.tables.now (live_bytes c.args.tables.now) c.requires

pub loop-i-preserved : goal.loop-i-preserved
loop-i-preserved c = record {
  within = omega (arith, c.loop-i-test.true);
  so_far =
      gone_next (changes_in c.args.pending.now) c.args.changes.now c.loop-i.i c.index-changes-i.result c.args.tables.now c.loop-i.sum c.freed_behind-freed.result c.saturating_add-sum.result
      c.loop-i-test.true c.index-changes-i.is c.loop-i.invariant.so_far c.freed_behind-freed.ensures c.saturating_add-sum.ensures;
}
