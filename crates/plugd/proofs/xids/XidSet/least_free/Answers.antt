use Rattle.plugd.proofs.XidSetLemmas.{held_below}
use Rattle.plugd.proofs.xids.XidSet.least_free.Goals as goal

pub loop-last-preserved : goal.loop-last-preserved
loop-last-preserved c = held_below c.args.self.now _ _ c.loop-last.invariant.0 c.loop-last.invariant.1 c.in-Some.ensures
