use Rattle.std.proofs.Common.{refl, rules}
use Rattle.disk_model.proofs.FreshLemmas.{copied_more}
use Rattle.disk_model.proofs.fresh.copied.Goals as goal

pub loop-given-preserved : goal.loop-given-preserved
loop-given-preserved c = copied_more _ _ _ _ _ _ c.in_ok-push.ensures.items c.loop-given.invariant c.loop-given-test.true c.given-item.is refl (search rules)
