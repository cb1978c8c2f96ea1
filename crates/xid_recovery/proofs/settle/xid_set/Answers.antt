use Rattle.std.proofs.Common.{refl, arith, ◌∙◌}
use Rattle.xid_recovery.proofs.XidLemmas.{inserted, has-whole, empty-has}
use Rattle.xid_recovery.proofs.settle.xid_set.Goals as goal

pub loop-xid-init : goal.loop-xid-init
loop-xid-init c = empty-has c.new-set.result c.args.xids.now c.new-set.ensures.empty

pub loop-xid-preserved : goal.loop-xid-preserved
loop-xid-preserved c = inserted c.loop-xid.set c.insert.new.self c.args.xids.now c.loop-xid.xid-index _ refl (omega arith) c.loop-xid.invariant c.in_ok-insert.ensures.updates.0

pub returns : goal.returns
returns c = λ x. c.loop-xid.invariant x ∙ has-whole x c.args.xids.now c.loop-xid.xid-index (omega arith)
