use Rattle.std.proofs.Common.{length}
use Rattle.disk_model.specs.Object.{object}
use Rattle.xid_recovery.specs.Running.{RollingBack}
use Rattle.xid_recovery.proofs.settle.roll_back_rest.Given as goal

abbrev pub invariant-loop-xid : goal.invariant-loop-xid
invariant-loop-xid g l =
    RollingBack
    (let it = goal.Engine-dyn g (object l.fn.engine) in record { kind = it.kind l.fn.engine.value; reading = it.reading l.fn.engine.value; state = it.state l.fn.engine.value; holds = it.holds l.fn.engine.value })
    (let it = goal.Engine-dyn g (object l.engine) in record { kind = it.kind l.engine.value; reading = it.reading l.engine.value; state = it.state l.engine.value; holds = it.holds l.engine.value })
    l.left
    ((goal.Storage-dyn g l.fn.volume.now).disk l.fn.volume.now.1)
    ((goal.Storage-dyn g l.volume.now).disk l.volume.now.1)

abbrev pub decreases-loop-xid : goal.decreases-loop-xid
decreases-loop-xid g l = length l.left.keys
