use Rattle.disk_model.specs.Object.{object}
use Rattle.xid_recovery.specs.Running.{SoFar}
use Rattle.xid_recovery.proofs.settle.commit_logged.Given as goal

abbrev pub invariant-loop-pair : goal.invariant-loop-pair
invariant-loop-pair g l =
    SoFar
    (let it = goal.Engine-dyn g (object l.fn.engine) in record { kind = it.kind l.fn.engine.value; reading = it.reading l.fn.engine.value; state = it.state l.fn.engine.value; holds = it.holds l.fn.engine.value })
    (let it = goal.Engine-dyn g (object l.engine) in record { kind = it.kind l.engine.value; reading = it.reading l.engine.value; state = it.state l.engine.value; holds = it.holds l.engine.value })
    l.xids
    l.pair-index
    l.fn.left
    l.left
    ((goal.Storage-dyn g l.fn.volume.now).disk l.fn.volume.now.1)
    ((goal.Storage-dyn g l.volume.now).disk l.volume.now.1)
