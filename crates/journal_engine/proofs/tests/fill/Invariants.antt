use Rattle.disk_model.specs.Object.{object}
use Rattle.journal_engine.specs.Ready.{IsReady}
use Rattle.journal_engine.proofs.tests.fill.Given as goal

abbrev pub invariant-loop : goal.invariant-loop
invariant-loop g l =
    let it = goal.Engine-dyn g (object l.engine) in
    IsReady (it.kind l.engine.value) (it.state l.engine.value) (it.holds l.engine.value) ((goal.Storage-dyn g l.volume.now).disk l.volume.now.1)
