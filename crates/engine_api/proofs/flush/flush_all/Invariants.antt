use Rattle.std.proofs.Common.{map}
use Rattle.disk_model.specs.Object.{object}
use Rattle.engine_api.specs.Many.{SoFar}
use Rattle.engine_api.proofs.flush.flush_all.Given as goal

abbrev pub invariant-loop-engine : goal.invariant-loop-engine
invariant-loop-engine g l =
    SoFar
    (map (λ e. let it = goal.Engine-dyn g (object e) in record { kind = it.kind e.value; reading = it.reading e.value; state = it.state e.value; holds = it.holds e.value }) l.fn.engines)
    ((goal.Storage-dyn g l.fn.volume.now).disk l.fn.volume.now.1)
    l.engine-index
    (map (λ e. let it = goal.Engine-dyn g (object e) in record { kind = it.kind e.value; reading = it.reading e.value; state = it.state e.value; holds = it.holds e.value }) l.engines)
    ((goal.Storage-dyn g l.volume.now).disk l.volume.now.1)
