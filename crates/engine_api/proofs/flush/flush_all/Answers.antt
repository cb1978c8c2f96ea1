use Rattle.std.proofs.Common.{arith, Err, refl}
use Rattle.disk_model.specs.Object.{object}
use Rattle.engine_api.proofs.ManyLemmas.{all_have, all_settled}
use Rattle.engine_api.proofs.FlushLemmas.{begins, holds_now, moments_on, goes_on, answers_on}
use Rattle.engine_api.proofs.flush.flush_all.Goals as goal

pub loop-engine-init : goal.loop-engine-init
loop-engine-init g c = begins _ _ _ c.requires.at_work

pub flush-requires : goal.flush-requires
flush-requires g c = record {
  holds = holds_now (λ e. let it = goal.Engine-dyn g (object e) in record { kind = it.kind e.value; reading = it.reading e.value; state = it.state e.value; holds = it.holds e.value }) _ _ _ c.engine-item.result _ _ (omega arith) c.loop-engine.invariant;
}

pub returns-in_err-flush-clause-any_moment : goal.returns-in_err-flush-clause-any_moment
returns-in_err-flush-clause-any_moment g c =
    moments_on (λ e. let it = goal.Engine-dyn g (object e) in record { kind = it.kind e.value; reading = it.reading e.value; state = it.state e.value; holds = it.holds e.value })
    _ _ _ _ _ _ _ _ _ _ c.requires.apart c.loop-engine.invariant (omega arith) c.in_err-flush.ensures.turns

pub returns-in_err-flush-clause-answers : goal.returns-in_err-flush-clause-answers
returns-in_err-flush-clause-answers g c =
    answers_on (λ e. let it = goal.Engine-dyn g (object e) in record { kind = it.kind e.value; reading = it.reading e.value; state = it.state e.value; holds = it.holds e.value })
    _ _ _ _ (Err c.in_err-flush.field-0.0) _ c.in_err-flush.field-0.0 _ _ c.loop-engine.invariant (omega arith) c.in_err-flush.ensures.answers refl c.from_residual.ensures.1

pub loop-engine-preserved : goal.loop-engine-preserved
loop-engine-preserved g c =
    goes_on (λ e. let it = goal.Engine-dyn g (object e) in record { kind = it.kind e.value; reading = it.reading e.value; state = it.state e.value; holds = it.holds e.value })
    _ _ _ _ _ _ _ _ _ c.requires.apart c.loop-engine.invariant (omega arith) c.in_ok-flush.ensures.same c.in_ok-flush.ensures.turns c.in_ok-flush.ensures.settled

pub returns-clause-synced : goal.returns-clause-synced
returns-clause-synced g c = all_have _ _ _ _ (omega arith) c.loop-engine.invariant.synced

pub returns-clause-settled : goal.returns-clause-settled
returns-clause-settled g c told =
    all_settled (λ e. let it = goal.Engine-dyn g (object e) in record { kind = it.kind e.value; reading = it.reading e.value; state = it.state e.value; holds = it.holds e.value })
    _ _ _ _ (omega arith) c.loop-engine.invariant.synced (c.loop-engine.invariant.settled told)
