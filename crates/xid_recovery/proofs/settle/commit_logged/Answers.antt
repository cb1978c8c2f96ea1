use Rattle.std.proofs.Common.{rules, arith, Err, refl, None}
use Rattle.xid_recovery.proofs.RunLemmas.{fails, blames_none, answers_on}
use Rattle.xid_recovery.proofs.TurnLemmas.{so_far_begins, so_far_next, ran_resolved}
use Rattle.xid_recovery.proofs.settle.commit_logged.Goals as goal

pub loop-pair-init : goal.loop-pair-init
loop-pair-init g c = so_far_begins _ _ _ _ c.requires.idle c.requires.prepared

pub settle-requires-clause-idle : goal.settle-requires-clause-idle
settle-requires-clause-idle g c = c.loop-pair.invariant.idle

pub settle-requires-clause-prepared : goal.settle-requires-clause-prepared
settle-requires-clause-prepared g c = c.loop-pair.invariant.prepared

pub loop-pair-preserved : goal.loop-pair-preserved
loop-pair-preserved g c =
    so_far_next _ _ _ _ _ _ _ c.in_ok-settle.field-0 _ _ _ _ _ _ c.loop-pair.invariant (omega arith) refl c.in_ok-settle.ensures.same c.in_ok-settle.ensures.turns
    c.in_ok-settle.ensures.left c.in_ok-settle.ensures.fewer

pub returns-in_err-settle-clause-ran : goal.returns-in_err-settle-clause-ran
returns-in_err-settle-clause-ran g c =
    ran_resolved _ _ _ _ _ _ _ _ _ _ _ _ _ c.loop-pair.invariant (omega arith) refl c.in_err-settle.ensures.same c.in_err-settle.ensures.turns

pub returns-in_err-settle-clause-device : goal.returns-in_err-settle-clause-device
returns-in_err-settle-clause-device g c =
    fails _ _ _ _ _ _ _ (c.loop-pair.invariant.ran None tt tt) c.in_err-settle.ensures.turns.cause (λ is. search rules)

pub returns-in_err-settle-clause-answers : goal.returns-in_err-settle-clause-answers
returns-in_err-settle-clause-answers g c =
    answers_on _ _ _ _ (Err c.in_err-settle.field-0.0) _ c.in_err-settle.field-0.0 (c.loop-pair.invariant.ran None tt tt) c.in_err-settle.ensures.answers refl c.from_residual.ensures.1

pub returns-clause-ran : goal.returns-clause-ran
returns-clause-ran g c = c.loop-pair.invariant.ran

pub returns-clause-device : goal.returns-clause-device
returns-clause-device g c = blames_none _ _ _ _ _ (c.loop-pair.invariant.ran None tt tt) (λ is. let e = is in cc)
