use Rattle.std.proofs.Common.{rules, Err, refl, ◌∙◌, sym, None}
use Rattle.xid_recovery.proofs.XidLemmas.{removed}
use Rattle.xid_recovery.proofs.WayLemmas.{left_of}
use Rattle.xid_recovery.proofs.RunLemmas.{fails, blames_none, answers_on}
use Rattle.xid_recovery.proofs.TurnLemmas.{rolling_begins, rolling_next, ran_dropped}
use Rattle.xid_recovery.proofs.settle.roll_back_rest.Goals as goal

pub loop-xid-init : goal.loop-xid-init
loop-xid-init g c = rolling_begins _ _ _ c.requires.idle c.requires.prepared

pub roll_back-requires-clause-left : goal.roll_back-requires-clause-left
roll_back-requires-clause-left g c = left_of _ _ c.loop-xid.invariant.idle.begun (sym (c.loop-xid.invariant.prepared _) ∙ c.in-Some.ensures.member)

pub roll_back-requires-clause-holds : goal.roll_back-requires-clause-holds
roll_back-requires-clause-holds g c = λ told. (c.loop-xid.invariant.idle.files told).0

pub loop-xid-preserved : goal.loop-xid-preserved
loop-xid-preserved g c =
    rolling_next _ _ _ _ c.in_ok-roll_back.field-0 _ _ _ _ _ c.loop-xid.invariant c.in-Some.ensures.member c.in_ok-roll_back.ensures.same c.in_ok-roll_back.ensures.turns
    (removed _ _ _ c.in-Some.ensures.updates.0)

pub returns-in_err-roll_back-clause-ran : goal.returns-in_err-roll_back-clause-ran
returns-in_err-roll_back-clause-ran g c =
    ran_dropped _ _ _ _ _ _ _ _ _ c.loop-xid.invariant c.in-Some.ensures.member c.in_err-roll_back.ensures.same c.in_err-roll_back.ensures.turns

pub returns-in_err-roll_back-clause-device : goal.returns-in_err-roll_back-clause-device
returns-in_err-roll_back-clause-device g c =
    fails _ _ _ _ _ _ _ (c.loop-xid.invariant.ran None 0 tt tt) c.in_err-roll_back.ensures.turns.cause (λ is. search rules)

pub returns-in_err-roll_back-clause-answers : goal.returns-in_err-roll_back-clause-answers
returns-in_err-roll_back-clause-answers g c =
    answers_on _ _ _ _ (Err c.in_err-roll_back.field-0.0) _ c.in_err-roll_back.field-0.0 (c.loop-xid.invariant.ran None 0 tt tt) c.in_err-roll_back.ensures.answers refl c.from_residual.ensures.1

pub returns-clause-ran : goal.returns-clause-ran
returns-clause-ran g c = c.loop-xid.invariant.ran

pub returns-clause-device : goal.returns-clause-device
returns-clause-device g c = blames_none _ _ _ _ _ (c.loop-xid.invariant.ran None 0 tt tt) (λ is. let e = is in cc)
