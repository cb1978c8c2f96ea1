use Rattle.std.proofs.Common.{refl, arith}
use Rattle.std.proofs.lemmas.Bool.{false≢true}
use Rattle.page_format.proofs.ClaimedLemmas.{directory_free, claimed_none, claimed_next, not_laid, laid_of_claimed, room_of_claimed}
use Rattle.page_format.proofs.form.is_laid.Goals as goal

pub returns-then-not-claim-clause-value : goal.returns-then-not-claim-clause-value
returns-then-not-claim-clause-value c = (
  (λ h. absurd (false≢true h)),
  λ laid. let past = directory_free 4096 _ _ refl refl c.if-not-claim.ensures.refused in absurd (omega (arith, past, laid.directory)),
)

pub loop-slot-init : goal.loop-slot-init
loop-slot-init c = claimed_none 4096 _ c.args.bytes.now _ c.claim.new.taken refl c.claim.array_long c.told-bytes (omega arith) c.if-not-claim.ensures.taken

pub returns-then-not-claim-2-clause-value : goal.returns-then-not-claim-2-clause-value
returns-then-not-claim-2-clause-value c = (
  (λ h. absurd (false≢true h)),
  λ laid. absurd (not_laid c.loop-slot.slot _ _ c.args.bytes.now c.loop-slot.taken (omega arith) c.loop-slot.invariant c.place_of.ensures.value c.length_of.ensures.value
      c.if-not-claim-2.ensures.refused laid),
)

pub loop-slot-preserved : goal.loop-slot-preserved
loop-slot-preserved c =
    claimed_next c.loop-slot.slot _ _ c.args.bytes.now c.loop-slot.taken _ (omega arith) c.claim-in-loop-slot.array_long c.loop-slot.invariant
    c.place_of.ensures.value c.length_of.ensures.value c.if-not-claim-2.ensures.taken

pub returns-clause-value : goal.returns-clause-value
returns-clause-value c = ((λ _. laid_of_claimed c.loop-slot.slot c.args.bytes.now c.loop-slot.taken (omega arith) c.loop-slot.invariant), λ _. refl)

pub returns-clause-room : goal.returns-clause-room
returns-clause-room c = λ _. room_of_claimed c.loop-slot.slot c.args.bytes.now c.loop-slot.taken (omega arith) c.loop-slot.invariant
