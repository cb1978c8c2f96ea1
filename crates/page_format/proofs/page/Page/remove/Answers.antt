use Rattle.std.proofs.Common.{◌≡◌, ◌<◌, [], get_or, length, refl, sym, ◌∙◌, arith}
use Rattle.page_format.specs.Kept.{slots_of}
use Rattle.page_format.proofs.SlotsLemmas.{length-slots_of}
use Rattle.page_format.proofs.HeldLemmas.{empty_past, empty_there, false_empty, true_full, nothing_removed, held_is, kept_again, used_without}
use Rattle.page_format.proofs.page.Page.remove.Goals as goal
use Rattle.page_format.proofs.page.Page.remove.Goals.{then-slot-count-via-then-slot-count, then-slot-count-via-else-slot-count+then-length_of-eq0}

-- nothing is in the slot where there is nothing to remove
nothing : (c : goal.Joined-then-slot-count) → get_or (slots_of c.self.inside.bytes) c.args.slot [] ≡ []
nothing c =
    elim c.then-slot-count.branch [
      | then-slot-count-via-then-slot-count w ↦ empty_past c.self.inside.bytes c.args.slot c.from-slot.result c.from-slot.ensures (omega arith)
      | then-slot-count-via-else-slot-count+then-length_of-eq0 w ↦
          empty_there c.self.inside.bytes c.args.slot c.from-slot.result c.self.invariant.laid c.from-slot.ensures (omega arith) (sym w.length_of.ensures.value ∙ w.if-length_of-eq0.true)
    ]

pub returns-then-slot-count-clause-value : goal.returns-then-slot-count-clause-value
returns-then-slot-count-clause-value c = rw (← c.self.view_is) (false_empty c.args.slot (slots_of c.self.inside.bytes) (nothing c))

pub returns-then-slot-count-clause-slots : goal.returns-then-slot-count-clause-slots
returns-then-slot-count-clause-slots c = rw (← c.self.view_is) (held_is refl (nothing_removed c.args.slot (slots_of c.self.inside.bytes) (nothing c)))

pub invariant_of-self : goal.invariant_of-self
invariant_of-self c =
    let slots = slots_of c.self.inside.bytes in
    let there : c.from-slot.result < length slots = omega (arith, length-slots_of c.self.inside.bytes) in
    kept_again _ c.self.inside.bytes c.clear.new.bytes c.self.invariant c.clear.ensures.slots (omega (arith, used_without c.from-slot.result slots there, c.self.invariant.room))

pub returns-clause-value : goal.returns-clause-value
returns-clause-value c =
    rw (← c.self.view_is) (true_full c.self.inside.bytes c.args.slot c.from-slot.result c.self.invariant.laid c.from-slot.ensures (omega arith) (omega (arith, c.length_of.ensures.value)))
