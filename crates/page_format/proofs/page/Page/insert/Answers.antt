use Rattle.std.proofs.Common.{refl, arith}
use Rattle.std.proofs.lemmas.Bool.{false≢true}
use Rattle.page_format.specs.Kept.{slots_of}
use Rattle.page_format.proofs.SlotsLemmas.{length-slots_of}
use Rattle.page_format.proofs.HeldLemmas.{cost_is, used_with, count_kept, changed_twice, kept_again}
use Rattle.page_format.proofs.page.Page.insert.Goals as goal

pub returns-then-saturating_sub-bytes-clause-no_room : goal.returns-then-saturating_sub-bytes-clause-no_room
returns-then-saturating_sub-bytes-clause-no_room c =
    let slots = slots_of c.self.inside.bytes in
    let count = length-slots_of c.self.inside.bytes in
    let cost = cost_is c.first_empty-slot.result c.args.bytes.now slots c.first_empty-slot.ensures.value (omega (arith, count)) in
    rw (← c.self.view_is) ((λ _. omega (arith, cost, count, c.self.invariant.room)), λ _. refl)

pub add_row-requires-clause-next : goal.add_row-requires-clause-next
add_row-requires-clause-next c =
    omega (arith, count_kept c.self.inside.bytes c.place_above-end.new.bytes c.place_above-end.ensures.slots.held)

pub add_row-requires-clause-directory : goal.add_row-requires-clause-directory
add_row-requires-clause-directory c =
    omega (arith, count_kept c.self.inside.bytes c.place_above-end.new.bytes c.place_above-end.ensures.slots.held)

pub invariant_of-self : goal.invariant_of-self
invariant_of-self c =
    let old = c.self.inside.bytes in
    let slot = c.first_empty-slot.result in
    let count = length-slots_of old in
    let used = used_with slot c.args.bytes.now (slots_of old) (omega (arith, count)) in
    let made = changed_twice slot c.args.bytes.now old c.place_above-end.new.bytes c.add_row.new.bytes c.place_above-end.ensures.slots c.add_row.ensures.slots in
    kept_again _ old c.add_row.new.bytes c.self.invariant made
    (omega (arith, used, count))

pub returns-clause-no_room : goal.returns-clause-no_room
returns-clause-no_room c =
    let slots = slots_of c.self.inside.bytes in
    let count = length-slots_of c.self.inside.bytes in
    let cost = cost_is c.first_empty-slot.result c.args.bytes.now slots c.first_empty-slot.ensures.value (omega (arith, count)) in
    rw (← c.self.view_is) ((λ h. absurd (false≢true h)), λ less. absurd (omega (arith, cost, count, less)))
