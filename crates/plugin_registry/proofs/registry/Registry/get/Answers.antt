use Rattle.std.proofs.Common.{◌≡◌, ◌≢◌, Some, false, sym, ap, subst, ◌∙◌, List, set}
use Rattle.plugin_registry.specs.declared.slot.Phase.TheVariants.{Live}
use Rattle.plugin_registry.specs.Registry.{Slot, slot_of, phase_of, has_slot_of}
use Rattle.plugin_registry.specs.Calls.{Gets}
use Rattle.plugin_registry.proofs.FindLemmas.{found, current-found}
use Rattle.plugin_registry.proofs.KeepLemmas.{registry-get}
use Rattle.plugin_registry.proofs.CallLemmas.{gets, not_unknown}
use Rattle.plugin_registry.proofs.registry.Registry.get.Goals as goal

pub invariant_of-self-2 : goal.invariant_of-self-2
invariant_of-self-2 c =
    let xs = c.self.inside.slots.items in
    let old : Slot = c.index_mut-slot.result.now in
    let is = sym (c.in-Some.ensures ∙ ap (slot_of c.args.name.now) c.deref.ensures.value) in
    let at = c.index_mut-slot.ensures.value in
    let within = (found c.args.name.now xs c.in-Some.i old is at).0 in
    registry-get c.args.holder.now xs c.in-Some.i old c.get.new.self c.self.invariant within at c.in_ok-get.ensures.ok (current-found c.args.name.now xs c.in-Some.i old is at)

pub returns-clause-gets : goal.returns-clause-gets
returns-clause-gets c =
    let xs = c.self.inside.slots.items in
    let is = sym (c.in-Some.ensures ∙ ap (slot_of c.args.name.now) c.deref.ensures.value) in
    subst (λ (s : List Slot). Gets c.args.name.now c.args.holder.now c.in-Some.i s (set xs c.in-Some.i c.get.new.self)) c.self.view_is
    (gets c.args.name.now c.args.holder.now xs c.in-Some.i c.index_mut-slot.result.now c.get.new.self is c.index_mut-slot.ensures.value c.in_ok-get.ensures.ok c.in_ok-get.ensures.allowed)

pub returns-clause-unknown_engine : goal.returns-clause-unknown_engine
returns-clause-unknown_engine c =
    let xs = c.self.inside.slots.items in
    let is = sym (c.in-Some.ensures ∙ ap (slot_of c.args.name.now) c.deref.ensures.value) in
    let known = not_unknown c.args.name.now c.args.holder.now xs c.in-Some.i c.index_mut-slot.result.now is c.index_mut-slot.ensures.value c.in_ok-get.ensures.allowed in
    (λ h. cc, λ h. absurd (subst (λ (s : List Slot). (phase_of c.args.name.now s ≢ Some Live) × (has_slot_of c.args.name.now c.args.holder.now s ≡ false) → ⊥) c.self.view_is known h))
