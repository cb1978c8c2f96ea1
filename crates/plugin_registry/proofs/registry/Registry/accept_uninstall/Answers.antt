use Rattle.std.proofs.Common.{◌≡◌, ◌≢◌, sym, ap, subst, ◌∙◌, List, set}
use Rattle.plugin_registry.specs.declared.slot.Phase.TheVariants.{Dying}
use Rattle.plugin_registry.specs.Registry.{Slot, slot_of}
use Rattle.plugin_registry.specs.Calls.{in_phase, Uninstalls}
use Rattle.plugin_registry.proofs.FindLemmas.{found, current-found}
use Rattle.plugin_registry.proofs.KeepLemmas.{registry-uninstall}
use Rattle.plugin_registry.proofs.CallLemmas.{uninstalls, told_live, fails}
use Rattle.plugin_registry.proofs.registry.Registry.accept_uninstall.Goals as goal

pub invariant_of-self-2 : goal.invariant_of-self-2
invariant_of-self-2 c =
    let xs = c.self.inside.slots.items in
    let old : Slot = c.index_mut-slot.result.now in
    let is = sym (c.in-Some.ensures ∙ ap (slot_of c.args.name.now) c.deref.ensures.value) in
    let at = c.index_mut-slot.ensures.value in
    registry-uninstall xs c.in-Some.i old c.self.invariant (found c.args.name.now xs c.in-Some.i old is at).0 at (current-found c.args.name.now xs c.in-Some.i old is at)

pub returns-clause-uninstalls : goal.returns-clause-uninstalls
returns-clause-uninstalls c =
    let xs = c.self.inside.slots.items in
    let old : Slot = c.index_mut-slot.result.now in
    let is = sym (c.in-Some.ensures ∙ ap (slot_of c.args.name.now) c.deref.ensures.value) in
    let other : old.phase ≢ Dying = fails c.is_dying.result (old.phase ≡ Dying) c.if-is_dying.false c.is_dying.ensures.1 in
    subst (λ (s : List Slot). Uninstalls c.args.name.now c.in-Some.i s (set xs c.in-Some.i (in_phase Dying old))) c.self.view_is
    (uninstalls c.args.name.now xs c.in-Some.i old is c.index_mut-slot.ensures.value other)

pub returns-clause-dying : goal.returns-clause-dying
returns-clause-dying c =
    let xs = c.self.inside.slots.items in
    let old : Slot = c.index_mut-slot.result.now in
    let is = sym (c.in-Some.ensures ∙ ap (slot_of c.args.name.now) c.deref.ensures.value) in
    let other : old.phase ≢ Dying = fails c.is_dying.result (old.phase ≡ Dying) c.if-is_dying.false c.is_dying.ensures.1 in
    let known = told_live c.args.name.now xs c.args.self.now c.in-Some.i old c.self.view_is is c.index_mut-slot.ensures.value other in
    (λ h. cc, λ h. cc)
