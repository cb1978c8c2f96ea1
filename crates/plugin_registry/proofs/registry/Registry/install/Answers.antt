use Rattle.std.proofs.Common.{◌≡◌, sym, ap, ◌∙◌, refl}
use Rattle.plugin_registry.specs.declared.slot.Phase.TheVariants.{Dying}
use Rattle.plugin_registry.specs.Registry.{slot_of}
use Rattle.plugin_registry.proofs.CallLemmas.{told_live, told_dying, fails}
use Rattle.plugin_registry.proofs.registry.Registry.install.Goals as goal

pub returns-then-is_dying-clause-installed : goal.returns-then-is_dying-clause-installed
returns-then-is_dying-clause-installed c =
    let is = sym (c.in-Some.ensures ∙ ap (slot_of c.args.name.now) c.deref.ensures.value) in
    let known = told_dying c.args.name.now c.self.inside.slots.items c.args.self.now c.in-Some.i c.index.result.now c.self.view_is is c.index.ensures (c.if-is_dying.ensures.0 refl) in
    (λ h. cc, λ h. cc)

pub returns-then-is_dying-clause-dying : goal.returns-then-is_dying-clause-dying
returns-then-is_dying-clause-dying c =
    let is = sym (c.in-Some.ensures ∙ ap (slot_of c.args.name.now) c.deref.ensures.value) in
    (λ h. told_dying c.args.name.now c.self.inside.slots.items c.args.self.now c.in-Some.i c.index.result.now c.self.view_is is c.index.ensures (c.if-is_dying.ensures.0 refl), λ h. refl)

pub returns-clause-installed : goal.returns-clause-installed
returns-clause-installed c =
    let is = sym (c.in-Some.ensures ∙ ap (slot_of c.args.name.now) c.deref.ensures.value) in
    let other = fails c.is_dying.result (c.index.result.now.phase ≡ Dying) c.if-is_dying.false c.is_dying.ensures.1 in
    (λ h. told_live c.args.name.now c.self.inside.slots.items c.args.self.now c.in-Some.i c.index.result.now c.self.view_is is c.index.ensures other, λ h. refl)

pub returns-clause-dying : goal.returns-clause-dying
returns-clause-dying c =
    let is = sym (c.in-Some.ensures ∙ ap (slot_of c.args.name.now) c.deref.ensures.value) in
    let other = fails c.is_dying.result (c.index.result.now.phase ≡ Dying) c.if-is_dying.false c.is_dying.ensures.1 in
    let known = told_live c.args.name.now c.self.inside.slots.items c.args.self.now c.in-Some.i c.index.result.now c.self.view_is is c.index.ensures other in
    (λ h. cc, λ h. cc)
