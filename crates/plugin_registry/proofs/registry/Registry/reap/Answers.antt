use Rattle.std.proofs.Common.{Some, sym, ap, ◌∙◌, arith, refl}
use Rattle.plugin_registry.specs.declared.slot.Phase.{Phase}
use Rattle.plugin_registry.specs.declared.slot.Phase.TheVariants.{Gone}
use Rattle.plugin_registry.specs.Registry.{Slot, phase_at, holders_at}
use Rattle.plugin_registry.specs.Calls.{in_phase, after_reap}
use Rattle.plugin_registry.proofs.SlotLemmas.{at_slot-set, phase_at-there, holders_at-there}
use Rattle.plugin_registry.proofs.KeepLemmas.{registry-reap}
use Rattle.plugin_registry.proofs.registry.Registry.reap.Goals as goal

pub invariant_of-self-2 : goal.invariant_of-self-2
invariant_of-self-2 c =
    let xs = c.self.inside.slots.items in
    let old : Slot = c.index_mut-slot.result.now in
    registry-reap xs c.args.slot old c.self.invariant (omega arith) c.index_mut-slot.ensures.value (c.if-not-may_be_reaped.ensures.0 refl).1

pub returns-clause-exact : goal.returns-clause-exact
returns-clause-exact c =
    let xs = c.self.inside.slots.items in
    let old : Slot = c.index_mut-slot.result.now in
    let may = c.if-not-may_be_reaped.ensures.0 refl in
    let phase = ap (phase_at c.args.slot) (sym c.self.view_is) ∙ phase_at-there xs c.args.slot old (omega arith) c.index_mut-slot.ensures.value ∙ ap (λ (p : Phase). Some p) may.0 in
    let holders = ap (holders_at c.args.slot) (sym c.self.view_is) ∙ holders_at-there xs c.args.slot old (omega arith) c.index_mut-slot.ensures.value ∙ may.1 in
    (λ h. (phase, holders), λ h. refl)

pub returns-clause-reaped : goal.returns-clause-reaped
returns-clause-reaped c =
    let xs = c.self.inside.slots.items in
    let old : Slot = c.index_mut-slot.result.now in
    at_slot-set xs c.args.slot (in_phase Gone) old (in_phase Gone old) (omega arith) c.index_mut-slot.ensures.value refl ∙ ap (after_reap c.args.slot) c.self.view_is
