use Rattle.std.proofs.Common.{sym, ap, ◌∙◌, arith}
use Rattle.plugin_registry.specs.Registry.{Slot}
use Rattle.plugin_registry.specs.Calls.{left_by, after_leave}
use Rattle.plugin_registry.proofs.SlotLemmas.{at_slot-set, at_slot-past}
use Rattle.plugin_registry.proofs.KeepLemmas.{registry-leave}
use Rattle.plugin_registry.proofs.registry.Registry.leave.Goals as goal

pub invariant_of-self : goal.invariant_of-self
invariant_of-self c =
    let xs = c.self.inside.slots.items in
    let old : Slot = c.index_mut-slot.result.now in
    registry-leave c.args.holder.now xs c.args.slot old (record old { holders = c.remove.new.self }) c.self.invariant (omega arith) c.index_mut-slot.ensures.value
    (ap (λ hs. record old { holders = hs }) c.remove.ensures)

pub returns-then-i-len : goal.returns-then-i-len
returns-then-i-len c =
    let xs = c.self.inside.slots.items in
    let old : Slot = c.index_mut-slot.result.now in
    at_slot-set xs c.args.slot (left_by c.args.holder.now) old (record old { holders = c.remove.new.self }) (omega arith) c.index_mut-slot.ensures.value
    (ap (λ hs. record old { holders = hs }) c.remove.ensures)
    ∙ ap (after_leave c.args.slot c.args.holder.now) c.self.view_is

pub returns-else-i-len : goal.returns-else-i-len
returns-else-i-len c =
    let xs = c.self.inside.slots.items in
    sym (ap (after_leave c.args.slot c.args.holder.now) (sym c.self.view_is) ∙ at_slot-past xs c.args.slot (left_by c.args.holder.now) (omega arith) ∙ c.self.view_is)
