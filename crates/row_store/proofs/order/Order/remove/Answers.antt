use Rattle.std.proofs.Common.{rules, ◌≡◌, ◌∙◌, ◌<◌, ap, sym, arith, length}
use Rattle.std.specs.Prelude.{remove, slice_get}
use Rattle.std.specs.List.{concat}
use Rattle.row_store.specs.Blocks.{Listed}
use Rattle.row_store.proofs.OrderLemmas.{packed_room, there, number_there, number_got, number_taken, one_less, written_back}
use Rattle.row_store.proofs.order.Order.remove.Goals as goal

pub index_mut-requires : goal.index_mut-requires
index_mut-requires c =
    let o = c.self.inside in
    let lt : c.args.i < o.len = search rules in
    let at = there o.len c.args.i o.blocks.items c.self.invariant lt in
    search (rules, at)

pub remove-number-requires : goal.remove-number-requires
remove-number-requires c =
    let o = c.self.inside in
    let lt : c.args.i < o.len = search rules in
    record { within = number_there o.len c.args.i o.blocks.items c.index_mut.result.now c.self.invariant lt c.index_mut.ensures.value }

pub settle_gap-requires-clause-count : goal.settle_gap-requires-clause-count
settle_gap-requires-clause-count c =
    let o = c.self.inside in
    let lt : c.args.i < o.len = search rules in
    one_less o.len c.args.i o.blocks.items c.deref_mut.result.now c.self.invariant lt
    (number_taken o.len c.args.i o.blocks.items c.deref_mut.result.now c.index_mut.result.now c.remove-number.new.self c.self.invariant lt c.index_mut.ensures.value c.remove-number.ensures.items c.deref_mut.ensures.value)

pub settle_gap-requires-clause-room : goal.settle_gap-requires-clause-room
settle_gap-requires-clause-room c =
    let o = c.self.inside in
    let lt : c.args.i < o.len = search rules in
    let room = packed_room o.len o.blocks.items c.self.invariant in
    let size : length c.deref_mut.result.now ≡ length o.blocks.items = search rules in
    omega (arith, lt, room, size)

pub returns-clause-value : goal.returns-clause-value
returns-clause-value c =
    let o = c.self.inside in
    let lt : c.args.i < o.len = search rules in
    sym (number_got o.len c.args.i o.blocks.items c.index_mut.result.now c.self.invariant lt c.index_mut.ensures.value ∙ ap (λ (h : Listed). slice_get h.items c.args.i) c.self.view_is) ∙ c.remove-number.ensures.value

pub returns-clause-items : goal.returns-clause-items
returns-clause-items c =
    let o = c.self.inside in
    let lt : c.args.i < o.len = search rules in
    let size : length c.settle_gap.new.blocks ≡ o.blocks.len = search rules in
    ap concat (written_back o.blocks.len c.settle_gap.new.blocks _ size) ∙ c.settle_gap.ensures.same
    ∙ number_taken o.len c.args.i o.blocks.items c.deref_mut.result.now c.index_mut.result.now c.remove-number.new.self c.self.invariant lt c.index_mut.ensures.value c.remove-number.ensures.items c.deref_mut.ensures.value
    ∙ ap (λ (h : Listed). remove h.items c.args.i) c.self.view_is
