use Rattle.std.proofs.Common.{rules, ◌≡◌, ◌∙◌, ◌≤◌, ◌<◌, ◌*◌, ap, length}
use Rattle.std.specs.Prelude.{insert}
use Rattle.std.specs.List.{concat}
use Rattle.row_store.specs.Blocks.{full, Listed}
use Rattle.row_store.proofs.OrderLemmas.{number_put, one_more, written_back}
use Rattle.row_store.proofs.order.Order.insert_reserved.Goals as goal

pub settle_extra-requires-clause-count : goal.settle_extra-requires-clause-count
settle_extra-requires-clause-count c =
    let o = c.self.inside in
    let le : c.args.i ≤ o.len = search rules in
    let room : o.len < full * length o.blocks.items = search rules in
    one_more o.len c.args.i c.args.number o.blocks.items c.deref_mut.result.now c.self.invariant le
    (number_put o.len c.args.i c.args.number o.blocks.items c.deref_mut.result.now c.index_mut.result.now c.insert.new.self c.self.invariant le room c.index_mut.ensures.value c.insert.ensures.items c.deref_mut.ensures.value)

pub returns-clause-items : goal.returns-clause-items
returns-clause-items c =
    let o = c.self.inside in
    let le : c.args.i ≤ o.len = search rules in
    let room : o.len < full * length o.blocks.items = search rules in
    let size : length c.settle_extra.new.blocks ≡ o.blocks.len = search rules in
    ap concat (written_back o.blocks.len c.settle_extra.new.blocks _ size) ∙ c.settle_extra.ensures.same
    ∙ number_put o.len c.args.i c.args.number o.blocks.items c.deref_mut.result.now c.index_mut.result.now c.insert.new.self c.self.invariant le room c.index_mut.ensures.value c.insert.ensures.items c.deref_mut.ensures.value
    ∙ ap (λ (h : Listed). insert h.items c.args.i c.args.number) c.self.view_is
