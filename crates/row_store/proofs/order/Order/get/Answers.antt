use Rattle.std.proofs.Common.{rules, ◌∙◌, ◌<◌, ◌≤◌, sym, ap, arith}
use Rattle.std.specs.Prelude.{slice_get}
use Rattle.std.proofs.lemmas.Option.{slice_get_past}
use Rattle.row_store.specs.Blocks.{Listed}
use Rattle.std.specs.List.{concat}
use Rattle.row_store.proofs.OrderLemmas.{there, number_got}
use Rattle.row_store.proofs.order.Order.get.Goals as goal

pub index-requires : goal.index-requires
index-requires c = let lt : c.args.i < c.self.inside.len = search rules in let at = there c.self.inside.len c.args.i c.self.inside.blocks.items c.self.invariant lt in search (rules, at)

pub returns-then-i-self : goal.returns-then-i-self
returns-then-i-self c =
    let lt : c.args.i < c.self.inside.len = search rules in
    c.get.ensures ∙ number_got c.self.inside.len c.args.i c.self.inside.blocks.items c.index.result.now c.self.invariant lt c.index.ensures ∙ ap (λ (h : Listed). slice_get h.items c.args.i) c.self.view_is

pub returns-else-i-self : goal.returns-else-i-self
returns-else-i-self c =
    let ge : c.self.inside.len ≤ c.args.i = search rules in
    let count = c.self.invariant.count in
    sym (slice_get_past (concat c.self.inside.blocks.items) c.args.i (omega (arith, ge, count))) ∙ ap (λ (h : Listed). slice_get h.items c.args.i) c.self.view_is
