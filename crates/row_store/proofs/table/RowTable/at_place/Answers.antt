use Rattle.std.proofs.Common.{sym, ap, ◌∙◌, List, Option}
use Rattle.std.specs.Prelude.{slice_get}
use Rattle.std.proofs.lemmas.Option.{slice_get_within, get_or_from_slice_get}
use Rattle.sql_value.specs.declared.value.Value.{Value}
use Rattle.row_store.specs.Slots.{at}
use Rattle.row_store.specs.Rows.{Held}
use Rattle.row_store.proofs.KeyLemmas.{past}
use Rattle.row_store.proofs.EditLemmas.{row_at_place, no_place}
use Rattle.row_store.proofs.table.RowTable.at_place.Goals as goal

pub returns-in-Some : goal.returns-in-Some
returns-in-Some c =
    let inside = c.self.inside in
    let order = inside.order.items in
    let there = sym c.in-Some.ensures in
    let lt = slice_get_within order c.args.place c.in-Some.slot there in
    let is = get_or_from_slice_get order c.args.place c.in-Some.slot 0 there in
    c.row_in.ensures ∙ ap (λ (l : List (Option (List Value))). at l c.in-Some.slot) c.deref.ensures.value ∙ sym (row_at_place inside.slots.items order c.args.place c.in-Some.slot c.self.invariant.0.taken lt is)
    ∙ ap (λ (h : Held). slice_get h.rows c.args.place) c.self.view_is

pub returns-in-None : goal.returns-in-None
returns-in-None c =
    let inside = c.self.inside in
    sym (no_place inside.slots.items inside.order.items c.args.place (past inside.order.items c.args.place c.in-None.ensures)) ∙ ap (λ (h : Held). slice_get h.rows c.args.place) c.self.view_is
