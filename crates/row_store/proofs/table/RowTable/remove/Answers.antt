use Rattle.std.proofs.Common.{rules, ◌<◌, ◌≤◌, ◌∙◌, length, sym, subst, ap}
use Rattle.std.specs.Prelude.{remove, slice_get}
use Rattle.row_store.specs.Rows.{Held}
use Rattle.row_store.proofs.KeptLemmas.{went, taken_there}
use Rattle.row_store.proofs.table.RowTable.remove.Goals as goal

pub take-row-requires-clause-taken : goal.take-row-requires-clause-taken
take-row-requires-clause-taken c =
    let t = c.self.inside in
    taken_there t.slots.items t.order.items t.free.items t.spare _ _ _ c.args.place c.remove-slot.result c.self.invariant.0 (subst (λ (h : Held). c.args.place < length h.rows) (sym c.self.view_is) c.requires.place) c.remove-slot.ensures.value

pub invariant_of-self : goal.invariant_of-self
invariant_of-self c =
    let t = c.self.inside in
    let room : t.order.room ≤ c.remove-slot.new.self.room = search rules in
    let r = went t.schema.key t.slots.items c.take-row.new.slots.items t.order.items c.remove-slot.new.self.items t.free.items c.take-row.new.free.items t.spare _ _ _ _ _ _ c.args.place c.remove-slot.result c.take-row.result
    c.self.invariant.0 (subst (λ (h : Held). c.args.place < length h.rows) (sym c.self.view_is) c.requires.place) c.remove-slot.ensures.value c.remove-slot.ensures.items c.take-row.ensures.frees c.take-row.ensures.slots_room room c.take-row.ensures.free_room c.self.invariant.1 in
    (r.kept, r.ordered)

pub returns-clause-row : goal.returns-clause-row
returns-clause-row c =
    let t = c.self.inside in
    let room : t.order.room ≤ c.remove-slot.new.self.room = search rules in
    let r = went t.schema.key t.slots.items c.take-row.new.slots.items t.order.items c.remove-slot.new.self.items t.free.items c.take-row.new.free.items t.spare _ _ _ _ _ _ c.args.place c.remove-slot.result c.take-row.result
    c.self.invariant.0 (subst (λ (h : Held). c.args.place < length h.rows) (sym c.self.view_is) c.requires.place) c.remove-slot.ensures.value c.remove-slot.ensures.items c.take-row.ensures.frees c.take-row.ensures.slots_room room c.take-row.ensures.free_room c.self.invariant.1 in
    sym (ap (λ (h : Held). slice_get h.rows c.args.place) c.self.view_is) ∙ r.was

pub returns-clause-rows : goal.returns-clause-rows
returns-clause-rows c =
    let t = c.self.inside in
    let room : t.order.room ≤ c.remove-slot.new.self.room = search rules in
    let r = went t.schema.key t.slots.items c.take-row.new.slots.items t.order.items c.remove-slot.new.self.items t.free.items c.take-row.new.free.items t.spare _ _ _ _ _ _ c.args.place c.remove-slot.result c.take-row.result
    c.self.invariant.0 (subst (λ (h : Held). c.args.place < length h.rows) (sym c.self.view_is) c.requires.place) c.remove-slot.ensures.value c.remove-slot.ensures.items c.take-row.ensures.frees c.take-row.ensures.slots_room room c.take-row.ensures.free_room c.self.invariant.1 in
    r.rows ∙ ap (λ (h : Held). remove h.rows c.args.place) c.self.view_is
