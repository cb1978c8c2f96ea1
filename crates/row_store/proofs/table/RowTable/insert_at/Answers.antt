use Rattle.std.proofs.Common.{rules, ◌<◌, ◌≤◌, ◌∙◌, length, sym, subst, ap}
use Rattle.std.specs.Prelude.{insert}
use Rattle.row_store.specs.Rows.{Held}
use Rattle.row_store.proofs.KeptLemmas.{came_at}
use Rattle.row_store.proofs.table.RowTable.insert_at.Goals as goal

pub invariant_of-self : goal.invariant_of-self
invariant_of-self c =
    let t = c.self.inside in
    let room : t.order.room ≤ c.insert_reserved.new.self.room = search rules in
    let r = came_at t.schema.key t.slots.items c.fill-slot.new.slots.items t.order.items c.insert_reserved.new.self.items t.free.items c.fill-slot.new.free.items t.spare _ _ _ _ _ _ c.fill-slot.result c.args.place c.args.row
    c.self.invariant.0 (ap (λ (h : Held). h.schema.key) c.self.view_is ∙ c.requires.keyless) (subst (λ (h : Held). 0 < h.spare) (sym c.self.view_is) c.requires.spare)
    c.fill-slot.ensures.fills (subst (λ (h : Held). c.args.place ≤ length h.rows) (sym c.self.view_is) c.requires.place) c.insert_reserved.ensures.items c.fill-slot.ensures.slots_room room c.fill-slot.ensures.free_room c.self.invariant.1 in
    (r.0, r.1)

pub returns-clause-rows : goal.returns-clause-rows
returns-clause-rows c =
    let t = c.self.inside in
    let room : t.order.room ≤ c.insert_reserved.new.self.room = search rules in
    let r = came_at t.schema.key t.slots.items c.fill-slot.new.slots.items t.order.items c.insert_reserved.new.self.items t.free.items c.fill-slot.new.free.items t.spare _ _ _ _ _ _ c.fill-slot.result c.args.place c.args.row
    c.self.invariant.0 (ap (λ (h : Held). h.schema.key) c.self.view_is ∙ c.requires.keyless) (subst (λ (h : Held). 0 < h.spare) (sym c.self.view_is) c.requires.spare)
    c.fill-slot.ensures.fills (subst (λ (h : Held). c.args.place ≤ length h.rows) (sym c.self.view_is) c.requires.place) c.insert_reserved.ensures.items c.fill-slot.ensures.slots_room room c.fill-slot.ensures.free_room c.self.invariant.1 in
    r.2 ∙ ap (λ (h : Held). insert h.rows c.args.place c.args.row) c.self.view_is
