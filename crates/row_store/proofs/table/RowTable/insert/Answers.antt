use Rattle.std.proofs.Common.{rules, ◌<◌, ◌≤◌, length, sym, subst, refl, ap, ◌∙◌}
use Rattle.row_store.proofs.KeyLemmas.{rows_length}
use Rattle.row_store.specs.Rows.{Held}
use Rattle.row_store.proofs.KeptLemmas.{inserts_ok, inserts_as, came}
use Rattle.row_store.proofs.table.RowTable.insert.Goals as goal

pub invariant_of-self : goal.invariant_of-self
invariant_of-self c =
    let t = c.self.inside in
    let room : t.order.room ≤ c.insert_reserved.new.self.room = search rules in
    let r = came t.schema.key t.slots.items c.fill-slot.new.slots.items t.order.items c.insert_reserved.new.self.items t.free.items c.fill-slot.new.free.items t.spare _ _ _ _ _ _ c.fill-slot.result c.in-Some.i c.args.row c.deref.result.now
    c.self.invariant.0 (subst (λ (h : Held). 0 < h.spare) (sym c.self.view_is) c.requires.spare) c.fill-slot.ensures.fills c.deref.ensures.value c.in-Some.ensures.within c.in-Some.ensures.found
    c.insert_reserved.ensures.items c.fill-slot.ensures.slots_room room c.fill-slot.ensures.free_room c.self.invariant.1 in
    (r.kept, r.ordered)

pub returns : goal.returns
returns c =
    let t = c.self.inside in
    let room : t.order.room ≤ c.insert_reserved.new.self.room = search rules in
    let r = came t.schema.key t.slots.items c.fill-slot.new.slots.items t.order.items c.insert_reserved.new.self.items t.free.items c.fill-slot.new.free.items t.spare _ _ _ _ _ _ c.fill-slot.result c.in-Some.i c.args.row c.deref.result.now
    c.self.invariant.0 (subst (λ (h : Held). 0 < h.spare) (sym c.self.view_is) c.requires.spare) c.fill-slot.ensures.fills c.deref.ensures.value c.in-Some.ensures.within c.in-Some.ensures.found
    c.insert_reserved.ensures.items c.fill-slot.ensures.slots_room room c.fill-slot.ensures.free_room c.self.invariant.1 in
    record {
      inserts = inserts_as c.args.row _ _ _ _ c.self.view_is (inserts_ok c.args.row _ _ c.in-Some.i r.takes r.rows r.within r.less refl);
      end = λ keyless. c.in-Some.ensures.end (ap (λ (h : Held). h.schema.key) c.self.view_is ∙ keyless) ∙ sym (rows_length t.slots.items t.order.items) ∙ ap (λ (h : Held). length h.rows) c.self.view_is;
    }
