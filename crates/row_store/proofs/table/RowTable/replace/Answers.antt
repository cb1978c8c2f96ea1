use Rattle.std.proofs.Common.{rules, ◌<◌, ◌≤◌, length, sym, subst, refl, Bool}
use Rattle.log_tables.specs.Keys.{IsOrdered}
use Rattle.row_store.specs.Slots.{rows_in}
use Rattle.row_store.specs.Turns.{Turns}
use Rattle.row_store.specs.Rows.{Held}
use Rattle.row_store.proofs.KeptLemmas.{gave, taken_there, replaces_ok, replaces_as}
use Rattle.row_store.proofs.table.RowTable.replace.Goals as goal

pub swap-requires : goal.swap-requires
swap-requires c =
    let t = c.self.inside in
    record { taken = taken_there t.slots.items t.order.items t.free.items t.spare _ _ _ c.args.place c.in-Some.slot c.self.invariant.0 (subst (λ (h : Held). c.args.place < length h.rows) (sym c.self.view_is) c.requires.place) (sym c.in-Some.ensures) }

pub invariant_of-self : goal.invariant_of-self
invariant_of-self c =
    let t = c.self.inside in
    let room : t.order.room ≤ c.turn.new.order.room = search rules in
    let turns = subst (λ (b : Bool). IsOrdered t.schema.key (rows_in c.deref.result.now t.order.items) → Turns t.schema.key c.deref.result.now c.args.place c.args.row t.order.items c.turn.new.order.items b) c.if-turn.true c.turn.ensures.turns in
    let r = gave t.schema.key t.slots.items c.swap.new.slots.items t.order.items c.turn.new.order.items t.free.items t.spare _ _ _ _ _ c.args.place c.in-Some.slot c.args.row c.swap.result c.deref.result.now
    c.self.invariant.0 (subst (λ (h : Held). c.args.place < length h.rows) (sym c.self.view_is) c.requires.place) (sym c.in-Some.ensures) c.deref.ensures.value turns c.swap.ensures.swaps c.swap.ensures.slots_room room c.self.invariant.1 in
    (r.kept, r.ordered)

pub returns-then-turn : goal.returns-then-turn
returns-then-turn c =
    let t = c.self.inside in
    let room : t.order.room ≤ c.turn.new.order.room = search rules in
    let turns = subst (λ (b : Bool). IsOrdered t.schema.key (rows_in c.deref.result.now t.order.items) → Turns t.schema.key c.deref.result.now c.args.place c.args.row t.order.items c.turn.new.order.items b) c.if-turn.true c.turn.ensures.turns in
    let r = gave t.schema.key t.slots.items c.swap.new.slots.items t.order.items c.turn.new.order.items t.free.items t.spare _ _ _ _ _ c.args.place c.in-Some.slot c.args.row c.swap.result c.deref.result.now
    c.self.invariant.0 (subst (λ (h : Held). c.args.place < length h.rows) (sym c.self.view_is) c.requires.place) (sym c.in-Some.ensures) c.deref.ensures.value turns c.swap.ensures.swaps c.swap.ensures.slots_room room c.self.invariant.1 in
    record { replaces = replaces_as c.args.place c.args.row _ _ _ _ c.self.view_is (replaces_ok c.args.place c.args.row c.swap.result _ _ r.was r.rows refl refl) }
