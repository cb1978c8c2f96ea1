use Rattle.std.proofs.Common.{Some, sym, subst}
use Rattle.live_tables.specs.Stored.{StandsAt}
use Rattle.live_tables.proofs.StoredLemmas.{moved_in_order}
use Rattle.live_tables.proofs.stored.Stored.update.Goals as goal

pub invariant_of-self : goal.invariant_of-self
invariant_of-self c =
    let rows = c.self.inside.rows.items in
    let key = c.self.inside.definition.schema.key in
    let stands : StandsAt key c.args.place c.args.before.now rows (Some c.in-Some.i) =
    subst (λ l. StandsAt key c.args.place c.args.before.now l (Some c.in-Some.i)) c.deref.ensures.value
    (c.in-Some.ensures.found (subst (λ l. Rattle.log_tables.specs.Keys.IsOrdered key l) (sym c.deref.ensures.value) c.self.invariant)) in
    moved_in_order key c.args.place c.args.before.now c.args.after rows c.move_row.new.rows.items c.in-Some.i c.self.invariant stands (c.move_row.ensures c.self.invariant)
