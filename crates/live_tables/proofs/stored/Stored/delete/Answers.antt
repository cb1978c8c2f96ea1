use Rattle.std.proofs.Common.{Some, sym, subst}
use Rattle.live_tables.specs.Stored.{StandsAt}
use Rattle.live_tables.proofs.StoredLemmas.{deleted_in_order}
use Rattle.live_tables.proofs.stored.Stored.delete.Goals as goal

pub invariant_of-self : goal.invariant_of-self
invariant_of-self c =
    let rows = c.self.inside.rows.items in
    let key = c.self.inside.definition.schema.key in
    let stands : StandsAt key c.args.place c.args.before.now rows (Some c.in-Some.i) =
    subst (λ l. StandsAt key c.args.place c.args.before.now l (Some c.in-Some.i)) c.deref.ensures.value
    (c.in-Some.ensures.found (subst (λ l. Rattle.log_tables.specs.Keys.IsOrdered key l) (sym c.deref.ensures.value) c.self.invariant)) in
    deleted_in_order key c.args.place c.args.before.now rows c.remove.new.self.items c.in-Some.i c.self.invariant stands c.remove.ensures.items
