use Rattle.std.proofs.Common.{◌≡◌, sym, subst, Some}
use Rattle.std.specs.Result.{is_ok}
use Rattle.log_tables.specs.Keys.{IsOrdered}
use Rattle.live_tables.specs.Stored.{Takes}
use Rattle.live_tables.proofs.StoredLemmas.{kept_in_order}
use Rattle.live_tables.proofs.stored.Stored.add.Goals as goal

pub invariant_of-self : goal.invariant_of-self
invariant_of-self c =
    let key = c.self.inside.definition.schema.key in
    let rows = c.self.inside.rows.items in
    let same : c.deref.result.now ≡ rows = c.deref.ensures.value in
    let takes = c.place_in.ensures.found (subst (IsOrdered key) (sym same) c.self.invariant) in
    kept_in_order key c.args.row rows c.insert.new.self.items c.in-Some.i (is_ok c.insert.result) c.self.invariant
    (subst (λ l. Takes key c.args.row l (Some c.in-Some.i)) same (subst (Takes key c.args.row c.deref.result.now) c.in-Some.is takes)) c.insert.ensures.items
