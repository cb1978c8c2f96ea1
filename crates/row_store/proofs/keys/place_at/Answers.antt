use Rattle.std.proofs.Common.{sym, subst, Option, ℕ}
use Rattle.log_tables.specs.Keys.{IsOrdered}
use Rattle.row_store.specs.Slots.{rows_in}
use Rattle.row_store.specs.Rows.{IsAtKey}
use Rattle.row_store.proofs.FindLemmas.{at_by_key}
use Rattle.row_store.proofs.keys.place_at.Goals as goal

pub returns-in-Some-clause-found : goal.returns-in-Some-clause-found
returns-in-Some-clause-found c =
    let rows = rows_in c.args.slots.now c.args.order.now.items in
    subst (λ (o : Option ℕ). IsOrdered c.args.key rows → IsAtKey c.args.key c.args.wanted.now rows o) (sym c.ok.ensures.value)
    (at_by_key c.args.key c.in-Some.column c.args.wanted.now rows c.find_key.result c.in-Some.is c.find_key.ensures.found)
