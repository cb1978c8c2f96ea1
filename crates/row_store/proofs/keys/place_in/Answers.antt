use Rattle.std.proofs.Common.{sym, ◌∙◌, subst, Option, ℕ}
use Rattle.log_tables.specs.Keys.{IsOrdered}
use Rattle.row_store.specs.Slots.{rows_in}
use Rattle.row_store.specs.Rows.{Takes}
use Rattle.row_store.proofs.KeyLemmas.{takes_at_end, rows_length}
use Rattle.row_store.proofs.FindLemmas.{takes_by_key}
use Rattle.row_store.proofs.keys.place_in.Goals as goal

pub returns-in-Some-clause-found : goal.returns-in-Some-clause-found
returns-in-Some-clause-found c =
    let rows = rows_in c.args.slots.now c.args.order.now.items in
    subst (λ (o : Option ℕ). IsOrdered c.args.key rows → Takes c.args.key c.args.row.now rows o) (sym c.err.ensures.value)
    (takes_by_key c.args.key c.in-Some.column c.args.row.now rows c.find_row.result c.in-Some.is c.find_row.ensures.found)

pub returns-in-None-clause-found : goal.returns-in-None-clause-found
returns-in-None-clause-found c = λ ordered.
    takes_at_end c.args.key c.args.row.now (rows_in c.args.slots.now c.args.order.now.items) _ c.in-None.is (c.len.ensures ∙ sym (rows_length c.args.slots.now c.args.order.now.items))
