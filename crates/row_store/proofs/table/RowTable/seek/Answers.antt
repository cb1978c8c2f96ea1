use Rattle.std.proofs.Common.{subst, Some, None, Ok, Err}
use Rattle.log_tables.specs.Keys.{key_in, IsInKeyOrder}
use Rattle.row_store.specs.Slots.{rows_in}
use Rattle.row_store.specs.Rows.{Held, Finds, Names}
use Rattle.row_store.proofs.KeyLemmas.{Slots}
use Rattle.row_store.proofs.FindLemmas.{names_keyed, names_nowhere}
use Rattle.row_store.proofs.table.RowTable.seek.Goals as goal

pub returns-in-Ok-clause-names : goal.returns-in-Ok-clause-names
returns-in-Ok-clause-names c =
    let t = c.self.inside in
    let row = c.args.row.now in
    let found = subst (λ (s : Slots). IsInKeyOrder c.in-Some.column (rows_in s t.order.items) → Finds c.in-Some.column (key_in c.in-Some.column row) (rows_in s t.order.items) (Ok c.in-Ok.i)) c.deref.ensures.value c.in-Ok.ensures.found in
    subst (λ (h : Held). Names h.schema.key c.args.place row h.rows (Some c.in-Ok.i)) c.self.view_is (names_keyed t.schema.key c.in-Some.column c.args.place row (rows_in t.slots.items t.order.items) c.in-Ok.i c.in-Some.is found c.self.invariant.1)

pub returns-in-Err-clause-names : goal.returns-in-Err-clause-names
returns-in-Err-clause-names c =
    let t = c.self.inside in
    let row = c.args.row.now in
    let found = subst (λ (s : Slots). IsInKeyOrder c.in-Some.column (rows_in s t.order.items) → Finds c.in-Some.column (key_in c.in-Some.column row) (rows_in s t.order.items) (Err c.in-Err.field-0)) c.deref.ensures.value c.in-Err.ensures.found in
    subst (λ (h : Held). Names h.schema.key c.args.place row h.rows None) c.self.view_is (names_nowhere t.schema.key c.in-Some.column c.args.place row (rows_in t.slots.items t.order.items) c.in-Err.field-0 c.in-Some.is found c.self.invariant.1)
