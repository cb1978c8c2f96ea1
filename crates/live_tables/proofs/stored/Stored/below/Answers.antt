use Rattle.std.proofs.Common.{◌≡◌, ◌∙◌, Some, ap, sym, subst}
use Rattle.log_tables.specs.Keys.{IsOrdered, IsInKeyOrder}
use Rattle.live_tables.specs.Places.{below}
use Rattle.log_tables.specs.declared.table.Table.{Table}
use Rattle.live_tables.proofs.BelowLemmas.{parted_below}
use Rattle.live_tables.proofs.stored.Stored.below.Goals as goal

pub returns-then-own-column-clause-value : goal.returns-then-own-column-clause-value
returns-then-own-column-clause-value c =
    let rows = c.self.inside.rows.items in
    let same : c.deref.result.now ≡ rows = c.deref.ensures.value in
    let keyed = c.in-Some.is ∙ ap Some c.if-own-column.true in
    let ordered : IsInKeyOrder c.args.column rows = subst (λ key. IsOrdered key rows) keyed c.self.invariant in
    let there = c.count_below.ensures.parted (subst (IsInKeyOrder c.args.column) (sym same) ordered) in
    parted_below c.args.column c.args.key.now c.deref.result.now c.count_below.result there c.count_below.ensures.within
    ∙ ap (below c.args.column c.args.key.now) same
    ∙ ap (λ (t : Table). below c.args.column c.args.key.now t.rows) c.self.view_is
