use Rattle.std.proofs.Common.{Option, sym, ap, subst, ◌∙◌}
use Rattle.std.proofs.lemmas.Result.{err_from_is_err_and}
use Rattle.row_format.specs.declared.change.TableMap.{TableMap}
use Rattle.row_format.specs.Reading.{Fails}
use Rattle.binlog_events.specs.Walking.{item_of, before_of, last_map, item_at}
use Rattle.binlog_events.proofs.ItemFrontLemmas.{kind_fails, item_fails, items_go_on, items_end, items_left_over}
use Rattle.binlog_events.proofs.items.take_items.Goals as goal

pub returns-in_err-kind : goal.returns-in_err-kind
returns-in_err-kind c =
    let p = err_from_is_err_and c.from_residual.result c.from_residual.ensures.1 in
    rw (p.1, p.2) (kind_fails c.in_err-kind.field-0.0 c.loop-left.changes.items c.loop-left.left _ c.loop-left.rest.now _ c.loop-left-test.true c.in_err-kind.ensures c.loop-left.invariant)

pub returns-in_err-told : goal.returns-in_err-told
returns-in_err-told c =
    let last = c.last_map.ensures ∙ ap last_map c.deref.ensures.value in
    let p = err_from_is_err_and c.from_residual-in_err-told.result c.from_residual-in_err-told.ensures.1 in
    let item = λ (o : Option TableMap). item_at (before_of c.loop-left.waiting o) c.in_ok-kind.kind c.in_ok-kind.body.now in
    let told = subst (λ (o : Option TableMap). Fails c.in_err-told.field-0.0 (item o)) last c.in_err-told.ensures in
    rw (p.1, p.2) (item_fails c.in_err-told.field-0.0 c.loop-left.changes.items c.loop-left.left _ c.loop-left.rest.now c.in_ok-kind.kind
    c.in_ok-kind.body.now _ c.loop-left-test.true c.in_ok-kind.ensures told c.loop-left.invariant)

pub loop-left-preserved : goal.loop-left-preserved
loop-left-preserved c =
    let last = c.last_map.ensures ∙ ap last_map c.deref.ensures.value in
    let item = λ (o : Option TableMap). item_at (before_of c.loop-left.waiting o) c.in_ok-kind.kind c.in_ok-kind.body.now in
    rw (c.in_ok-waiting.ensures.before, c.in_ok-waiting.ensures.changes) (items_go_on c.loop-left.changes.items c.loop-left.left _
    c.loop-left.rest.now c.in_ok-kind.kind c.in_ok-kind.body.now c.in_ok-told.behind.now (item_of c.in_ok-told.told) _ c.loop-left-test.true
    c.in_ok-kind.ensures (ap item (sym last) ∙ c.in_ok-told.ensures) c.loop-left.invariant)

pub returns-then-is_complete : goal.returns-then-is_complete
returns-then-is_complete c = items_end c.loop-left.changes.items c.loop-left.left _ c.loop-left.rest.now _ c.loop-left-test.false (sym (c.is_complete.ensures (last_map c.loop-left.changes.items)) ∙ c.if-is_complete.true) c.loop-left.invariant

pub returns : goal.returns
returns c = items_left_over c.loop-left.changes.items c.loop-left.left _ c.loop-left.rest.now _ c.loop-left-test.false (sym (c.is_complete.ensures (last_map c.loop-left.changes.items)) ∙ c.if-is_complete.false) c.loop-left.invariant
