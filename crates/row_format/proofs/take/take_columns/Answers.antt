use Rattle.std.proofs.lemmas.Result.{err_from_is_err_and}
use Rattle.row_format.proofs.FrontLemmas.{columns_fail, columns_go_on, columns_end}
use Rattle.row_format.proofs.take.take_columns.Goals as goal

pub returns-in_err-column : goal.returns-in_err-column
returns-in_err-column c =
    let p = err_from_is_err_and c.from_residual.result c.from_residual.ensures.1 in
    rw (p.1, p.2) (columns_fail c.in_err-column.field-0.0 c.loop-left.columns.items c.loop-left.left c.loop-left.rest.now _ c.loop-left-test.true c.in_err-column.ensures c.loop-left.invariant)

pub loop-left-preserved : goal.loop-left-preserved
loop-left-preserved c =
    rw c.in_ok-push.ensures.items (columns_go_on c.loop-left.columns.items c.loop-left.left c.loop-left.rest.now c.in_ok-column.behind.now c.in_ok-column.column _ c.loop-left-test.true c.in_ok-column.ensures c.loop-left.invariant)

pub returns : goal.returns
returns c = columns_end c.loop-left.columns.items c.loop-left.left c.loop-left.rest.now _ c.loop-left-test.false c.loop-left.invariant
