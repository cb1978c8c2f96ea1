use Rattle.std.proofs.Common.{arith}
use Rattle.std.proofs.lemmas.Bool.{ne_eqb}
use Rattle.std.proofs.lemmas.Result.{err_from_is_err_and}
use Rattle.row_format.proofs.FrontLemmas.{values_fail, values_go_on, values_end, values_left_over}
use Rattle.row_format.proofs.take.take_values.Goals as goal

pub returns-in_err-value : goal.returns-in_err-value
returns-in_err-value c =
    let p = err_from_is_err_and c.from_residual.result c.from_residual.ensures.1 in
    rw (p.1, p.2) (values_fail c.in_err-value.field-0.0 c.loop-i.values.items c.args.columns.now c.loop-i.i c.loop-i.bits_left c.index-columns-i.result c.loop-i.rest.now _
    c.loop-i-test.true c.index-columns-i.is c.in_err-value.ensures c.loop-i.invariant.so_far)

pub loop-i-preserved : goal.loop-i-preserved
loop-i-preserved c = record {
  within = omega arith;
  so_far = rw c.in_ok-push.ensures.items (values_go_on c.loop-i.values.items c.args.columns.now c.loop-i.i c.loop-i.bits_left c.index-columns-i.result c.loop-i.rest.now c.in_ok-value.behind.now c.in_ok-value.value _
      c.loop-i-test.true c.index-columns-i.is c.in_ok-value.ensures c.loop-i.invariant.so_far);
}

pub returns-then-bits_left-eq0 : goal.returns-then-bits_left-eq0
returns-then-bits_left-eq0 c = values_end c.loop-i.values.items c.args.columns.now c.loop-i.i c.loop-i.bits_left c.loop-i.rest.now _ c.loop-i-test.false c.if-bits_left-eq0.true c.loop-i.invariant.so_far

pub returns : goal.returns
returns c = values_left_over c.loop-i.values.items c.args.columns.now c.loop-i.i c.loop-i.bits_left c.loop-i.rest.now _ c.loop-i-test.false (ne_eqb _ _ c.if-bits_left-eq0.false) c.loop-i.invariant.so_far
