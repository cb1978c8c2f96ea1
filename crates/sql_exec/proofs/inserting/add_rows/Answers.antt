use Rattle.std.proofs.Common.{◌∙◌, ◌+◌, ap, drop, subst, sym, IsTrue, arith}
use Rattle.disk_model.specs.Object.{object}
use Rattle.engine_api.specs.States.{EngineState}
use Rattle.row_format.specs.Rows.{IsRow}
use Rattle.sql_effect.proofs.ListLemmas.{all_more}
use Rattle.sql_exec.specs.Inserts.{CanPutAll, puts_refusal}
use Rattle.sql_exec.proofs.AddedLemmas.{rows_end, rows_fail, rows_next}
use Rattle.sql_exec.proofs.CarryLemmas.{work_behind}
use Rattle.sql_exec.proofs.RowsLemmas.{can_first, can_rest, refusal_rest}
use Rattle.sql_exec.proofs.RunLemmas.{same_on}
use Rattle.sql_exec.proofs.inserting.add_rows.Goals as goal

pub add_row-requires-clause-can : goal.add_row-requires-clause-can
add_row-requires-clause-can g c = can_first _ _ _ _ _ _ _ c.loop-i-test.true c.index-rows-i.is c.loop-i.invariant.can

pub add_row-requires-clause-at_work : goal.add_row-requires-clause-at_work
add_row-requires-clause-at_work g c = λ told. work_behind _ _ _ _ _ _ _ _ _ _ _ c.loop-i.invariant.carries c.loop-i.invariant.same (subst IsTrue c.loop-i.invariant.carries.cause.told told)

pub returns-in_err-add_row-clause-carries : goal.returns-in_err-add_row-clause-carries
returns-in_err-add_row-clause-carries g c = (
  c.loop-i.i,
  rows_fail c.args.txn c.args.table.now c.args.schema.now c.args.rows.now c.loop-i.i c.index-rows-i.result _ _ _ _ c.from_residual.result c.in_err-add_row.field-0.0 _ _ _ _ _ _ _ _ c.requires.can.unprepared c.loop-i.invariant.carries c.loop-i.invariant.same
      c.in_err-add_row.ensures.carries c.from_residual.ensures.1,
)

pub loop-i-preserved : goal.loop-i-preserved
loop-i-preserved g c =
    let mid = (goal.Engine-dyn g (object c.loop-i.engine)).state c.loop-i.engine.value in
    let new = (goal.Engine-dyn g (object c.add_row.new.engine)).state c.add_row.new.engine.value in
    let table = c.args.table.now in
    let schema = c.args.schema.now in
    let rows = c.args.rows.now in
    let row = c.index-rows-i.result in
    let is = sym c.in_ok-add_row.ensures.carries.ok in
    let can = c.loop-i.invariant.can in
    let granted = c.in_ok-add_row.ensures.puts.granted in
    record {
      same = same_on _ _ _ _ _ _ c.loop-i.invariant.same c.in_ok-add_row.ensures.same;
      carries =
          rows_next c.args.txn table schema rows c.loop-i.i row _ _ _ _ _ _ _ _ _ _ _ _ c.loop-i-test.true c.index-rows-i.is c.requires.can.unprepared c.loop-i.invariant.carries c.loop-i.invariant.same
          c.in_ok-add_row.ensures.carries;
      can =
          subst (λ (s : EngineState). CanPutAll c.args.txn table schema (drop (c.loop-i.i + 1) rows) s) is
          (can_rest c.args.txn table schema rows c.loop-i.i row mid c.loop-i-test.true c.index-rows-i.is can granted);
      fit = all_more (IsRow schema) rows c.loop-i.i row c.loop-i-test.true c.index-rows-i.is c.loop-i.invariant.fit c.in_ok-add_row.ensures.fits;
      refusal = c.loop-i.invariant.refusal ∙ refusal_rest c.args.txn table schema rows c.loop-i.i row mid c.loop-i-test.true c.index-rows-i.is can granted
          ∙ ap (puts_refusal table schema (drop (c.loop-i.i + 1) rows)) is;
    }

pub returns-clause-carries : goal.returns-clause-carries
returns-clause-carries g c = (0, rows_end _ _ _ _ c.loop-i.i _ _ _ _ _ _ _ (omega (arith, c.loop-i-test.false)) c.loop-i.invariant.carries)
