use Rattle.std.proofs.Common.{subst, sym, ◌∙◌, arith}
use Rattle.std.proofs.lemmas.List.Elements.{All-more}
use Rattle.row_format.specs.Rows.{IsInRange}
use Rattle.row_format.proofs.RowLemmas.{passed_row, refusal_next}
use Rattle.row_format.proofs.check.check_row.Goals as goal

pub loop-i-preserved : goal.loop-i-preserved
loop-i-preserved c =
    let before = c.loop-i.invariant in
    let within = c.loop-i-test.true in
    record {
      within = omega (arith, within);
      same_length = before.same_length;
      so_far = refusal_next _ _ c.loop-i.i _ _ within before.same_length c.index-columns-i.is c.index-values-i.is (sym c.in_ok-check_value.ensures.value) ∙ before.so_far;
      in_range = All-more IsInRange c.values-values.result.now c.loop-i.i c.index-values-i.result (omega (arith, within, before.same_length)) before.in_range (subst IsInRange c.index-values-i.is c.in_ok-check_value.ensures.in_range);
      columns_are = before.columns_are;
      values_are = before.values_are;
    }

pub returns-clause-ok : goal.returns-clause-ok
returns-clause-ok c =
    let at_end = c.loop-i.invariant in
    passed_row c.args.schema.now c.args.row.now _ _ c.loop-i.i at_end.columns_are at_end.values_are at_end.same_length c.loop-i-test.false at_end.so_far at_end.in_range
