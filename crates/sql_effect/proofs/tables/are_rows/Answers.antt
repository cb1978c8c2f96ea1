use Rattle.std.proofs.Common.{arith, refl}
use Rattle.row_format.specs.Rows.{IsRow}
use Rattle.sql_effect.proofs.ListLemmas.{all_more, all_of_them}
use Rattle.sql_effect.proofs.tables.are_rows.Goals as goal

pub loop-i-preserved : goal.loop-i-preserved
loop-i-preserved c = record {
  within = omega arith;
  passed = all_more (IsRow c.args.schema.now) c.args.rows.now c.loop-i.i c.index-rows-i.result (omega arith) c.index-rows-i.is c.loop-i.invariant.passed (c.if-not-is_row.ensures.yes refl);
}

pub returns-clause-yes : goal.returns-clause-yes
returns-clause-yes c so = all_of_them (IsRow c.args.schema.now) c.args.rows.now c.loop-i.i (omega arith) c.loop-i.invariant.passed
