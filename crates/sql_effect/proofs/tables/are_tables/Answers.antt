use Rattle.std.proofs.Common.{arith}
use Rattle.sql_effect.specs.Effects.{IsTable}
use Rattle.sql_effect.proofs.ListLemmas.{all_more, all_of_them}
use Rattle.sql_effect.proofs.tables.are_tables.Goals as goal

pub loop-i-preserved : goal.loop-i-preserved
loop-i-preserved c = record {
  within = omega arith;
  passed = all_more IsTable c.args.tables.now c.loop-i.i c.index-tables-i.result (omega arith) c.index-tables-i.is c.loop-i.invariant.passed (c.in_ok-is_table.ensures.yes c.if-not-branch.false);
}

pub returns-clause-yes : goal.returns-clause-yes
returns-clause-yes c so = all_of_them IsTable c.args.tables.now c.loop-i.i (omega arith) c.loop-i.invariant.passed
