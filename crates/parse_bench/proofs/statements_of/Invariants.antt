use Rattle.std.proofs.Common.{◌≡◌, ◌≤◌}
use Rattle.sql_text.specs.declared.statement.Statement.{Statement}
use Rattle.sql_text.specs.Statements.{Spells}
use Rattle.parse_bench.proofs.statements_of.Given as goal

abbrev pub invariant-loop : goal.invariant-loop
invariant-loop l = record {
  most : l.read ≤ l.counter;
  none : ((statement : Statement) → Spells l.text statement → ⊥) → l.read ≡ 0;
}
