use Rattle.std.proofs.Common.{◌≡◌, ◌++◌, replicate}
use Rattle.sql_text.specs.declared.statement.Step.TheVariants.{Not}
use Rattle.sql_text.proofs.filter.with_nots.Given as goal

abbrev pub invariant-loop : goal.invariant-loop
invariant-loop l = l.steps ≡ l.initial.steps ++ replicate l.counter Not
