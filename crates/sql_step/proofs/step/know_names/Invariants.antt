use Rattle.std.proofs.Common.{take}
use Rattle.std.specs.Prelude.{All}
use Rattle.sql_value.specs.Names.{IsName}
use Rattle.sql_step.proofs.step.know_names.Given as goal

abbrev pub invariant-loop-column : goal.invariant-loop-column
invariant-loop-column l = All (λ it. IsName it.name) (take l.column-index l.columns)
