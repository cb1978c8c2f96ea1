-- Which columns a statement names, and whether the table has them. (This project.)
use Rattle.std.specs.Prelude.{ℕ, List, Option, Some, None, Bool, true, ◌&&◌}
use Rattle.std.specs.List.{list_all, list_any}
use Rattle.row_format.specs.declared.schema.Column.{Column}
use Rattle.row_format.specs.Schemas.{is_called}
use Rattle.sql_text.specs.declared.statement.Assign.{Assign}
use Rattle.sql_text.specs.declared.statement.Cond.{Cond}
use Rattle.sql_text.specs.declared.statement.Operand.{Operand}
use Rattle.sql_text.specs.declared.statement.Operand.TheVariants as operand
use Rattle.sql_text.specs.declared.statement.Step.{Step}
use Rattle.sql_text.specs.declared.statement.Step.TheVariants as step
use Rattle.sql_text.specs.declared.statement.Sum.{Sum}
use Rattle.sql_text.specs.declared.statement.Term.{Term}

-- the table has a column of this name
abbrev pub has_column : List Column → List ℕ → Bool
has_column columns name = list_any (is_called name) columns

-- the column that an operand names is there, where it names one
abbrev pub operand_known : List Column → Operand → Bool
operand_known columns (operand.Literal literal) = true
operand_known columns (operand.Column name) = has_column columns name

-- so it is of a term of a sum
abbrev pub term_known : List Column → Term → Bool
term_known columns term = operand_known columns term.operand

-- each column that a sum names is there
abbrev pub sum_known : List Column → Sum → Bool
sum_known columns sum = operand_known columns sum.first && list_all (term_known columns) sum.rest

-- each column that a step of a condition names is there
abbrev pub step_known : List Column → Step → Bool
step_known columns (step.Compare left op right) = sum_known columns left && sum_known columns right
step_known columns (step.IsNull sum negated) = sum_known columns sum
step_known columns _ = true

-- each column that a condition names is there, where there is a condition
abbrev pub cond_known : List Column → Option Cond → Bool
cond_known columns None = true
cond_known columns (Some cond) = list_all (step_known columns) cond.steps

-- the column that is set is there, and each that is read for it
abbrev pub assign_known : List Column → Assign → Bool
assign_known columns assign = has_column columns assign.column && sum_known columns assign.sum

-- each column that is selected is there, where they are named
abbrev pub select_known : List Column → Option (List (List ℕ)) → Bool
select_known columns None = true
select_known columns (Some names) = list_all (has_column columns) names
