-- The value of an operand and of a sum on a row.
-- (MySQL 5.7 Reference Manual, "Arithmetic Operators", "Working with NULL Values" and "Out-of-Range and Overflow Handling"; that each
-- partial sum has to be a BIGINT is this project's.)
use Rattle.std.specs.Prelude.{ℕ, ℤ, ◌+ℤ◌, ◌-ℤ◌, List, [], ◌∷◌, Option, Some, None, Bool, true, false, cond, slice_get, unwrap_or, option_and_then}
use Rattle.std.specs.List.{position}
use Rattle.sql_value.specs.declared.value.Value.{Value}
use Rattle.sql_value.specs.declared.value.Value.TheVariants.{Null, Int}
use Rattle.row_format.specs.declared.schema.Column.{Column}
use Rattle.row_format.specs.Schemas.{is_called}
use Rattle.sql_text.specs.declared.statement.Literal.{Literal}
use Rattle.sql_text.specs.declared.statement.Operand.{Operand}
use Rattle.sql_text.specs.declared.statement.Operand.TheVariants as operand
use Rattle.sql_text.specs.declared.statement.Sum.{Sum}
use Rattle.sql_text.specs.declared.statement.Term.{Term}
use Rattle.sql_plan.specs.Plans.{value_of}
use Rattle.sql_plan.specs.Types.{is_big_int}

-- what a row has in the column of this name
abbrev pub value_named : List Column → List ℕ → List Value → Value
value_named columns name row = unwrap_or (option_and_then (slice_get row) (position (is_called name) columns)) Null

-- The value of a literal. No number outside BIGINT comes here: planning refuses it.
abbrev pub literal_value : Literal → Value
literal_value it = unwrap_or (value_of it) Null

-- the value of an operand on a row
abbrev pub operand_value : List Column → List Value → Operand → Value
operand_value columns row (operand.Literal it) = literal_value it
operand_value columns row (operand.Column name) = value_named columns name row

-- the number, where it is a BIGINT
abbrev pub big_int : ℤ → Option Value
big_int n = cond (is_big_int n) (Some (Int n)) None

-- the first number and the second, or the first less the second, where that is a BIGINT
abbrev pub number_after : ℤ → Bool → ℤ → Option Value
number_after a false b = big_int (a +ℤ b)
number_after a true b = big_int (a -ℤ b)

-- A sum of two values, or a difference: NULL where one of them is NULL. No text comes here: planning refuses it.
abbrev pub value_after : Value → Bool → Value → Option Value
value_after (Int a) minus (Int b) = number_after a minus b
value_after _ minus _ = Some Null

-- the value so far with terms put to it, from the left
abbrev pub terms_value : List Column → List Value → Value → List Term → Option Value
terms_value columns row so_far [] = Some so_far
terms_value columns row so_far (it ∷ rest) =
    option_and_then (λ (next : Value). terms_value columns row next rest) (value_after so_far it.minus (operand_value columns row it.operand))

-- The value of a sum on a row; none where it goes outside BIGINT.
abbrev pub sum_value : List Column → List Value → Sum → Option Value
sum_value columns row sum = terms_value columns row (operand_value columns row sum.first) sum.rest
