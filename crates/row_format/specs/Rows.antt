-- Which rows go into a table, and why does another not?
-- (MySQL 5.7 Server Error Message Reference, ER_WRONG_VALUE_COUNT_ON_ROW, ER_BAD_NULL_ERROR and ER_DATA_TOO_LONG; the order and the
-- refusal of a wrong type are this project's.)
use Rattle.std.specs.Prelude.{◌≡◌, ℕ, List, [], ◌∷◌, length, Option, Some, None, cond, ◌==◌, nat_le, slice_get, option_and_then, Bool, All, FitsSigned}
use Rattle.std.specs.Int.{w64}
use Rattle.std.specs.Cmp.Lexicographic.{pointwise}
use Rattle.sql_value.specs.declared.value.Value.{Value}
use Rattle.sql_value.specs.declared.value.Value.TheVariants.{Null, Int, Text}
use Rattle.sql_value.specs.Values.{same_value}
use Rattle.row_format.specs.declared.schema.Kind.{Kind}
use Rattle.row_format.specs.declared.schema.Kind.TheVariants.{BigInt, VarChar}
use Rattle.row_format.specs.declared.schema.Column.{Column}
use Rattle.row_format.specs.declared.schema.Schema.{Schema}
use Rattle.sql_value.specs.declared.refusal.Refusal.{Refusal}
use Rattle.sql_value.specs.declared.refusal.Refusal.TheVariants.{ValueCount, WrongType, ColumnNotNullable, DataTooLong}

-- why a number is refused by a column of this type, if it is
abbrev pub int_refusal : Kind → Option Refusal
int_refusal BigInt = None
int_refusal (VarChar n) = Some WrongType

-- why a text of so many bytes is refused, if it is
abbrev pub text_refusal : Kind → ℕ → Option Refusal
text_refusal BigInt len = Some WrongType
text_refusal (VarChar n) len = cond (nat_le len n) None (Some DataTooLong)

-- why a column refuses this value, if it does
abbrev pub value_refusal : Column → Value → Option Refusal
value_refusal column Null = cond column.nullable None (Some ColumnNotNullable)
value_refusal column (Int n) = int_refusal column.kind
value_refusal column (Text t) = text_refusal column.kind (length t)

-- the first of two refusals
abbrev pub first_of_two : Option Refusal → Option Refusal → Option Refusal
first_of_two (Some it) other = Some it
first_of_two None other = other

-- why the first column that offends refuses its value, if one does
abbrev pub values_refusal : List Column → List Value → Option Refusal
values_refusal [] values = None
values_refusal (column ∷ columns) [] = None
values_refusal (column ∷ columns) (value ∷ values) = first_of_two (value_refusal column value) (values_refusal columns values)

-- why a schema refuses this row, if it does: another number of values, or the first column that offends
abbrev pub row_refusal : Schema → List Value → Option Refusal
row_refusal schema row = cond (length row == length schema.columns) (values_refusal schema.columns row) (Some ValueCount)

-- a number of 64 bits, where it is a number
abbrev pub IsInRange : Value → Type 0
IsInRange (Int n) = FitsSigned w64 n
IsInRange _ = Unit {0}

-- a row that the schema takes
pub record IsRow (schema : Schema) (row : List Value) : Type 0 where
  pub passes : row_refusal schema row ≡ None
  pub in_range : All IsInRange row

-- the row's value in the key column, where the schema has a key
abbrev pub key_value : Schema → List Value → Option Value
key_value schema row = option_and_then (slice_get row) schema.key

-- the two rows have the same values
abbrev pub same_row : List Value → List Value → Bool
same_row a b = pointwise same_value a b
