-- Which types the values of a statement have, and whether they go together. (This project.)
use Rattle.std.specs.Prelude.{ℕ, ℤ, List, [], ◌∷◌, length, ◌==◌, Option, Some, None, Bool, true, false, cond, nat_lt, pos, negsuc, find, option_map}
use Rattle.sql_value.specs.declared.refusal.Refusal.{Refusal}
use Rattle.sql_value.specs.declared.refusal.Refusal.TheVariants.{WrongType, OutOfRange}
use Rattle.row_format.specs.declared.schema.Column.{Column}
use Rattle.row_format.specs.declared.schema.Kind.{Kind}
use Rattle.row_format.specs.declared.schema.Kind.TheVariants.{BigInt, VarChar}
use Rattle.row_format.specs.Schemas.{is_called}
use Rattle.row_format.specs.Rows.{first_of_two}
use Rattle.sql_text.specs.declared.statement.Assign.{Assign}
use Rattle.sql_text.specs.declared.statement.Cond.{Cond}
use Rattle.sql_text.specs.declared.statement.Literal.{Literal}
use Rattle.sql_text.specs.declared.statement.Literal.TheVariants as literal
use Rattle.sql_text.specs.declared.statement.Literals.{Literals}
use Rattle.sql_text.specs.declared.statement.Operand.{Operand}
use Rattle.sql_text.specs.declared.statement.Operand.TheVariants as operand
use Rattle.sql_text.specs.declared.statement.Step.{Step}
use Rattle.sql_text.specs.declared.statement.Step.TheVariants as step
use Rattle.sql_text.specs.declared.statement.Sum.{Sum}
use Rattle.sql_text.specs.declared.statement.Term.{Term}
use Rattle.sql_plan.specs.declared.types.ValueType.{ValueType}
use Rattle.sql_plan.specs.declared.types.ValueType.TheVariants.{Number, Text}

-- the type of a column
abbrev pub type_of_kind : Kind → ValueType
type_of_kind BigInt = Number
type_of_kind (VarChar n) = Text

-- the type of a literal: NULL has none
abbrev pub type_of_literal : Literal → Option ValueType
type_of_literal literal.Null = None
type_of_literal (literal.Int n) = Some Number
type_of_literal (literal.Text text) = Some Text

-- the type of the column of this name
abbrev pub type_named : List Column → List ℕ → Option ValueType
type_named columns name = option_map (λ (it : Column). type_of_kind it.kind) (find (is_called name) columns)

-- the type of an operand
abbrev pub type_of : List Column → Operand → Option ValueType
type_of columns (operand.Literal it) = type_of_literal it
type_of columns (operand.Column name) = type_named columns name

-- the number is one of BIGINT
abbrev pub is_big_int : ℤ → Bool
is_big_int (pos n) = nat_lt n 9223372036854775808
is_big_int (negsuc n) = nat_lt n 9223372036854775808

-- the literal is no number outside BIGINT
abbrev pub range_refusal : Literal → Option Refusal
range_refusal (literal.Int n) = cond (is_big_int n) None (Some OutOfRange)
range_refusal _ = None

-- an operand is no literal outside BIGINT
abbrev pub operand_range : Operand → Option Refusal
operand_range (operand.Literal it) = range_refusal it
operand_range (operand.Column name) = None

-- the two types are one
abbrev pub same_type : ValueType → ValueType → Bool
same_type Number Number = true
same_type Text Text = true
same_type _ _ = false

-- one of this type may stand where these were seen before, and in a sum of several operands if it is no text
abbrev pub may_stand : Bool → Option ValueType → Option ValueType → Bool
may_stand several seen None = true
may_stand true seen (Some Text) = false
may_stand several None (Some it) = true
may_stand several (Some seen) (Some it) = same_type seen it

-- which type was seen behind one more
abbrev pub seen_after : Option ValueType → Option ValueType → Option ValueType
seen_after None it = it
seen_after (Some seen) it = Some seen

-- why an operand may not stand there: its type comes before its range
abbrev pub operand_refusal : List Column → Bool → Option ValueType → Operand → Option Refusal
operand_refusal columns several seen it = cond (may_stand several seen (type_of columns it)) (operand_range it) (Some WrongType)

-- why the first of the terms that may not, from the left, may not stand there
abbrev pub terms_refusal : List Column → Option ValueType → List Term → Option Refusal
terms_refusal columns seen [] = None
terms_refusal columns seen (it ∷ rest) = first_of_two (operand_refusal columns true seen it.operand) (terms_refusal columns (seen_after seen (type_of columns it.operand)) rest)

-- which type was seen behind terms
abbrev pub seen_behind : List Column → Option ValueType → List Term → Option ValueType
seen_behind columns seen [] = seen
seen_behind columns seen (it ∷ rest) = seen_behind columns (seen_after seen (type_of columns it.operand)) rest

-- a sum has several operands
abbrev pub has_terms : List Term → Bool
has_terms [] = false
has_terms (it ∷ rest) = true

-- why a sum may not stand where this type was seen before
abbrev pub sum_refusal : List Column → Option ValueType → Sum → Option Refusal
sum_refusal columns seen sum = first_of_two (operand_refusal columns (has_terms sum.rest) seen sum.first) (terms_refusal columns (seen_after seen (type_of columns sum.first)) sum.rest)

-- which type was seen behind a sum
abbrev pub sum_seen : List Column → Option ValueType → Sum → Option ValueType
sum_seen columns seen sum = seen_behind columns (seen_after seen (type_of columns sum.first)) sum.rest

-- why a step of a condition is refused
abbrev pub step_refusal : List Column → Step → Option Refusal
step_refusal columns (step.Compare left op right) = first_of_two (sum_refusal columns None left) (sum_refusal columns (sum_seen columns None left) right)
step_refusal columns (step.IsNull sum negated) = sum_refusal columns None sum
step_refusal columns _ = None

-- why the first of the steps that is refused is
abbrev pub steps_refusal : List Column → List Step → Option Refusal
steps_refusal columns [] = None
steps_refusal columns (it ∷ rest) = first_of_two (step_refusal columns it) (steps_refusal columns rest)

-- why a condition is refused, where there is one
abbrev pub cond_refusal : List Column → Option Cond → Option Refusal
cond_refusal columns None = None
cond_refusal columns (Some cond) = steps_refusal columns cond.steps

-- why the first of the assignments that is refused is: the type of its column counts as seen before
abbrev pub sets_refusal : List Column → List Assign → Option Refusal
sets_refusal columns [] = None
sets_refusal columns (it ∷ rest) = first_of_two (sum_refusal columns (type_named columns it.column) it.sum) (sets_refusal columns rest)

-- why a literal may not stand in a column: its type comes before its range
abbrev pub value_refusal : Column → Literal → Option Refusal
value_refusal column it = cond (may_stand false (Some (type_of_kind column.kind)) (type_of_literal it)) (range_refusal it) (Some WrongType)

-- why the first of the values of a row that may not stand in its column may not
abbrev pub values_refusal : List Column → List Literal → Option Refusal
values_refusal [] values = None
values_refusal (column ∷ columns) [] = None
values_refusal (column ∷ columns) (it ∷ rest) = first_of_two (value_refusal column it) (values_refusal columns rest)

-- why the first of the rows that is refused is
abbrev pub rows_refusal : List Column → List Literals → Option Refusal
rows_refusal columns [] = None
rows_refusal columns (it ∷ rest) = first_of_two (values_refusal columns it.values) (rows_refusal columns rest)

-- each row has a value for each column
abbrev pub is_counted : List Column → Literals → Bool
is_counted columns row = length row.values == length columns
