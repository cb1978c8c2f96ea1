-- Literals, operands and sums.
-- (MySQL 5.7 Reference Manual, "Literal Values" and "Arithmetic Operators", of which these are here; that a `-` directly before
-- digits belongs to the literal where an operand is due is this project's)
use Rattle.std.specs.Prelude.{ℤ, pos, neg_ℤ, Bool, true, false, [], ◌∷◌, ◌++◌, Option, Some, None, Ok, Err, if◌then◌else◌}
use Rattle.sql_text.specs.declared.keyword.Keyword.TheVariants as words
use Rattle.sql_text.specs.declared.lexeme.Lexeme.{Lexeme}
use Rattle.sql_text.specs.declared.lexeme.Lexeme.TheVariants as lexeme
use Rattle.sql_text.specs.declared.lexeme.Sign.TheVariants as signs
use Rattle.sql_text.specs.declared.statement.Literal.{Literal as Literals}
use Rattle.sql_text.specs.declared.statement.Literal.TheVariants.{Null, Int, Text}
use Rattle.sql_text.specs.declared.statement.Operand.{Operand}
use Rattle.sql_text.specs.declared.statement.Operand.TheVariants.{Literal, Column}
use Rattle.sql_text.specs.declared.statement.Sum.{Sum}
use Rattle.sql_text.specs.declared.step.StepFault.TheVariants.{Unexpected}
use Rattle.sql_text.specs.declared.sum.Summing.{Summing}
use Rattle.sql_text.specs.declared.sum.Summing.TheVariants.{First, FirstNumber, Ready, Next, NextNumber}
use Rattle.sql_text.specs.declared.sum.SumStep.{SumStep}
use Rattle.sql_text.specs.declared.sum.SumStep.TheVariants.{Goes, Ends}
use Rattle.sql_text.specs.Steps.{Step, ◌>>=◌, is_word, is_sign, column_in, text_in}

-- it is a `-`
abbrev pub is_minus : Lexeme → Bool
is_minus (lexeme.Minus tight) = true
is_minus _ = false

-- it is a `-` directly before a number
abbrev pub is_tight : Lexeme → Bool
is_tight (lexeme.Minus tight) = tight
is_tight _ = false

-- it is a name
abbrev pub is_name : Lexeme → Bool
is_name (lexeme.Name name) = true
is_name _ = false

-- a number
abbrev pub positive_in : Lexeme → Option ℤ
positive_in (lexeme.Number n) = Some (pos n)
positive_in _ = None

-- the number behind a `-`
abbrev pub negative_in : Lexeme → Step ℤ
negative_in (lexeme.Number n) = Ok (neg_ℤ (pos n))
negative_in _ = Err Unexpected

-- a text, as a literal
abbrev pub text_literal : Lexeme → Step Literals
text_literal l = do
  text ← text_in l
  Ok (Text text)

-- a number, or else a text
abbrev pub number_or_text : Option ℤ → Lexeme → Step Literals
number_or_text (Some n) l = Ok (Int n)
number_or_text None l = text_literal l

-- a literal: NULL, a number or a text
unfoldable pub literal_in : Lexeme → Step Literals
literal_in l = if is_word words.Null l then Ok Null else number_or_text (positive_in l) l

-- a column, as an operand
abbrev pub column_operand : Lexeme → Step Operand
column_operand l = do
  column ← column_in l
  Ok (Column column)

-- a literal, as an operand
abbrev pub literal_operand : Lexeme → Step Operand
literal_operand l = do
  literal ← literal_in l
  Ok (Literal literal)

-- an operand: a column or a literal
unfoldable pub operand_in : Lexeme → Step Operand
operand_in l = if is_name l then column_operand l else literal_operand l

-- the operand of a number behind a `-`
unfoldable pub negative_operand : Lexeme → Step Operand
negative_operand l = do
  n ← negative_in l
  Ok (Literal (Int n))

-- the sum goes on
abbrev pub goes : Summing → SumStep
goes summing = Goes summing

-- a sum of one operand
abbrev pub first : Operand → SumStep
first operand = goes (Ready (record { first = operand; rest = [] }))

-- a sum with one operand more
abbrev pub more : Sum → Bool → Operand → Step SumStep
more sum minus operand = Ok (goes (Ready (record { first = sum.first; rest = sum.rest ++ record { minus = minus; operand = operand } ∷ [] })))

-- `+` or `-` goes on with a whole sum, and any other lexeme ends it
abbrev pub after_sum : Sum → Lexeme → SumStep
after_sum sum l =
    if is_sign signs.Plus l then goes (Next sum false) else (if is_minus l then goes (Next sum true) else Ends sum)

-- the first operand, behind no `-`
abbrev pub first_operand : Lexeme → Step SumStep
first_operand l = do
  operand ← operand_in l
  Ok (first operand)

-- the first operand, a number behind a `-`
abbrev pub first_number : Lexeme → Step SumStep
first_number l = do
  operand ← negative_operand l
  Ok (first operand)

-- a further operand, behind no `-`
abbrev pub next_operand : Sum → Bool → Lexeme → Step SumStep
next_operand sum minus l = do
  operand ← operand_in l
  more sum minus operand

-- a further operand, a number behind a `-`
abbrev pub next_number : Sum → Bool → Lexeme → Step SumStep
next_number sum minus l = do
  operand ← negative_operand l
  more sum minus operand

-- operand + operand - operand, from the left
unfoldable pub sum_step : Summing → Lexeme → Step SumStep
sum_step First l = if is_tight l then Ok (goes FirstNumber) else first_operand l
sum_step FirstNumber l = first_number l
sum_step (Ready sum) l = Ok (after_sum sum l)
sum_step (Next sum minus) l = if is_tight l then Ok (goes (NextNumber sum minus)) else next_operand sum minus l
sum_step (NextNumber sum minus) l = next_number sum minus l
