-- INSERT. (MySQL 5.7 Reference Manual, "INSERT Statement", of which rows of literals are here)
use Rattle.std.specs.Prelude.{[], ◌∷◌, ◌++◌, Ok, Err, if◌then◌else◌}
use Rattle.sql_text.specs.declared.insert.Inserting.{Inserting as Part}
use Rattle.sql_text.specs.declared.insert.InsertDue.{InsertDue}
use Rattle.sql_text.specs.declared.insert.InsertDue.TheVariants as due
use Rattle.sql_text.specs.declared.keyword.Keyword.TheVariants as words
use Rattle.sql_text.specs.declared.lexeme.Lexeme.{Lexeme}
use Rattle.sql_text.specs.declared.lexeme.Sign.TheVariants as signs
use Rattle.sql_text.specs.declared.reading.Reading.{Reading}
use Rattle.sql_text.specs.declared.reading.Reading.TheVariants.{Inserting}
use Rattle.sql_text.specs.declared.statement.Literal.{Literal}
use Rattle.sql_text.specs.declared.statement.Literal.TheVariants.{Int}
use Rattle.sql_text.specs.declared.statement.Statement.TheVariants.{Insert}
use Rattle.sql_text.specs.declared.step.StepFault.TheVariants.{Unexpected}
use Rattle.sql_text.specs.Steps.{Step, ◌>>=◌, is_word, is_sign}
use Rattle.sql_text.specs.Sums.{is_tight, literal_in, negative_in}
use Rattle.sql_text.specs.Whole.{whole}

-- the same, and this is due
abbrev pub with_due : Part → InsertDue → Reading
with_due i next_due = Inserting (record { table = i.table; rows = i.rows; values = i.values; due = next_due })

-- one value more in the row
abbrev pub with_value : Part → Literal → Step Reading
with_value i literal = Ok (Inserting (record { table = i.table; rows = i.rows; values = i.values ++ literal ∷ []; due = due.More }))

-- the row is whole
abbrev pub with_row : Part → Step Reading
with_row i = Ok (Inserting (record { table = i.table; rows = i.rows ++ record { values = i.values } ∷ []; values = []; due = due.Rows }))

-- a literal, or a `-` directly before a number
unfoldable pub value : Part → Lexeme → Step Reading
value i l = if is_tight l then Ok (with_due i due.Number) else (do
  literal ← literal_in l
  with_value i literal)

-- the number behind a `-`
unfoldable pub number : Part → Lexeme → Step Reading
number i l = do
  n ← negative_in l
  with_value i (Int n)

-- `,` and a further value, or `)`
abbrev pub more : Part → Lexeme → Step Reading
more i l =
    if is_sign signs.Comma l then Ok (with_due i due.Value) else (if is_sign signs.Close l then with_row i else Err Unexpected)

-- `,` and a further row, or the end
abbrev pub after_row : Part → Lexeme → Step Reading
after_row i l = if is_sign signs.Comma l then Ok (with_due i due.Open) else whole (Insert i.table i.rows) l

-- what is due
abbrev pub at : Part → InsertDue → Lexeme → Step Reading
at i due.Values l = if is_word words.Values l then Ok (with_due i due.Open) else Err Unexpected
at i due.Open l = if is_sign signs.Open l then Ok (with_due i due.Value) else Err Unexpected
at i due.Value l = value i l
at i due.Number l = number i l
at i due.More l = more i l
at i due.Rows l = after_row i l

-- INSERT INTO table VALUES ( literal, literal ), ( literal, literal )
unfoldable pub next : Part → Lexeme → Step Reading
next i l = at i i.due l
