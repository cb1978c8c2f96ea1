-- SELECT, up to its condition. (MySQL 5.7 Reference Manual, "SELECT Statement", of which columns of one table are here)
use Rattle.std.specs.Prelude.{[], ◌∷◌, ◌++◌, Some, None, Ok, Err, if◌then◌else◌}
use Rattle.sql_text.specs.declared.filter.Head.TheVariants as head
use Rattle.sql_text.specs.declared.keyword.Keyword.TheVariants as words
use Rattle.sql_text.specs.declared.lexeme.Lexeme.{Lexeme}
use Rattle.sql_text.specs.declared.lexeme.Sign.TheVariants as signs
use Rattle.sql_text.specs.declared.reading.Reading.{Reading}
use Rattle.sql_text.specs.declared.reading.Reading.TheVariants.{Selecting, Head}
use Rattle.sql_text.specs.declared.select.Selecting.{Selecting as Part}
use Rattle.sql_text.specs.declared.select.SelectDue.{SelectDue}
use Rattle.sql_text.specs.declared.select.SelectDue.TheVariants as due
use Rattle.sql_text.specs.declared.step.StepFault.TheVariants.{Unexpected}
use Rattle.sql_text.specs.Steps.{Step, ◌>>=◌, is_word, is_sign, name_in, column_in}

-- the same, and this is due
abbrev pub with_due : Part → SelectDue → Reading
with_due s next_due = Selecting (record { columns = s.columns; due = next_due })

-- a column
unfoldable pub column : Part → Lexeme → Step Reading
column s l = do
  name ← column_in l
  Ok (Selecting (record { columns = s.columns ++ name ∷ []; due = due.More }))

-- `*`, or a column
abbrev pub columns : Part → Lexeme → Step Reading
columns s l = if is_sign signs.Star l then Ok (with_due s due.AllFrom) else column s l

-- `,` and a further column, or FROM
abbrev pub more : Part → Lexeme → Step Reading
more s l =
    if is_sign signs.Comma l then Ok (with_due s due.Column) else (if is_word words.From l then Ok (with_due s due.Table) else Err Unexpected)

-- FROM
abbrev pub all_from : Part → Lexeme → Step Reading
all_from s l = if is_word words.From l then Ok (with_due s due.AllTable) else Err Unexpected

-- the table, for these columns
unfoldable pub table : Part → Lexeme → Step Reading
table s l = do
  name ← name_in l
  Ok (Head (head.Select name (Some s.columns)))

-- the table, for all columns
unfoldable pub all_table : Lexeme → Step Reading
all_table l = do
  name ← name_in l
  Ok (Head (head.Select name None))

-- what is due
abbrev pub at : Part → SelectDue → Lexeme → Step Reading
at s due.Columns l = columns s l
at s due.Column l = column s l
at s due.More l = more s l
at s due.AllFrom l = all_from s l
at s due.AllTable l = all_table l
at s due.Table l = table s l

-- SELECT * FROM table, SELECT column, column FROM table
unfoldable pub next : Part → Lexeme → Step Reading
next s l = at s s.due l
