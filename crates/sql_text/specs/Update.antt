-- UPDATE, up to its condition. (MySQL 5.7 Reference Manual, "UPDATE Statement", of which one table is here)
use Rattle.std.specs.Prelude.{ℕ, List, [], ◌∷◌, ◌++◌, Ok, Err, if◌then◌else◌}
use Rattle.sql_text.specs.declared.filter.Head.TheVariants as head
use Rattle.sql_text.specs.declared.lexeme.Lexeme.{Lexeme}
use Rattle.sql_text.specs.declared.lexeme.Sign.TheVariants as signs
use Rattle.sql_text.specs.declared.reading.Reading.{Reading}
use Rattle.sql_text.specs.declared.reading.Reading.TheVariants.{Updating}
use Rattle.sql_text.specs.declared.statement.Assign.{Assign}
use Rattle.sql_text.specs.declared.step.StepFault.TheVariants.{Unexpected}
use Rattle.sql_text.specs.declared.sum.Summing.TheVariants.{First}
use Rattle.sql_text.specs.declared.sum.SumStep.{SumStep}
use Rattle.sql_text.specs.declared.sum.SumStep.TheVariants.{Goes, Ends}
use Rattle.sql_text.specs.declared.update.Updating.{Updating as Part}
use Rattle.sql_text.specs.declared.update.UpdateDue.{UpdateDue}
use Rattle.sql_text.specs.declared.update.UpdateDue.TheVariants as due
use Rattle.sql_text.specs.Filter.{head_next}
use Rattle.sql_text.specs.Steps.{Step, ◌>>=◌, is_sign, column_in}
use Rattle.sql_text.specs.Sums.{sum_step}

-- what has been read, and this is due
abbrev pub with_due : List ℕ → List Assign → UpdateDue → Reading
with_due table sets next_due = Updating (record { table = table; sets = sets; due = next_due })

-- a column
unfoldable pub column : List ℕ → List Assign → Lexeme → Step Reading
column table sets l = do
  name ← column_in l
  Ok (with_due table sets (due.Equal name))

-- `=`
abbrev pub equal : List ℕ → List Assign → List ℕ → Lexeme → Step Reading
equal table sets name l = if is_sign signs.Equal l then Ok (with_due table sets (due.Sum name First)) else Err Unexpected

-- `,` and a further column, or what follows all of them
abbrev pub after_set : List ℕ → List Assign → Lexeme → Step Reading
after_set table sets l = if is_sign signs.Comma l then Ok (with_due table sets due.Column) else head_next (head.Update table sets) l

-- with this column set
abbrev pub with_set : List ℕ → List Assign → Assign → Lexeme → Step Reading
with_set table sets assign l = after_set table (sets ++ assign ∷ []) l

-- a lexeme of the sum, or one behind it
abbrev pub sum_part : List ℕ → List Assign → List ℕ → Lexeme → SumStep → Step Reading
sum_part table sets name l (Goes summing) = Ok (with_due table sets (due.Sum name summing))
sum_part table sets name l (Ends sum) = with_set table sets (record { column = name; sum = sum }) l

-- what is due
abbrev pub at : List ℕ → List Assign → UpdateDue → Lexeme → Step Reading
at table sets due.Column l = column table sets l
at table sets (due.Equal name) l = equal table sets name l
at table sets (due.Sum name summing) l = sum_step summing l >>= sum_part table sets name l

-- UPDATE table SET column = sum, column = sum
unfoldable pub next : Part → Lexeme → Step Reading
next u l = at u.table u.sets u.due l
