-- Conditions.
-- (MySQL 5.7 Reference Manual, "Logical Operators", "Comparison Functions and Operators", "Operator Precedence" and "SELECT
-- Statement", of which these are here)
use Rattle.std.specs.Prelude.{ℕ, ◌+◌, nat_lt, Bool, true, false, List, [], ◌∷◌, ◌++◌, replicate, Option, Some, None, Ok, Err, if◌then◌else◌}
use Rattle.sql_text.specs.declared.filter.Filtering.{Filtering as Part}
use Rattle.sql_text.specs.declared.filter.FilterDue.{FilterDue}
use Rattle.sql_text.specs.declared.filter.FilterDue.TheVariants as due
use Rattle.sql_text.specs.declared.filter.Head.{Head}
use Rattle.sql_text.specs.declared.filter.Head.TheVariants as head
use Rattle.sql_text.specs.declared.filter.Level.{Level}
use Rattle.sql_text.specs.declared.filter.Tests.{Tests}
use Rattle.sql_text.specs.declared.keyword.Keyword.TheVariants as words
use Rattle.sql_text.specs.declared.lexeme.Lexeme.{Lexeme}
use Rattle.sql_text.specs.declared.lexeme.Lexeme.TheVariants.{Sign}
use Rattle.sql_text.specs.declared.lexeme.Sign.{Sign as Signs}
use Rattle.sql_text.specs.declared.lexeme.Sign.TheVariants as signs
use Rattle.sql_text.specs.declared.reading.Reading.{Reading}
use Rattle.sql_text.specs.declared.reading.Reading.TheVariants.{Filtering}
use Rattle.sql_text.specs.declared.statement.Cond.{Cond}
use Rattle.sql_text.specs.declared.statement.Op.{Op}
use Rattle.sql_text.specs.declared.statement.Op.TheVariants as ops
use Rattle.sql_text.specs.declared.statement.Statement.{Statement}
use Rattle.sql_text.specs.declared.statement.Statement.TheVariants as statement
use Rattle.sql_text.specs.declared.statement.Step.{Step as CondStep}
use Rattle.sql_text.specs.declared.statement.Step.TheVariants.{Or, And, Not, Compare, IsNull}
use Rattle.sql_text.specs.declared.statement.Sum.{Sum}
use Rattle.sql_text.specs.declared.step.StepFault.TheVariants.{Unexpected}
use Rattle.sql_text.specs.declared.sum.Summing.{Summing}
use Rattle.sql_text.specs.declared.sum.Summing.TheVariants.{First}
use Rattle.sql_text.specs.declared.sum.SumStep.{SumStep}
use Rattle.sql_text.specs.declared.sum.SumStep.TheVariants.{Goes, Ends}
use Rattle.sql_text.specs.Steps.{Step, ◌>>=◌, is_word, is_sign}
use Rattle.sql_text.specs.Sums.{sum_step}
use Rattle.sql_text.specs.Whole.{whole}

-- one more
abbrev pub raised : ℕ → Step ℕ
raised n = Ok (n + 1)

-- nothing has been read within a parenthesis
abbrev pub empty : Level
empty = record { ors = 0; ands = 0; nots = 0 }

-- a level before those, and the last one
abbrev pub behind_first : Level → Option (List Level × Level) → List Level × Level
behind_first x None = ([], x)
behind_first x (Some p) = (x ∷ p.0, p.1)

-- the levels but for the last, and the last
abbrev pub pop_last : List Level → Option (List Level × Level)
pop_last [] = None
pop_last (x ∷ xs) = Some (behind_first x (pop_last xs))

-- so many NOTs behind what they negate
abbrev pub with_nots : List CondStep → ℕ → Step (List CondStep)
with_nots steps nots = Ok (steps ++ replicate nots Not)

-- an AND of so many members, unless it is one
abbrev pub joined_ands : List CondStep → ℕ → Step (List CondStep)
joined_ands steps members = Ok (if nat_lt 1 members then steps ++ And members ∷ [] else steps)

-- an OR of so many members, unless it is one
abbrev pub joined_ors : List CondStep → ℕ → Step (List CondStep)
joined_ors steps members = Ok (if nat_lt 1 members then steps ++ Or members ∷ [] else steps)

-- a NOT before the member that is due
unfoldable pub with_not : Tests → Step Tests
with_not t = do
  nots ← raised t.level.nots
  Ok (record { steps = t.steps; outer = t.outer; level = record { ors = t.level.ors; ands = t.level.ands; nots = nots } })

-- a parenthesis opens
abbrev pub opened : Tests → Step Tests
opened t = Ok (record { steps = t.steps; outer = t.outer ++ t.level ∷ []; level = empty })

-- a member is whole with its NOTs
unfoldable pub with_member : Tests → Step Tests
with_member t = do
  steps ← with_nots t.steps t.level.nots
  ands ← raised t.level.ands
  Ok (record { steps = steps; outer = t.outer; level = record { ors = t.level.ors; ands = ands; nots = 0 } })

-- a test is a member
unfoldable pub with_test : Tests → CondStep → Step Tests
with_test t step = with_member (record { steps = t.steps ++ step ∷ []; outer = t.outer; level = t.level })

-- the AND is whole, and a member of the OR
unfoldable pub with_and : Tests → Step Tests
with_and t = do
  steps ← joined_ands t.steps t.level.ands
  ors ← raised t.level.ors
  Ok (record { steps = steps; outer = t.outer; level = record { ors = ors; ands = 0; nots = t.level.nots } })

-- the OR is whole
unfoldable pub with_or : Tests → Step Tests
with_or t = do
  joined ← with_and t
  steps ← joined_ors joined.steps joined.level.ors
  Ok (record { steps = steps; outer = joined.outer; level = joined.level })

-- what a parenthesis held is a member of the level around it
abbrev pub member_of : List CondStep → Option (List Level × Level) → Step Tests
member_of steps (Some p) = with_member (record { steps = steps; outer = p.0; level = p.1 })
member_of steps None = Err Unexpected

-- a parenthesis closes
unfoldable pub closed : Tests → Step Tests
closed t = do
  joined ← with_or t
  member_of joined.steps (pop_last joined.outer)

-- the comparison that a sign makes
abbrev pub op_of : Signs → Option Op
op_of signs.Equal = Some ops.Eq
op_of signs.NotEqual = Some ops.Ne
op_of signs.Less = Some ops.Lt
op_of signs.LessEqual = Some ops.Le
op_of signs.Greater = Some ops.Gt
op_of signs.GreaterEqual = Some ops.Ge
op_of _ = None

-- the comparison that a lexeme makes
abbrev pub op_in : Lexeme → Option Op
op_in (Sign sign) = op_of sign
op_in _ = None

-- the statement with its condition, or with none
abbrev pub finish : Head → Option Cond → Statement
finish (head.Select table columns) cond = statement.Select table columns cond
finish (head.Update table sets) cond = statement.Update table sets cond
finish (head.Delete table) cond = statement.Delete table cond

-- what has been read, and this is due
abbrev pub with_due : Head → Tests → FilterDue → Reading
with_due h t next_due = Filtering (record { head = h; tests = t; due = next_due })

-- WHERE, or the end of the statement
abbrev pub head_next : Head → Lexeme → Step Reading
head_next h l =
    if is_word words.Where l then Ok (with_due h (record { steps = []; outer = []; level = empty }) due.Member)
    else whole (finish h None) l

-- the end of the statement behind its condition
unfoldable pub finished : Head → Tests → Lexeme → Step Reading
finished h t l = do
  joined ← with_or t
  whole (finish h (Some (record { steps = joined.steps }))) l

-- no statement ends within a parenthesis
abbrev pub at_level : Head → Tests → List Level → Lexeme → Step Reading
at_level h t [] l = finished h t l
at_level h t (x ∷ xs) l = Err Unexpected

-- the end of the statement
unfoldable pub at_end : Head → Tests → Lexeme → Step Reading
at_end h t l = at_level h t t.outer l

-- OR, behind a whole AND
abbrev pub or_next : Head → Tests → Step Reading
or_next h t = do
  joined ← with_and t
  Ok (with_due h joined due.Member)

-- `)`, behind a whole condition
abbrev pub close_next : Head → Tests → Step Reading
close_next h t = do
  joined ← closed t
  Ok (with_due h joined due.More)

-- AND, OR, `)` or the end of the statement
unfoldable pub more : Head → Tests → Lexeme → Step Reading
more h t l =
    if is_word words.And l then Ok (with_due h t due.Member) else (if is_word words.Or l then or_next h t
    else (if is_sign signs.Close l then close_next h t else at_end h t l))

-- a comparison, and its right side is due
abbrev pub op_next : Head → Tests → Sum → Option Op → Step Reading
op_next h t sum (Some op) = Ok (with_due h t (due.Right sum op First))
op_next h t sum None = Err Unexpected

-- IS or a comparison
unfoldable pub op : Head → Tests → Sum → Lexeme → Step Reading
op h t sum l = if is_word words.Is l then Ok (with_due h t (due.Is sum)) else op_next h t sum (op_in l)

-- a lexeme of the left sum, or one behind it
abbrev pub left_part : Head → Tests → Lexeme → SumStep → Step Reading
left_part h t l (Goes summing) = Ok (with_due h t (due.Left summing))
left_part h t l (Ends sum) = op h t sum l

-- the left sum
unfoldable pub left : Head → Tests → Summing → Lexeme → Step Reading
left h t summing l = sum_step summing l >>= left_part h t l

-- NOT before a member
abbrev pub not_next : Head → Tests → Step Reading
not_next h t = do
  negated ← with_not t
  Ok (with_due h negated due.Member)

-- `(` before a member
abbrev pub open_next : Head → Tests → Step Reading
open_next h t = do
  opening ← opened t
  Ok (with_due h opening due.Member)

-- NOT, `(` or the left sum of a test
unfoldable pub member : Head → Tests → Lexeme → Step Reading
member h t l =
    if is_word words.Not l then not_next h t else (if is_sign signs.Open l then open_next h t else left h t First l)

-- a test for NULL is whole
abbrev pub null_next : Head → Tests → Sum → Bool → Step Reading
null_next h t sum negated = do
  tested ← with_test t (IsNull sum negated)
  Ok (with_due h tested due.More)

-- NULL
unfoldable pub null : Head → Tests → Sum → Bool → Lexeme → Step Reading
null h t sum negated l = if is_word words.Null l then null_next h t sum negated else Err Unexpected

-- NOT or NULL, behind IS
abbrev pub is : Head → Tests → Sum → Lexeme → Step Reading
is h t sum l = if is_word words.Not l then Ok (with_due h t (due.IsNot sum)) else null h t sum false l

-- a lexeme behind a comparison
unfoldable pub compared : Head → Tests → CondStep → Lexeme → Step Reading
compared h t step l = do
  tested ← with_test t step
  more h tested l

-- a lexeme of the right sum, or one behind it
abbrev pub right_part : Head → Tests → Sum → Op → Lexeme → SumStep → Step Reading
right_part h t sum op l (Goes summing) = Ok (with_due h t (due.Right sum op summing))
right_part h t sum op l (Ends right) = compared h t (Compare sum op right) l

-- what is due
abbrev pub at : Head → Tests → FilterDue → Lexeme → Step Reading
at h t due.Member l = member h t l
at h t (due.Left summing) l = left h t summing l
at h t (due.Is sum) l = is h t sum l
at h t (due.IsNot sum) l = null h t sum true l
at h t (due.Right sum op summing) l = sum_step summing l >>= right_part h t sum op l
at h t due.More l = more h t l

-- NOT before a test or a parenthesis, AND between these, OR between those
unfoldable pub next : Part → Lexeme → Step Reading
next f l = at f.head f.tests f.due l
