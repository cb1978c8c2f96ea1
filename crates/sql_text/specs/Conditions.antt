-- Conditions, as lists of lexemes, and their steps: NOT binds most, then AND, then OR.
-- (MySQL 5.7 Reference Manual, "Logical Operators", "Comparison Functions and Operators" and "Operator Precedence", of which these
-- are here; that a condition in parentheses is a member by itself is this project's)
use Rattle.std.specs.Prelude.{◌≡◌, ℕ, suc, nat_lt, Bool, true, false, List, [], ◌∷◌, ◌++◌, Option, Some, None, if◌then◌else◌}
use Rattle.sql_text.specs.declared.keyword.Keyword.TheVariants as words
use Rattle.sql_text.specs.declared.lexeme.Lexeme.{Lexeme}
use Rattle.sql_text.specs.declared.lexeme.Lexeme.TheVariants.{Keyword, Sign}
use Rattle.sql_text.specs.declared.lexeme.Sign.{Sign as Signs}
use Rattle.sql_text.specs.declared.lexeme.Sign.TheVariants as signs
use Rattle.sql_text.specs.declared.statement.Cond.{Cond}
use Rattle.sql_text.specs.declared.statement.Op.{Op}
use Rattle.sql_text.specs.declared.statement.Op.TheVariants as ops
use Rattle.sql_text.specs.declared.statement.Step.{Step}
use Rattle.sql_text.specs.declared.statement.Step.TheVariants.{Or, And, Not, Compare, IsNull}
use Rattle.sql_text.specs.Parts.{IsSum}

-- the sign of a comparison
abbrev pub sign_of : Op → Signs
sign_of ops.Eq = signs.Equal
sign_of ops.Ne = signs.NotEqual
sign_of ops.Lt = signs.Less
sign_of ops.Le = signs.LessEqual
sign_of ops.Gt = signs.Greater
sign_of ops.Ge = signs.GreaterEqual

-- NULL, or NOT NULL
abbrev pub null_words : Bool → List Lexeme
null_words false = Keyword words.Null ∷ []
null_words true = Keyword words.Not ∷ Keyword words.Null ∷ []

-- sum = sum, sum IS NULL, sum IS NOT NULL
abbrev pub IsTest : List Lexeme → Step → Type 0
IsTest ls (Compare left op right) =
    (front : List Lexeme) × (back : List Lexeme) × (ls ≡ front ++ Sign (sign_of op) ∷ back) × IsSum front left × IsSum back right
IsTest ls (IsNull sum negated) = (front : List Lexeme) × (ls ≡ front ++ Keyword words.Is ∷ null_words negated) × IsSum front sum
IsTest ls Not = ⊥
IsTest ls (And members) = ⊥
IsTest ls (Or members) = ⊥

-- the steps of members that AND joins: those of one member are left as they are
abbrev pub joined_by_and : ℕ → List Step → List Step
joined_by_and members steps = if nat_lt 1 members then steps ++ And members ∷ [] else steps

-- the steps of members that OR joins
abbrev pub joined_by_or : ℕ → List Step → List Step
joined_by_or members steps = if nat_lt 1 members then steps ++ Or members ∷ [] else steps

-- a part of a condition: a member, so many members with AND between them, or so many of these with OR between them
pub data Part : Type 0 where
  member : Part
  ands : ℕ → Part
  ors : ℕ → Part

-- the lexemes are this part of a condition, with these steps
pub data IsPart : Part → List Lexeme → List Step → Type 0 where
  -- a test
  test : (ls : List Lexeme) (step : Step) → IsTest ls step → IsPart member ls (step ∷ [])
  -- NOT member
  negated : (ls : List Lexeme) (steps : List Step) → IsPart member ls steps → IsPart member (Keyword words.Not ∷ ls) (steps ++ Not ∷ [])
  -- ( condition )
  enclosed : (n : ℕ) (ls : List Lexeme) (steps : List Step) → IsPart (ors n) ls steps
      → IsPart member (Sign signs.Open ∷ (ls ++ Sign signs.Close ∷ [])) (joined_by_or n steps)
  -- member
  one_and : (ls : List Lexeme) (steps : List Step) → IsPart member ls steps → IsPart (ands 1) ls steps
  -- member AND members
  more_ands : (n : ℕ) (front back : List Lexeme) (first others : List Step) → IsPart member front first → IsPart (ands n) back others
      → IsPart (ands (suc n)) (front ++ Keyword words.And ∷ back) (first ++ others)
  -- members with AND
  one_or : (n : ℕ) (ls : List Lexeme) (steps : List Step) → IsPart (ands n) ls steps → IsPart (ors 1) ls (joined_by_and n steps)
  -- members with AND, OR, and further such members
  more_ors : (n k : ℕ) (front back : List Lexeme) (first others : List Step) → IsPart (ands k) front first → IsPart (ors n) back others
      → IsPart (ors (suc n)) (front ++ Keyword words.Or ∷ back) (joined_by_and k first ++ others)

-- a condition
abbrev pub IsCondition : List Lexeme → List Step → Type 0
IsCondition ls steps = (n : ℕ) × (members : List Step) × IsPart (ors n) ls members × (steps ≡ joined_by_or n members)

-- WHERE condition, or nothing
abbrev pub IsFilter : List Lexeme → Option Cond → Type 0
IsFilter ls None = ls ≡ []
IsFilter ls (Some cond) = (body : List Lexeme) × (ls ≡ Keyword words.Where ∷ body) × IsCondition body cond.steps
