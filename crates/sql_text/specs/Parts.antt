-- The parts of statements, as lists of lexemes: columns, literals, sums, and lists of such parts.
-- (MySQL 5.7 Reference Manual, "Literal Values" and "Arithmetic Operators", of which these are here; that a `-` directly before
-- digits belongs to the literal where an operand is due is this project's)
use Rattle.std.specs.Prelude.{◌≡◌, ◌⊎◌, ℕ, pos, neg_ℤ, Bool, true, false, List, [], ◌∷◌, ◌++◌, map}
use Rattle.std.specs.Char.{to_ascii_lowercase}
use Rattle.sql_text.specs.declared.keyword.Keyword.TheVariants as words
use Rattle.sql_text.specs.declared.lexeme.Lexeme.{Lexeme}
use Rattle.sql_text.specs.declared.lexeme.Lexeme.TheVariants.{Keyword, Name, Number, Text, Sign, Minus}
use Rattle.sql_text.specs.declared.lexeme.Sign.TheVariants as signs
use Rattle.sql_text.specs.declared.statement.Assign.{Assign}
use Rattle.sql_text.specs.declared.statement.Literal.{Literal}
use Rattle.sql_text.specs.declared.statement.Literal.TheVariants as literal
use Rattle.sql_text.specs.declared.statement.Literals.{Literals}
use Rattle.sql_text.specs.declared.statement.Operand.{Operand}
use Rattle.sql_text.specs.declared.statement.Operand.TheVariants as operand
use Rattle.sql_text.specs.declared.statement.Sum.{Sum}
use Rattle.sql_text.specs.declared.statement.Term.{Term}

-- the name of a column or a savepoint, which is folded to lower case
abbrev pub IsColumn : List Lexeme → List ℕ → Type 0
IsColumn ls column = (word : List ℕ) × (ls ≡ Name word ∷ []) × (column ≡ map to_ascii_lowercase word)

-- NULL, a number with a `-` directly before it or without, or a text
abbrev pub IsLiteral : List Lexeme → Literal → Type 0
IsLiteral ls literal.Null = ls ≡ Keyword words.Null ∷ []
IsLiteral ls (literal.Int n) =
    ((m : ℕ) × (ls ≡ Number m ∷ []) × (n ≡ pos m)) ⊎ ((m : ℕ) × (ls ≡ Minus true ∷ Number m ∷ []) × (n ≡ neg_ℤ (pos m)))
IsLiteral ls (literal.Text text) = ls ≡ Text text ∷ []

-- a literal or a column
abbrev pub IsOperand : List Lexeme → Operand → Type 0
IsOperand ls (operand.Literal x) = IsLiteral ls x
IsOperand ls (operand.Column column) = IsColumn ls column

-- `+`, or `-`, whether a number follows it directly or not
abbrev pub IsOperator : Lexeme → Bool → Type 0
IsOperator l true = (tight : Bool) × (l ≡ Minus tight)
IsOperator l false = l ≡ Sign signs.Plus

-- operators, each with its operand
abbrev pub AreTerms : List Lexeme → List Term → Type 0
AreTerms ls [] = ls ≡ []
AreTerms ls (t ∷ ts) =
    (l : Lexeme) × (front : List Lexeme) × (back : List Lexeme) × (ls ≡ l ∷ (front ++ back))
    × IsOperator l t.minus × IsOperand front t.operand × AreTerms back ts

-- operand + operand - operand
abbrev pub IsSum : List Lexeme → Sum → Type 0
IsSum ls sum =
    (front : List Lexeme) × (back : List Lexeme) × (ls ≡ front ++ back) × IsOperand front sum.first × AreTerms back sum.rest

-- column = sum
abbrev pub IsAssign : List Lexeme → Assign → Type 0
IsAssign ls assign =
    (name : List Lexeme) × (sum : List Lexeme) × (ls ≡ name ++ Sign signs.Equal ∷ sum) × IsColumn name assign.column × IsSum sum assign.sum

-- one or more members, with commas between them
abbrev pub IsList : {A : Type 0} → (List Lexeme → A → Type 0) → List Lexeme → List A → Type 0
IsList Is ls [] = ⊥
IsList Is ls (x ∷ []) = Is ls x
IsList Is ls (x ∷ y ∷ ys) =
    (front : List Lexeme) × (back : List Lexeme) × (ls ≡ front ++ Sign signs.Comma ∷ back) × Is front x × IsList Is back (y ∷ ys)

-- ( literal, literal )
abbrev pub IsRow : List Lexeme → Literals → Type 0
IsRow ls row = (body : List Lexeme) × (ls ≡ Sign signs.Open ∷ (body ++ Sign signs.Close ∷ [])) × IsList IsLiteral body row.values
