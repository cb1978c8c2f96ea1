-- What one lexeme is, where a statement has it. (This project.)
use Rattle.std.specs.Prelude.{◌≡◌, ℕ, Bool, true, false, List, map, Result, Ok, Err}
use Rattle.std.specs.Char.{to_ascii_lowercase, to_ascii_uppercase}
use denote.Enum.Bare.{sameb}
use Rattle.sql_text.specs.contracts.keyword.Keyword.{the_type as keyword_type}
use Rattle.sql_text.specs.contracts.lexeme.Sign.{the_type as sign_type}
use Rattle.sql_text.specs.declared.keyword.Keyword.{Keyword as Words}
use Rattle.sql_text.specs.declared.lexeme.Sign.{Sign as Signs}
use Rattle.sql_text.specs.declared.lexeme.Lexeme.{Lexeme}
use Rattle.sql_text.specs.declared.lexeme.Lexeme.TheVariants.{Keyword, Name, Text, Sign, End, BadText}
use Rattle.sql_text.specs.declared.step.StepFault.{StepFault}
use Rattle.sql_text.specs.declared.step.StepFault.TheVariants.{Unexpected, InText, Memory}

-- what one step reads, or why it reads nothing
abbrev pub Step : Type 0 → Type 0
Step A = Result A StepFault

infixl 10 ◌>>=◌
-- one step, and then another with what it read
abbrev pub ◌>>=◌ : {A B : Type 0} → Step A → (A → Step B) → Step B
(Ok x) >>= f = f x
(Err e) >>= f = Err e

-- a fault of a call is the fault of the step, but for want of memory, which may come at any time
abbrev pub Fails : {A : Type 0} → StepFault → Step A → Type 0
Fails Memory step = Unit {0}
Fails Unexpected step = step ≡ Err Unexpected
Fails InText step = step ≡ Err InText

-- a call returns what the step reads, or its fault, or finds no memory
abbrev pub Gives : {A : Type 0} → Step A → Step A → Type 0
Gives (Ok x) step = step ≡ Ok x
Gives (Err e) step = Fails e step

-- the two are the same word
unfoldable pub same_keyword : Words → Words → Bool
same_keyword = sameb keyword_type

-- the two are the same sign
unfoldable pub same_sign : Signs → Signs → Bool
same_sign = sameb sign_type

-- it is this word
abbrev pub is_word : Words → Lexeme → Bool
is_word wanted (Keyword other) = same_keyword other wanted
is_word wanted _ = false

-- it is this sign
abbrev pub is_sign : Signs → Lexeme → Bool
is_sign wanted (Sign other) = same_sign other wanted
is_sign wanted _ = false

-- it is the end of the text
abbrev pub is_end : Lexeme → Bool
is_end End = true
is_end _ = false

-- a name, as it is written
unfoldable pub name_in : Lexeme → Step (List ℕ)
name_in (Name name) = Ok name
name_in _ = Err Unexpected

-- the name of a column or a savepoint, in lower case
unfoldable pub column_in : Lexeme → Step (List ℕ)
column_in lexeme = do
  name ← name_in lexeme
  Ok (map to_ascii_lowercase name)

-- the name of an engine, in upper case
unfoldable pub engine_in : Lexeme → Step (List ℕ)
engine_in lexeme = do
  name ← name_in lexeme
  Ok (map to_ascii_uppercase name)

-- a text
unfoldable pub text_in : Lexeme → Step (List ℕ)
text_in (Text text) = Ok text
text_in (BadText fault) = Err InText
text_in _ = Err Unexpected
