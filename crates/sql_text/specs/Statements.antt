-- What a text says: a statement, or where its first fault is. (This project.)
use Rattle.std.specs.Prelude.{◌≡◌, ◌⊎◌, ℕ, ◌<◌, ◌≤◌, List, [], ◌∷◌, ◌++◌, length, map, Result, Ok, Err}
use Rattle.sql_value.specs.declared.refusal.Refusal.TheVariants.{StatementTooLong, Syntax}
use Rattle.sql_text.specs.declared.lexeme.Lexeme.{Lexeme}
use Rattle.sql_text.specs.declared.lexeme.Lexeme.TheVariants.{Text, BadText}
use Rattle.sql_text.specs.declared.parser.ParseFault.{ParseFault}
use Rattle.sql_text.specs.declared.parser.ParseFault.TheVariants as fault
use Rattle.sql_text.specs.declared.statement.Statement.{Statement}
use Rattle.sql_text.specs.declared.token.Token.{Token}
use Rattle.sql_text.specs.Forms.{IsStatement}
use Rattle.sql_text.specs.Lexis.{AreTokens}

-- the lexemes of tokens
abbrev pub lexemes_of : List Token → List Lexeme
lexemes_of tokens = map (λ t. t.lexeme) tokens

-- the text spells this statement
abbrev pub Spells : List ℕ → Statement → Type 0
Spells bytes statement = (tokens : List Token) × AreTokens bytes tokens × IsStatement (lexemes_of tokens) statement

-- some statement begins with these lexemes
abbrev pub IsFront : List Lexeme → Type 0
IsFront front = (more : List Lexeme) × (statement : Statement) × IsStatement (front ++ more) statement

-- The place of the fault at a token that no statement has there. It is where the token begins; but a text with a fault in it
-- has its own place, where a text may stand.
abbrev pub IsPlace : List Lexeme → Token → ℕ → Type 0
IsPlace front token at =
    ((at ≡ token.at) × ((place : ℕ) → token.lexeme ≡ BadText place → ¬ IsFront (front ++ Text [] ∷ [])))
    ⊎ ((token.lexeme ≡ BadText at) × IsFront (front ++ Text [] ∷ []))

-- the first token that no statement has there, and its place
pub record FaultsAt (tokens : List Token) (at : ℕ) : Type 0 where
  pub front : List Token
  pub token : Token
  pub back : List Token
  pub cut : tokens ≡ front ++ token ∷ back
  pub begun : IsFront (lexemes_of front)
  pub ends_here : ¬ IsFront (lexemes_of front ++ token.lexeme ∷ [])
  pub place : IsPlace (lexemes_of front) token at

-- the text has a fault, and it is at this place
abbrev pub HasFault : List ℕ → ℕ → Type 0
HasFault bytes at = (tokens : List Token) × AreTokens bytes tokens × FaultsAt tokens at

-- Why no statement is read: the text is too long, or has its fault there. Want of memory may come at any time.
abbrev pub Refuses : List ℕ → ParseFault → Type 0
Refuses bytes fault.Memory = Unit {0}
Refuses bytes (fault.Refused refusal) =
    ((refusal ≡ StatementTooLong) × (65536 < length bytes))
    ⊎ ((at : ℕ) × (refusal ≡ Syntax at) × (length bytes ≤ 65536) × HasFault bytes at)

-- the text spells this statement, or is refused for this
abbrev pub Parses : List ℕ → Result Statement ParseFault → Type 0
Parses bytes (Ok statement) = (length bytes ≤ 65536) × Spells bytes statement
Parses bytes (Err e) = Refuses bytes e
