-- The lexical grammar: which bytes are which lexeme, and which tokens a text has.
-- (MySQL 5.7 Reference Manual, "Literal Values" and "Schema Object Names"; which of them stand here, that any other backslash is
-- a fault, and that the text ends at the first byte that is no UTF-8 are this project's.)
use Rattle.std.specs.Prelude.{◌≡◌, ℕ, ◌+◌, ◌==◌, true, false, List, [], ◌∷◌, ◌++◌, length, take, slice_index, Some, None}
use Rattle.std.specs.Str.Lossy.{utf8_valid_len}
use Rattle.sql_text.specs.declared.lexeme.Class.{Class}
use Rattle.sql_text.specs.declared.lexeme.Class.TheVariants.{Blank, Digit, Letter, Word}
use Rattle.sql_text.specs.declared.lexeme.Lexeme.{Lexeme}
use Rattle.sql_text.specs.declared.lexeme.Lexeme.TheVariants.{Text, Minus, BadText}
use Rattle.sql_text.specs.declared.token.Token.{Token}
use Rattle.sql_text.specs.Lexemes.{is_in, is_last, is_tight, number_lexeme, sign_lexeme, word_lexeme}
use Rattle.sql_text.specs.Quoted.{escape_of}
use Rattle.sql_text.specs.Tokens.{ending, token}

-- each byte is of the class
abbrev pub AreIn : Class → List ℕ → Type 0
AreIn class [] = Unit {0}
AreIn class (b ∷ bs) = (is_in class b ≡ true) × AreIn class bs

-- no byte of the class stands at the front
abbrev pub BeginsOther : Class → List ℕ → Type 0
BeginsOther class [] = Unit {0}
BeginsOther class (b ∷ bs) = is_in class b ≡ false

-- no quote stands at the front
abbrev pub BeginsNoQuote : List ℕ → Type 0
BeginsNoQuote [] = Unit {0}
BeginsNoQuote (b ∷ bs) = (b == 39) ≡ false

-- what is written between two quotes, and the bytes that it stands for
pub data IsWritten : List ℕ → List ℕ → Type 0 where
  nothing : IsWritten [] []
  -- a byte that is no quote and no backslash stands for itself
  plain : (b : ℕ) (written text : List ℕ) → (b == 39) ≡ false → (b == 92) ≡ false → IsWritten written text → IsWritten (b ∷ written) (b ∷ text)
  -- two quotes stand for one
  doubled : (written text : List ℕ) → IsWritten written text → IsWritten (39 ∷ 39 ∷ written) (39 ∷ text)
  -- a backslash, and a letter for a byte
  escaped : (letter b : ℕ) (written text : List ℕ) → escape_of letter ≡ Some b → IsWritten written text → IsWritten (92 ∷ letter ∷ written) (b ∷ text)

-- no letter for a byte stands at the front
abbrev pub BeginsNoEscape : List ℕ → Type 0
BeginsNoEscape [] = Unit {0}
BeginsNoEscape (b ∷ bs) = escape_of b ≡ None

-- nothing goes on in a text: it is not closed, or a backslash stands here with no letter for a byte
abbrev pub IsFaulty : List ℕ → Type 0
IsFaulty [] = Unit {0}
IsFaulty (b ∷ bs) = (b ≡ 92) × BeginsNoEscape bs

-- the bytes at this place are this lexeme, before what stands behind them
pub data IsLexeme (at : ℕ) : List ℕ → List ℕ → Lexeme → Type 0 where
  -- a word: as many letters and digits as there are, a letter first
  word : (b : ℕ) (bs behind : List ℕ) → is_in Letter b ≡ true → AreIn Word (b ∷ bs) → BeginsOther Word behind → IsLexeme at (b ∷ bs) behind (word_lexeme (b ∷ bs))
  -- a number: as many digits as there are
  number : (b : ℕ) (bs behind : List ℕ) → AreIn Digit (b ∷ bs) → BeginsOther Digit behind → IsLexeme at (b ∷ bs) behind (number_lexeme (b ∷ bs))
  -- a text between two quotes
  text : (written bytes behind : List ℕ) → IsWritten written bytes → BeginsNoQuote behind → IsLexeme at (39 ∷ (written ++ 39 ∷ [])) behind (Text bytes)
  -- a text with a fault in it
  faulty : (written bytes fault : List ℕ) → IsWritten written bytes → IsFaulty fault → IsLexeme at (39 ∷ (written ++ fault)) [] (BadText (at + 1 + length written))
  -- a `-`, before a number or not
  minus : (behind : List ℕ) → IsLexeme at (45 ∷ []) behind (Minus (is_tight behind))
  -- any other sign of one or two bytes
  sign : (b : ℕ) (bs behind : List ℕ) (lexeme : Lexeme) → is_in Letter b ≡ false → is_in Digit b ≡ false → (b == 39) ≡ false → (b == 45) ≡ false
      → sign_lexeme b (slice_index (bs ++ behind) 0) ≡ (lexeme, length (b ∷ bs)) → IsLexeme at (b ∷ bs) behind lexeme

-- the bytes at this place have these tokens; `ending` stands behind them
pub data HasTokens (ending : Lexeme) : ℕ → List ℕ → List Token → Type 0 where
  -- no byte is left
  ends : (at : ℕ) → HasTokens ending at [] (token at ending ∷ [])
  -- a blank is no token
  blank : (at b : ℕ) (bs : List ℕ) (ts : List Token) → is_in Blank b ≡ true → HasTokens ending (at + 1) bs ts → HasTokens ending at (b ∷ bs) ts
  -- a token, and those behind it
  more : (at b : ℕ) (bs behind : List ℕ) (lexeme : Lexeme) (ts : List Token) → is_in Blank b ≡ false → IsLexeme at (b ∷ bs) behind lexeme → is_last lexeme ≡ false
      → HasTokens ending (at + length (b ∷ bs)) behind ts → HasTokens ending at ((b ∷ bs) ++ behind) (token at lexeme ∷ ts)
  -- a token that no token stands behind
  last : (at b : ℕ) (bs behind : List ℕ) (lexeme : Lexeme) → is_in Blank b ≡ false → IsLexeme at (b ∷ bs) behind lexeme → is_last lexeme ≡ true
      → HasTokens ending at ((b ∷ bs) ++ behind) (token at lexeme ∷ [])

-- the text has these tokens: those of its bytes up to the first that is no UTF-8
abbrev pub AreTokens : List ℕ → List Token → Type 0
AreTokens bytes tokens = HasTokens (ending (utf8_valid_len bytes == length bytes)) 0 (take (utf8_valid_len bytes) bytes) tokens
