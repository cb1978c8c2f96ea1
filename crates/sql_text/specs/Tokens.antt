-- The tokens of a text. (This project.)
use Rattle.std.specs.Prelude.{ℕ, zero, suc, ◌+◌, ◌-◌, ◌==◌, Bool, true, false, List, [], ◌∷◌, length, take, if◌then◌else◌}
use Rattle.std.specs.Str.Lossy.{utf8_valid_len}
use Rattle.sql_text.specs.declared.lexeme.Class.TheVariants.{Blank}
use Rattle.sql_text.specs.declared.lexeme.Lexeme.{Lexeme}
use Rattle.sql_text.specs.declared.lexeme.Lexeme.TheVariants.{End, Bad}
use Rattle.sql_text.specs.declared.token.Token.{Token}
use Rattle.sql_text.specs.Lexemes.{is_in, lexeme_at, is_last}

-- a token: where it begins, and its lexeme
abbrev pub token : ℕ → Lexeme → Token
token at lexeme = record { at = at; lexeme = lexeme }

-- the tokens of bytes at this place, behind some that are skipped; blanks are no tokens, and nothing follows a last lexeme
abbrev pub tokens_from : Lexeme → ℕ → ℕ → List ℕ → List Token
tokens_from ending skip at [] = token at ending ∷ []
tokens_from ending (suc n) at (b ∷ bs) = tokens_from ending n (at + 1) bs
tokens_from ending zero at (b ∷ bs) =
    let found = lexeme_at at (b ∷ bs) in
    if is_in Blank b then tokens_from ending 0 (at + 1) bs
    else token at found.0 ∷ (if is_last found.0 then [] else tokens_from ending (found.1 - 1) (at + 1) bs)

-- what stands behind the bytes that are UTF-8: the end of the text, or a byte that no statement has
abbrev pub ending : Bool → Lexeme
ending true = End
ending false = Bad

-- the tokens of a text: those of its bytes up to the first that is no UTF-8
unfoldable pub tokens_of : List ℕ → List Token
tokens_of bytes =
    let sound = utf8_valid_len bytes in
    tokens_from (ending (sound == length bytes)) 0 0 (take sound bytes)
