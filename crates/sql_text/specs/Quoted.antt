-- Texts in quotes.
-- (MySQL 5.7 Reference Manual, "String Literals"; that any other backslash is a fault is this project's.)
use Rattle.std.specs.Prelude.{ℕ, zero, suc, ◌+◌, ◌-◌, ◌==◌, ◌||◌, ◌≤◌, List, [], ◌∷◌, Option, Some, None, if◌then◌else◌}
use Rattle.sql_text.specs.declared.quoted.Piece.{Piece}
use Rattle.sql_text.specs.declared.quoted.Piece.TheVariants.{Byte, End, Fault}
use Rattle.sql_text.specs.declared.quoted.Quoted.{Quoted}
use Rattle.sql_text.specs.declared.quoted.Quoted.TheVariants.{Closed, Faulty}

-- the byte that a letter behind a backslash stands for: 39, 34 and 92 for themselves, n, r, t and 0
abbrev pub escape_of : ℕ → Option ℕ
escape_of b =
    if b == 39 || b == 34 || b == 92 then Some b else (if b == 110 then Some 10 else (if b == 114 then Some 13
    else (if b == 116 then Some 9 else (if b == 48 then Some 0 else None))))

-- two bytes that stand for one, or a fault
abbrev pub escaped_piece : Option ℕ → Piece
escaped_piece None = Fault
escaped_piece (Some b) = Byte b 2

-- a quote ends the text, and a backslash is a fault, unless a second byte goes with it; another byte stands for itself
abbrev pub piece_at : List ℕ → Piece
piece_at [] = Fault
piece_at (b ∷ []) = if b == 39 then End else (if b == 92 then Fault else Byte b 1)
piece_at (b ∷ c ∷ bs) =
    if b == 39 then (if c == 39 then Byte 39 2 else End)
    else (if b == 92 then escaped_piece (escape_of c) else Byte b 1)

-- how many bytes a piece takes
abbrev pub piece_len : Piece → ℕ
piece_len (Byte b n) = n
piece_len End = 1
piece_len Fault = 0

-- a byte of the text takes at least one
abbrev pub MovesOn : Piece → Type 0
MovesOn (Byte b n) = 1 ≤ n
MovesOn End = Unit {0}
MovesOn Fault = Unit {0}

-- a byte of the text that takes n bytes, and what stands behind it
abbrev pub with_byte : ℕ → ℕ → Quoted → Quoted
with_byte b n (Closed text len) = Closed (b ∷ text) (n + len)
with_byte b n (Faulty len) = Faulty (n + len)

-- a piece, and what stands behind it
abbrev pub with_piece : Piece → Quoted → Quoted
with_piece (Byte b n) behind = with_byte b n behind
with_piece End behind = Closed [] 1
with_piece Fault behind = Faulty 0

-- the pieces from the front on, behind bytes that are skipped
abbrev pub quoted_from : ℕ → List ℕ → Quoted
quoted_from skip [] = Faulty 0
quoted_from zero (b ∷ bs) = with_piece (piece_at (b ∷ bs)) (quoted_from (piece_len (piece_at (b ∷ bs)) - 1) bs)
quoted_from (suc n) (b ∷ bs) = quoted_from n bs

-- what stands behind an opening quote: the bytes of the pieces up to the closing quote, or the place of the first fault
unfoldable pub quoted_at : List ℕ → Quoted
quoted_at bytes = quoted_from 0 bytes

-- how many bytes it takes
abbrev pub quoted_len : Quoted → ℕ
quoted_len (Closed text len) = len
quoted_len (Faulty len) = len
