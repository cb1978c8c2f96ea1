-- The lexeme at the front of a text.
-- (MySQL 5.7 Reference Manual, "Literal Values" and "Schema Object Names"; which of them stand here is this project's.)
use Rattle.std.specs.Prelude.{ℕ, ◌+◌, ◌==◌, ◌||◌, ◌&&◌, nat_lt, nat_le, Bool, true, false, List}
use Rattle.std.specs.Prelude.{length, take, drop, slice_index, Option, Some, None, if◌then◌else◌}
use Rattle.std.specs.Char.{is_ascii_digit, is_ascii_alphabetic, is_ascii_alphanumeric}
use Rattle.std.specs.List.{prefix_len}
use Rattle.sql_value.specs.Names.{is_name}
use Rattle.sql_text.specs.declared.keyword.Keyword.{Keyword as Word}
use Rattle.sql_text.specs.declared.lexeme.Class.{Class}
use Rattle.sql_text.specs.declared.lexeme.Class.TheVariants as class
use Rattle.sql_text.specs.declared.lexeme.Lexeme.{Lexeme}
use Rattle.sql_text.specs.declared.lexeme.Lexeme.TheVariants.{Keyword, Name, Number, Text, Sign, Minus, End, Bad, BadText}
use Rattle.sql_text.specs.declared.lexeme.Sign.{Sign as Signs}
use Rattle.sql_text.specs.declared.lexeme.Sign.TheVariants as sign
use Rattle.sql_text.specs.declared.quoted.Quoted.{Quoted}
use Rattle.sql_text.specs.declared.quoted.Quoted.TheVariants.{Closed, Faulty}
use Rattle.sql_text.specs.Keywords.{keyword_of}
use Rattle.sql_text.specs.Numbers.{number_of}
use Rattle.sql_text.specs.Quoted.{quoted_at}

-- blanks are space, tab and carriage return; letters are ASCII letters and `_`; a word has letters and digits
abbrev pub is_in : Class → ℕ → Bool
is_in class.Blank b = b == 32 || b == 9 || b == 13
is_in class.Digit b = is_ascii_digit b
is_in class.Letter b = is_ascii_alphabetic b || b == 95
is_in class.Word b = is_ascii_alphanumeric b || b == 95

-- a word that is no keyword is a name, unless it is too long
abbrev pub name_lexeme : List ℕ → Option Word → Lexeme
name_lexeme word (Some k) = Keyword k
name_lexeme word None = if is_name word then Name word else Bad

-- a word is a keyword or a name
abbrev pub word_lexeme : List ℕ → Lexeme
word_lexeme word = name_lexeme word (keyword_of word)

-- digits are a number, unless they are more than 38
abbrev pub number_lexeme : List ℕ → Lexeme
number_lexeme digits = if nat_lt 38 (length digits) then Bad else Number (number_of digits)

-- a number begins here
abbrev pub is_tight : List ℕ → Bool
is_tight bytes = nat_le 1 (prefix_len (is_in class.Digit) bytes) && nat_le (prefix_len (is_in class.Digit) bytes) 38

-- a text, or the place of its first fault, behind a quote at this place
abbrev pub quoted_lexeme : ℕ → Quoted → Lexeme × ℕ
quoted_lexeme at (Closed text len) = (Text text, len + 1)
quoted_lexeme at (Faulty len) = (BadText (at + 1 + len), len + 1)

-- the text behind a quote at this place
abbrev pub text_lexeme : ℕ → List ℕ → Lexeme × ℕ
text_lexeme at behind = quoted_lexeme at (quoted_at behind)

-- the sign that begins with `<`, by the byte behind it
abbrev pub less : ℕ → Signs × ℕ
less next = if next == 61 then (sign.LessEqual, 2) else (if next == 62 then (sign.NotEqual, 2) else (sign.Less, 1))

-- the signs of one byte: `(`, `)`, `,`, `;`, `*`, `+` and `=`
abbrev pub single : ℕ → Lexeme
single b =
    if b == 40 then Sign sign.Open else (if b == 41 then Sign sign.Close else (if b == 44 then Sign sign.Comma
    else (if b == 59 then Sign sign.Semicolon else (if b == 42 then Sign sign.Star else (if b == 43 then Sign sign.Plus
    else (if b == 61 then Sign sign.Equal else Bad))))))

-- a sign by its byte and the one behind it: `<`, `<=`, `<>`, `>`, `>=`, `!=`, or one of one byte
abbrev pub sign_lexeme : ℕ → ℕ → Lexeme × ℕ
sign_lexeme b next =
    if b == 60 then (Sign (less next).0, (less next).1)
    else (if b == 62 then (if next == 61 then (Sign sign.GreaterEqual, 2) else (Sign sign.Greater, 1))
    else (if b == 33 && next == 61 then (Sign sign.NotEqual, 2)
    else (single b, 1)))

-- the lexeme at the front of bytes that stand at this place, and how many bytes it takes: the longest there is
unfoldable pub lexeme_at : ℕ → List ℕ → Lexeme × ℕ
lexeme_at at bytes =
    let word = prefix_len (is_in class.Word) bytes in
    let digits = prefix_len (is_in class.Digit) bytes in
    let first = slice_index bytes 0 in
    if is_in class.Letter first then (word_lexeme (take word bytes), word)
    else (if is_in class.Digit first then (number_lexeme (take digits bytes), digits)
    else (if first == 39 then text_lexeme at (drop 1 bytes)
    else (if first == 45 then (Minus (is_tight (drop 1 bytes)), 1)
    else sign_lexeme first (slice_index bytes 1))))

-- no token stands behind it
abbrev pub is_last : Lexeme → Bool
is_last End = true
is_last Bad = true
is_last (BadText fault) = true
is_last _ = false
