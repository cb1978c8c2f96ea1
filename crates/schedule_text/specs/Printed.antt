-- How values and rows are printed. (This project.)
use Rattle.std.specs.Prelude.{ℕ, List, [], ◌∷◌, ◌++◌, ◌==◌, Option, Some, None, length, codes, flat_map, if◌then◌else◌}
use Rattle.std.specs.Fmt.{decimal, signed_decimal}
use Rattle.sql_value.specs.declared.value.Value.{Value}
use Rattle.sql_value.specs.declared.value.Value.TheVariants.{Null, Int, Text}

-- what stands behind a backslash for a byte that is escaped: a backslash, a quote, a line feed, a carriage return, a tab, byte 0
abbrev pub letter_of : ℕ → Option ℕ
letter_of byte =
    if byte == 92 then Some 92 else if byte == 39 then Some 39 else
    if byte == 10 then Some 110 else if byte == 13 then Some 114 else
    if byte == 9 then Some 116 else if byte == 0 then Some 48 else None

-- a byte with the letter that stands for it
abbrev pub escaped_as : ℕ → Option ℕ → List ℕ
escaped_as byte (Some letter) = 92 ∷ letter ∷ []
escaped_as byte None = byte ∷ []

-- a byte of a text as it is printed
abbrev pub escaped : ℕ → List ℕ
escaped byte = escaped_as byte (letter_of byte)

-- a text in single quotes
abbrev pub quoted : List ℕ → List ℕ
quoted text = 39 ∷ (flat_map escaped text ++ 39 ∷ [])

-- a value as it is printed
abbrev pub value_text : Value → List ℕ
value_text Null = codes "NULL"
value_text (Int number) = signed_decimal number
value_text (Text text) = quoted text

-- values, each behind a comma and a space
abbrev pub further_text : List Value → List ℕ
further_text values = flat_map (λ value. codes ", " ++ value_text value) values

-- the values of a row, with a comma and a space between each two
abbrev pub row_text : List Value → List ℕ
row_text [] = []
row_text (value ∷ values) = value_text value ++ further_text values

-- the line with the number of rows
abbrev pub count_line : ℕ → ℕ → List ℕ
count_line session count = decimal session ++ codes " rows " ++ decimal count ++ codes "\n"

-- the line of a row
abbrev pub row_line : ℕ → List Value → List ℕ
row_line session row = decimal session ++ codes " | " ++ row_text row ++ codes "\n"

-- the rows of a session: a line with their number, and a line for each
abbrev pub rows_text : ℕ → List (List Value) → List ℕ
rows_text session rows = count_line session (length rows) ++ flat_map (row_line session) rows
