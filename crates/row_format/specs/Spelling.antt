-- How is a name, a schema or a row spelt in a file? (This project.)
use Rattle.std.specs.Prelude.{Result, Ok, Err, ◌≡◌, ◌≤◌, All, ℕ, ◌+◌, ◌*◌, List, [], ◌∷◌, ◌++◌, length, drop, Option, Some, None, Bool, cond, nat_le}
use Rattle.std.specs.Int.{w64, cast_unsigned}
use Rattle.std.specs.List.{flat_map}
use Rattle.std.specs.declared.alloc.AllocError.{AllocError}
use Rattle.frame_codec.specs.Bytes.{le16, le64}
use Rattle.framed_file.specs.Framed.{IsPrefix}
use Rattle.sql_value.specs.declared.value.Value.{Value}
use Rattle.sql_value.specs.declared.value.Value.TheVariants.{Null, Int, Text}
use Rattle.row_format.specs.declared.schema.Kind.{Kind}
use Rattle.row_format.specs.declared.schema.Kind.TheVariants.{BigInt, VarChar}
use Rattle.row_format.specs.declared.schema.Column.{Column}
use Rattle.row_format.specs.declared.schema.Schema.{Schema}
use Rattle.row_format.specs.declared.change.TableMap.{TableMap}

-- the bytes begin with this text, and what follows it is the rest
abbrev pub Takes : List ℕ → List ℕ → List ℕ → Type 0
Takes bytes text rest = bytes ≡ text ++ rest

-- the bytes begin with this text, which has so many of them
pub record Begins (bytes text : List ℕ) (count : ℕ) : Type 0 where
  pub takes : Takes bytes text (drop count bytes)
  pub len : count ≡ length text

-- a length byte, and so many bytes: a name, or a text in a row
abbrev pub counted : List ℕ → List ℕ
counted bytes = length bytes ∷ bytes

-- the type of a column: 8, or 15 with the greatest length (MySQL's numbers of the two types)
abbrev pub kind_spelling : Kind → List ℕ
kind_spelling BigInt = 8 ∷ []
kind_spelling (VarChar n) = 15 ∷ n ∷ []

-- 1 where it is so, else 0
abbrev pub flag_byte : Bool → ℕ
flag_byte is = cond is 1 0

-- name, type, and whether it is nullable
abbrev pub column_spelling : Column → List ℕ
column_spelling column = counted column.name ++ kind_spelling column.kind ++ flag_byte column.nullable ∷ []

-- the key column's place, or 255
abbrev pub key_byte : Option ℕ → ℕ
key_byte None = 255
key_byte (Some place) = place

-- number of columns, key, and the columns
abbrev pub schema_spelling : Schema → List ℕ
schema_spelling schema = length schema.columns ∷ key_byte schema.key ∷ flat_map column_spelling schema.columns

-- table name and schema
abbrev pub map_spelling : TableMap → List ℕ
map_spelling map = counted map.table ++ schema_spelling map.schema

-- 1 for Null
abbrev pub null_bit : Value → ℕ
null_bit Null = 1
null_bit _ = 0

-- one bit for each column, the first the lowest: 1 where the value is Null
abbrev pub null_bits : List Value → ℕ
null_bits [] = 0
null_bits (it ∷ rest) = null_bit it + 2 * null_bits rest

-- these bits in one byte for up to 8 columns, else in two, the lowest bits first
abbrev pub bits_spelling : List Value → List ℕ
bits_spelling row = cond (nat_le (length row) 8) (null_bits row ∷ []) (le16 (null_bits row))

-- nothing for Null, a number's eight bytes in two's complement, or a text behind its length
abbrev pub value_spelling : Value → List ℕ
value_spelling Null = []
value_spelling (Int n) = le64 (cast_unsigned w64 n)
value_spelling (Text t) = counted t

-- A row image: the bits that tell which values are Null, and the other values in column order.
abbrev pub row_image : List Value → List ℕ
row_image row = bits_spelling row ++ flat_map value_spelling row

-- the value's spelling is bytes: a text has at most 255
abbrev pub IsShort : Value → Type 0
IsShort (Text t) = length t ≤ 255
IsShort _ = Unit {0}

-- the row has an image: at most 16 values, each with a spelling
pub record HasImage (row : List Value) : Type 0 where
  pub few : length row ≤ 16
  pub short : All IsShort row

-- after Ok the text was added at the end; after want of memory what was there still stands in front
abbrev pub Adds : Result Unit AllocError → List ℕ → List ℕ → List ℕ → Type 0
Adds (Ok _) old new text = new ≡ old ++ text
Adds (Err _) old new text = IsPrefix old new
