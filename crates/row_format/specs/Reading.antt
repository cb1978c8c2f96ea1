-- What stands at the front of some bytes? Each reader gives a value and what follows its spelling, or nothing.
use Rattle.std.specs.Prelude.{◌≡◌, ℕ, ℤ, zero, suc, ◌/◌, ◌%◌, List, [], ◌∷◌, length, take, drop, Option, Some, None, Bool, true, false, cond, ◌==◌, nat_le, Result, Ok, Err}
use Rattle.std.specs.Int.{w16, w64, from_le_bytes, cast_signed}
use Rattle.sql_value.specs.declared.value.Value.{Value}
use Rattle.sql_value.specs.declared.value.Value.TheVariants.{Null, Int, Text}
use Rattle.row_format.specs.declared.schema.Kind.{Kind}
use Rattle.row_format.specs.declared.schema.Kind.TheVariants.{BigInt, VarChar}
use Rattle.row_format.specs.declared.schema.Column.{Column}
use Rattle.row_format.specs.declared.schema.Schema.{Schema}
use Rattle.row_format.specs.declared.change.TableMap.{TableMap}
use Rattle.row_format.specs.declared.fault.Unread.{Unread}
use Rattle.row_format.specs.declared.fault.Unread.TheVariants.{Absent, Memory}
use Rattle.sql_value.specs.Names.{is_name}
use Rattle.row_format.specs.Schemas.{is_allowed}

infixl 10 ◌>>=◌
-- what is read next, where something was read
abbrev pub ◌>>=◌ : {A B : Type 0} → Option A → (A → Option B) → Option B
None >>= f = None
(Some x) >>= f = f x

-- the value, where the test holds
abbrev pub where_so : {A : Type 0} → Bool → A → Option A
where_so so x = cond so (Some x) None

-- nothing was read: nothing of it stands there, unless memory ran out
abbrev pub Fails : {Y : Type 0} → Unread → Option Y → Type 0
Fails Absent read = read ≡ None
Fails Memory read = Unit {0}

-- what a function of the code answered, seen by view, is what this reading gives, unless memory ran out
abbrev pub Gives : {X Y : Type 0} → (X → Y) → Result X Unread → Option Y → Type 0
Gives view (Ok x) read = read ≡ Some (view x)
Gives view (Err e) read = Fails e read

-- so many bytes
unfoldable pub piece_at : ℕ → List ℕ → Option (List ℕ × List ℕ)
piece_at n bytes = where_so (nat_le n (length bytes)) (take n bytes, drop n bytes)

-- one byte
abbrev pub byte_at : List ℕ → Option (ℕ × List ℕ)
byte_at [] = None
byte_at (byte ∷ rest) = Some (byte, rest)

-- a length byte, and so many bytes
unfoldable pub counted_at : List ℕ → Option (List ℕ × List ℕ)
counted_at bytes = do
  n ← byte_at bytes
  piece_at n.0 n.1

-- a name
unfoldable pub name_at : List ℕ → Option (List ℕ × List ℕ)
name_at bytes = do
  it ← counted_at bytes
  where_so (is_name it.0) it

-- a type by its first byte
abbrev pub kind_of : ℕ → List ℕ → Option (Kind × List ℕ)
kind_of byte rest = cond (byte == 8) (Some (BigInt, rest)) (cond (byte == 15) (byte_at rest >>= λ n. Some (VarChar n.0, n.1)) None)

-- a type
unfoldable pub kind_at : List ℕ → Option (Kind × List ℕ)
kind_at bytes = do
  byte ← byte_at bytes
  kind_of byte.0 byte.1

-- a flag
unfoldable pub flag_at : List ℕ → Option (Bool × List ℕ)
flag_at bytes = do
  byte ← byte_at bytes
  where_so (nat_le byte.0 1) (byte.0 == 1, byte.1)

-- a column
unfoldable pub column_at : List ℕ → Option (Column × List ℕ)
column_at bytes = do
  name ← name_at bytes
  kind ← kind_at name.1
  flag ← flag_at kind.1
  Some (record { name = name.0; kind = kind.0; nullable = flag.0 }, flag.1)

-- so many columns
unfoldable pub columns_at : ℕ → List ℕ → Option (List Column × List ℕ)
columns_at zero bytes = Some ([], bytes)
columns_at (suc n) bytes = do
  first ← column_at bytes
  others ← columns_at n first.1
  Some (first.0 ∷ others.0, others.1)

-- the key that a byte tells
abbrev pub key_of_byte : ℕ → Option ℕ
key_of_byte byte = cond (byte == 255) None (Some byte)

-- a schema
unfoldable pub schema_at : List ℕ → Option (Schema × List ℕ)
schema_at bytes = do
  count ← byte_at bytes
  key ← byte_at count.1
  columns ← columns_at count.0 key.1
  where_so (is_allowed columns.0 (key_of_byte key.0)) (record { columns = columns.0; key = key_of_byte key.0 }, columns.1)

-- a table map
unfoldable pub map_at : List ℕ → Option (TableMap × List ℕ)
map_at bytes = do
  table ← name_at bytes
  schema ← schema_at table.1
  Some (record { table = table.0; schema = schema.0 }, schema.1)

-- the bits of a row with so many columns, as a number
unfoldable pub bits_at : ℕ → List ℕ → Option (ℕ × List ℕ)
bits_at count bytes = cond (nat_le count 8) (byte_at bytes) (piece_at 2 bytes >>= λ it. Some (from_le_bytes w16 it.0, it.1))

-- a number of 64 bits
unfoldable pub int_at : List ℕ → Option (ℤ × List ℕ)
int_at bytes = do
  it ← piece_at 8 bytes
  Some (cast_signed w64 (from_le_bytes w64 it.0), it.1)

-- a value that is not Null, by its column's type
unfoldable pub filled_at : Kind → List ℕ → Option (Value × List ℕ)
filled_at BigInt bytes = int_at bytes >>= λ it. Some (Int it.0, it.1)
filled_at (VarChar n) bytes = counted_at bytes >>= λ it. where_so (nat_le (length it.0) n) (Text it.0, it.1)

-- a value, by its column and by whether its bit says Null
unfoldable pub value_at : Column → Bool → List ℕ → Option (Value × List ℕ)
value_at column true bytes = where_so column.nullable (Null, bytes)
value_at column false bytes = filled_at column.kind bytes

-- the values of these columns; bits tells which are Null, the first by the lowest bit, and no bit is left over
unfoldable pub values_at : List Column → ℕ → List ℕ → Option (List Value × List ℕ)
values_at [] bits bytes = where_so (bits == 0) ([], bytes)
values_at (column ∷ columns) bits bytes = do
  first ← value_at column (bits % 2 == 1) bytes
  others ← values_at columns (bits / 2) first.1
  Some (first.0 ∷ others.0, others.1)

-- a row image
unfoldable pub row_at : Schema → List ℕ → Option (List Value × List ℕ)
row_at schema bytes = do
  bits ← bits_at (length schema.columns) bytes
  values_at schema.columns bits.0 bits.1
