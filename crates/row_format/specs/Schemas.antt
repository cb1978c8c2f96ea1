-- When are two schemas the same, and which columns and key are a schema? (This project.)
use Rattle.std.specs.Prelude.{ℕ, ◌+◌, List, [], ◌∷◌, length, Option, Some, None, Bool, true, false, cond, not, ◌&&◌, ◌==◌, nat_le, slice_get, IsTrue, All, sum_by}
use Rattle.std.specs.Str.{bytes_eq}
use Rattle.std.specs.List.{list_any, list_all}
use Rattle.std.specs.Cmp.Lexicographic.{pointwise}
use Rattle.row_format.specs.declared.schema.Kind.{Kind}
use Rattle.row_format.specs.declared.schema.Kind.TheVariants.{BigInt, VarChar}
use Rattle.row_format.specs.declared.schema.Column.{Column}
use Rattle.row_format.specs.declared.schema.Schema.{Schema}
use Rattle.row_format.specs.declared.change.TableMap.{TableMap}
use Rattle.sql_value.specs.Names.{IsName}

-- the two types of columns are the same
abbrev pub same_kind : Kind → Kind → Bool
same_kind BigInt BigInt = true
same_kind (VarChar m) (VarChar n) = m == n
same_kind _ _ = false

-- the two flags are the same
abbrev pub same_flag : Bool → Bool → Bool
same_flag true b = b
same_flag false b = not b

-- the two columns are the same
abbrev pub same_column : Column → Column → Bool
same_column a b = bytes_eq a.name b.name && same_kind a.kind b.kind && same_flag a.nullable b.nullable

-- the same key column, or none twice
abbrev pub same_key : Option ℕ → Option ℕ → Bool
same_key None None = true
same_key (Some a) (Some b) = a == b
same_key _ _ = false

-- the two schemas are the same
abbrev pub same_schema : Schema → Schema → Bool
same_schema a b = pointwise same_column a.columns b.columns && same_key a.key b.key

-- the two table maps are equal: one table, with one schema
abbrev pub same_map : TableMap → TableMap → Bool
same_map a b = bytes_eq a.table b.table && same_schema a.schema b.schema

-- the column has this name
abbrev pub is_called : List ℕ → Column → Bool
is_called name column = bytes_eq name column.name

-- no two columns have one name
abbrev pub are_distinct : List Column → Bool
are_distinct [] = true
are_distinct (it ∷ rest) = not (list_any (is_called it.name) rest) && are_distinct rest

-- a text of this type has room for 1 to 255 bytes
abbrev pub is_roomy : Kind → Bool
is_roomy BigInt = true
is_roomy (VarChar n) = nat_le 1 n && nat_le n 255

-- a text column has room for 1 to 255 bytes
abbrev pub has_room : Column → Bool
has_room column = is_roomy column.kind

-- there is such a column, and it is not nullable
abbrev pub is_required : Option Column → Bool
is_required None = false
is_required (Some column) = not column.nullable

-- the key, where there is one, is a column that is not nullable
abbrev pub is_key : List Column → Option ℕ → Bool
is_key columns None = true
is_key columns (Some place) = is_required (slice_get columns place)

-- how many bytes the bits of a row with so many columns have: one for up to 8, else two
abbrev pub bits_len : ℕ → ℕ
bits_len count = cond (nat_le count 8) 1 2

-- the most bytes that a value of this type has in a row image
abbrev pub greatest : Kind → ℕ
greatest BigInt = 8
greatest (VarChar n) = 1 + n

-- the most bytes that a row image has
abbrev pub greatest_image : List Column → ℕ
greatest_image columns = bits_len (length columns) + sum_by (λ it. greatest it.kind) columns

-- different names, VARCHARs of length 1 to 255, and a key that may be one
abbrev pub is_well_made : List Column → Option ℕ → Bool
is_well_made columns key = are_distinct columns && list_all has_room columns && is_key columns key

-- 1 to 16 columns that are well made, with row images of at most 2,000 bytes
abbrev pub is_allowed : List Column → Option ℕ → Bool
is_allowed columns key = nat_le 1 (length columns) && nat_le (length columns) 16 && is_well_made columns key && nat_le (greatest_image columns) 2000

-- a schema whose names are names, and that is allowed
pub record IsSchema (schema : Schema) : Type 0 where
  pub named : All (λ it. IsName it.name) schema.columns
  pub allowed : IsTrue (is_allowed schema.columns schema.key)
