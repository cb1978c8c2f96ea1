-- The schema that a CREATE asks for. (This project.)
use Rattle.std.specs.Prelude.{ℕ, List, [], ◌∷◌, Option, Some, None, Bool, false, cond, not, ◌&&◌, ◌||◌, option_map}
use Rattle.std.specs.Str.{bytes_eq}
use Rattle.std.specs.List.{list_any, filter_map, position}
use Rattle.row_format.specs.declared.schema.Column.{Column}
use Rattle.row_format.specs.declared.schema.Kind.{Kind}
use Rattle.row_format.specs.declared.schema.Kind.TheVariants.{BigInt, VarChar}
use Rattle.row_format.specs.declared.schema.Schema.{Schema}
use Rattle.row_format.specs.Schemas.{is_allowed, is_called}
use Rattle.engine_api.specs.Live.{allows}
use Rattle.engine_api.specs.declared.flags.Flags.{Flags}
use Rattle.sql_text.specs.declared.statement.Item.{Item}
use Rattle.sql_text.specs.declared.statement.Item.TheVariants as item
use Rattle.sql_text.specs.declared.statement.TypeName.{TypeName}
use Rattle.sql_text.specs.declared.statement.TypeName.TheVariants as name

-- the type of a column
abbrev pub kind_of : TypeName → Kind
kind_of name.BigInt = BigInt
kind_of (name.VarChar n) = VarChar n

-- the name of the key that an item names
abbrev pub key_named : Item → Option (List ℕ)
key_named (item.Column column kind null not_null key) = cond key (Some column) None
key_named (item.Key column) = Some column

-- all of them, in order
abbrev pub keys_named : List Item → List (List ℕ)
keys_named items = filter_map key_named items

-- the name is the key's
abbrev pub is_key_of : Option (List ℕ) → List ℕ → Bool
is_key_of None column = false
is_key_of (Some key) column = bytes_eq key column

-- The column of an item, where it is one: nullable unless it says NOT NULL, or is the key.
abbrev pub column_of : Option (List ℕ) → Item → Option Column
column_of key (item.Column column kind null not_null is_key) = Some (record { name = column; kind = kind_of kind; nullable = not (not_null || is_key_of key column) })
column_of key (item.Key column) = None

-- it says NULL, and NOT NULL or it is the key
abbrev pub is_torn : Option (List ℕ) → Item → Bool
is_torn key (item.Column column kind null not_null is_key) = null && (not_null || is_key_of key column)
is_torn key (item.Key column) = false

-- the place of the key among the columns: none where no key is named; not found where no column has its name
abbrev pub key_place : Option (List ℕ) → List Column → Option (Option ℕ)
key_place None columns = Some None
key_place (Some key) columns = option_map Some (position (is_called key) columns)

-- the schema of these columns with the key there, if it is one, and the engine's flags allow it
abbrev pub schema_if : Flags → List Column → Option (Option ℕ) → Option Schema
schema_if flags columns None = None
schema_if flags columns (Some key) = cond (is_allowed columns key && allows flags (record { columns = columns; key = key })) (Some (record { columns = columns; key = key })) None

-- the schema of these columns with the key of this name, or with none
abbrev pub schema_of_columns : Flags → List Column → Option (List ℕ) → Option Schema
schema_of_columns flags columns key = schema_if flags columns (key_place key columns)

-- the schema of items with this key
abbrev pub schema_with : Flags → List Item → Option (List ℕ) → Option Schema
schema_with flags items key =
    cond (list_any (is_torn key) items) None (schema_of_columns flags (filter_map (column_of key) items) key)

-- the schema of items that name these keys: none where more than one is named
abbrev pub schema_for : Flags → List Item → List (List ℕ) → Option Schema
schema_for flags items [] = schema_with flags items None
schema_for flags items (key ∷ []) = schema_with flags items (Some key)
schema_for flags items (key ∷ other ∷ keys) = None

-- the schema that a CREATE with these items asks for
abbrev pub created_schema : Flags → List Item → Option Schema
created_schema flags items = schema_for flags items (keys_named items)
