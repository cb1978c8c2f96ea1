-- The bytes of live tables, what a flag allows, and whether changes of two transactions meet. (This project.)
use Rattle.std.specs.Prelude.{◌≡◌, ◌≤◌, ◌+◌, ℕ, ◌==◌, List, [], ◌∷◌, ◌++◌, length, map, Option, Some, None, Bool, true, false, not, ◌&&◌, is_some, is_none, sum_by, slice_get, IsTrue}
use Rattle.std.specs.Str.{bytes_eq}
use Rattle.std.specs.List.{list_all, list_any}
use Rattle.sql_value.specs.declared.value.Value.{Value}
use Rattle.sql_value.specs.declared.value.Value.TheVariants.{Int, Text}
use Rattle.sql_value.specs.Values.{same_value}
use Rattle.row_format.specs.declared.schema.Kind.{Kind as ColumnKind}
use Rattle.row_format.specs.declared.schema.Kind.TheVariants.{BigInt, VarChar}
use Rattle.row_format.specs.declared.schema.Column.{Column}
use Rattle.row_format.specs.declared.schema.Schema.{Schema}
use Rattle.row_format.specs.declared.change.Change.{Change}
use Rattle.row_format.specs.declared.change.Change.TheVariants.{Install, Uninstall, Create, Drop, Insert, Update, Delete}
use Rattle.row_format.specs.Rows.{IsRow}
use Rattle.row_format.specs.Spelling.{counted, schema_spelling, row_image}
use Rattle.log_tables.specs.declared.table.Table.{Table}
use Rattle.log_tables.specs.Keys.{key_in, row_with}
use Rattle.log_tables.specs.Tables.{table_named}
use Rattle.log_tables.specs.Gists.{is_prepared}
use Rattle.engine_api.specs.States.{EngineState, Pending, live_tables, without_txn, changes_in, xid_by, with_change}
use Rattle.engine_api.specs.declared.flags.Flags.{Flags}
use Rattle.engine_api.specs.declared.flags.KeyRule.{KeyRule}
use Rattle.engine_api.specs.declared.flags.KeyRule.TheVariants.{Needed, Allowed, Refused}

-- how many live bytes an engine may have
abbrev pub live_limit : ℕ
live_limit = 16777216

-- the bytes of a table: of its name, its schema and the images of its rows
abbrev pub table_bytes : Table → ℕ
table_bytes it = length (counted it.definition.table) + length (schema_spelling it.definition.schema) + sum_by (λ row. length (row_image row)) it.rows

-- the bytes of tables
abbrev pub live_bytes : List Table → ℕ
live_bytes tables = sum_by table_bytes tables

-- the rule allows this key, or none
abbrev pub allows_key : KeyRule → Option ℕ → Bool
allows_key Needed key = is_some key
allows_key Allowed key = true
allows_key Refused key = is_none key

-- no column is nullable, or that is allowed
abbrev pub allows_nulls : Bool → List Column → Bool
allows_nulls true columns = true
allows_nulls false columns = list_all (λ it. not it.nullable) columns

-- what an engine can do allows the schema
abbrev pub allows : Flags → Schema → Bool
allows flags schema = allows_key flags.key schema.key && allows_nulls flags.nulls schema.columns

-- the row with this key, where the table has one
abbrev pub row_at : Option ℕ → List (List Value) → Value → Option (List Value)
row_at None rows key = None
row_at (Some column) rows key = row_with column key rows

-- one of the rows has the key of this one, where there are keys
abbrev pub is_key_taken : Option ℕ → List (List Value) → List Value → Bool
is_key_taken None rows row = false
is_key_taken (Some column) rows row = is_some (row_with column (key_in column row) rows)

-- the value is one of this type
abbrev pub is_of_type : ColumnKind → Value → Bool
is_of_type BigInt (Int n) = true
is_of_type (VarChar n) (Text t) = true
is_of_type _ _ = false

-- the value is one of what was found
abbrev pub is_of_column : Option Column → Value → Bool
is_of_column None value = false
is_of_column (Some column) value = is_of_type column.kind value

-- the value can be one of this key column, where there is one
abbrev pub is_of_key : List Column → Option ℕ → Value → Bool
is_of_key columns None value = false
is_of_key columns (Some place) value = is_of_column (slice_get columns place) value

-- the value can be a key of a table with this schema: it is not Null, and of the key column's type
abbrev pub is_key_of : Schema → Value → Bool
is_key_of schema value = is_of_key schema.columns schema.key value

-- the table that a change names, if it is one on tables
abbrev pub table_of : Change → Option (List ℕ)
table_of (Install name) = None
table_of (Uninstall name) = None
table_of (Create table engine schema) = Some table
table_of (Drop table) = Some table
table_of (Insert map row) = Some map.table
table_of (Update map place before after) = Some map.table
table_of (Delete map place before) = Some map.table

-- the key of a row of a table with this key column, Null where it has no such value; none where the table has no key
abbrev pub keys_in : Option ℕ → List Value → List Value
keys_in None row = []
keys_in (Some column) row = key_in column row ∷ []

-- The keys that a change names: of an Insert that of its row, of an Update those of both its rows, of a Delete that of the row before. There
-- are none where its table has no key, or where it makes or drops a table.
abbrev pub keys_of : Change → List Value
keys_of (Insert map row) = keys_in map.schema.key row
keys_of (Update map place before after) = keys_in map.schema.key before ++ keys_in map.schema.key after
keys_of (Delete map place before) = keys_in map.schema.key before
keys_of _ = []

-- two names that were found are one
abbrev pub same_found : Option (List ℕ) → Option (List ℕ) → Bool
same_found (Some a) (Some b) = bytes_eq a b
same_found _ _ = false

-- one of the values is this one
abbrev pub has_value : List Value → Value → Bool
has_value values it = list_any (same_value it) values

-- two lists of keys meet: one of them is empty, which stands for the whole table, or they have a key in common
abbrev pub keys_meet : List Value → List Value → Bool
keys_meet [] others = true
keys_meet keys [] = true
keys_meet keys others = list_any (has_value others) keys

-- Two changes meet: they name one table, and a key in common; or one of them names no key.
abbrev pub meets : Change → Change → Bool
meets a b = same_found (table_of a) (table_of b) && keys_meet (keys_of a) (keys_of b)

-- a change meets one of these
abbrev pub meets_any : Change → List Change → Bool
meets_any change others = list_any (meets change) others

-- the change meets no open change of another transaction, and nothing that is prepared
pub record IsApart (txn : ℕ) (change : Change) (state : EngineState) : Type 0 where
  pub pending : meets_any change (changes_in (without_txn txn state.pending)) ≡ false
  pub prepared : list_any (λ it. meets_any change it.changes) state.gist.prepared ≡ false

-- a transaction is prepared in this run
abbrev pub is_under : ℕ → EngineState → Bool
is_under txn state = is_some (xid_by txn state.pending)

-- a transaction is prepared in this run under this xid
abbrev pub IsUnder : ℕ → ℕ → EngineState → Type 0
IsUnder txn xid state = xid_by txn state.pending ≡ Some xid

-- the number that was found is this one
abbrev pub same_number : ℕ → Option ℕ → Bool
same_number n None = false
same_number n (Some it) = it == n

-- what is pending is prepared under this xid
abbrev pub has_under : ℕ → Pending → Bool
has_under xid it = same_number xid it.under

-- the xid is prepared, and not by a transaction of this run
abbrev pub IsLeft : ℕ → EngineState → Type 0
IsLeft xid state = IsTrue (is_prepared xid state.gist.prepared) × (list_any (has_under xid) state.pending ≡ false)

-- the table of this name is live
abbrev pub IsLive : List ℕ → EngineState → Type 0
IsLive table state = IsTrue (is_some (table_named table (live_tables state)))

-- the schema of a table that was found
abbrev pub schema_found : Option Table → Option Schema
schema_found None = None
schema_found (Some it) = Some it.definition.schema

-- the rows of a table that was found
abbrev pub rows_found : Option Table → List (List Value)
rows_found None = []
rows_found (Some it) = it.rows

-- the row with this key of a table that was found
abbrev pub row_found : Option Table → Value → Option (List Value)
row_found None key = None
row_found (Some it) key = row_at it.definition.schema.key it.rows key

-- the schema of the live table of this name
abbrev pub live_schema : List ℕ → EngineState → Option Schema
live_schema table state = schema_found (table_named table (live_tables state))

-- its rows
abbrev pub live_rows : List ℕ → EngineState → List (List Value)
live_rows table state = rows_found (table_named table (live_tables state))

-- its row with this key
abbrev pub live_row : List ℕ → Value → EngineState → Option (List Value)
live_row table key state = row_found (table_named table (live_tables state)) key

-- the value can be a key of the live table, which has one
abbrev pub IsKeyFor : Option Schema → Value → Type 0
IsKeyFor None key = ⊥
IsKeyFor (Some schema) key = IsTrue (is_key_of schema key)

-- the row is one for the live table
abbrev pub IsRowFor : Option Schema → List Value → Type 0
IsRowFor None row = ⊥
IsRowFor (Some schema) row = IsRow schema row

-- the insert of a row into the live table of this name
abbrev pub insert_into : List ℕ → Option Schema → List Value → Option Change
insert_into table None row = None
insert_into table (Some schema) row = Some (Insert (record { table = table; schema = schema }) row)

-- the state after that insert, by one transaction
abbrev pub with_insert : ℕ → Option Change → EngineState → EngineState
with_insert txn None state = state
with_insert txn (Some change) state = with_change txn change state

-- the state after a row was written into the live table of this name
abbrev pub wrote_state : ℕ → List ℕ → List Value → EngineState → EngineState
wrote_state txn table row state = with_insert txn (insert_into table (live_schema table state) row) state

-- the insert of the row meets no change of another transaction
abbrev pub IsInsertApart : ℕ → Option Change → EngineState → Type 0
IsInsertApart txn None state = ⊥
IsInsertApart txn (Some change) state = IsApart txn change state

-- a table that was found has a row with the key of this one
abbrev pub is_taken_in : Option Table → List Value → Bool
is_taken_in None row = false
is_taken_in (Some it) row = is_key_taken it.definition.schema.key it.rows row

-- the live table of this name has a row with the key of this one
abbrev pub is_taken : List ℕ → List Value → EngineState → Bool
is_taken table row state = is_taken_in (table_named table (live_tables state)) row

-- the live bytes are within their limit
abbrev pub HasRoom : EngineState → Type 0
HasRoom state = live_bytes (live_tables state) ≤ live_limit
