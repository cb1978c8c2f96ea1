-- What a list of changes makes of one table, of its rows and of the bytes, and which lists of changes may change places.
-- (This project.)
use Rattle.std.specs.Prelude.{◌≡◌, ◌<◌, ◌+◌, ◌-◌, ◌^◌, ℕ, suc, List, [], ◌∷◌, length, Option, Some, None, Bool, true, false, cond, is_some, is_none, slice_get}
use Rattle.std.specs.Option.{option_or}
use Rattle.std.specs.Str.{bytes_eq}
use Rattle.sql_value.specs.declared.value.Value.{Value}
use Rattle.sql_value.specs.Values.{same_value}
use Rattle.row_format.specs.declared.schema.Schema.{Schema}
use Rattle.row_format.specs.declared.change.Change.{Change}
use Rattle.row_format.specs.declared.change.Change.TheVariants.{Install, Uninstall, Create, Drop, Insert, Update, Delete}
use Rattle.row_format.specs.Spelling.{counted, schema_spelling, row_image}
use Rattle.log_tables.specs.declared.table.Table.{Table}
use Rattle.log_tables.specs.Keys.{key_in, has_key, row_with, is_row, IsOrdered}
use Rattle.log_tables.specs.Tables.{table_named, new_table, IsDictionary}
use Rattle.log_tables.specs.Changes.{with_rows, rows_after, takes, names_table, after_changes, all_apply}
use Rattle.engine_api.specs.Live.{meets_any, table_bytes, rows_found}

-- the rows of each table are in order
abbrev pub AreInOrder : List Table → Type 0
AreInOrder [] = Unit {0}
AreInOrder (it ∷ rest) = IsOrdered it.definition.schema.key it.rows × AreInOrder rest

-- tables as changes make them: no name stands twice, and the rows of each are in order
pub record AreMade (tables : List Table) : Type 0 where
  pub names : IsDictionary tables
  pub rows : AreInOrder tables

-- what a row change makes of what was found
abbrev pub rows_changed : Change → Option Table → Option Table
rows_changed change None = None
rows_changed change (Some table) = Some (with_rows table (rows_after change table))

-- what a change makes of what was found under a name
abbrev pub found_after : List ℕ → Change → Option Table → Option Table
found_after name (Create table engine schema) found = cond (bytes_eq table name) (option_or found (Some (new_table table engine schema))) found
found_after name (Drop table) found = cond (bytes_eq table name) None found
found_after name (Insert map row) found = cond (bytes_eq map.table name) (rows_changed (Insert map row) found) found
found_after name (Update map place before after) found = cond (bytes_eq map.table name) (rows_changed (Update map place before after) found) found
found_after name (Delete map place before) found = cond (bytes_eq map.table name) (rows_changed (Delete map place before) found) found
found_after name (Install engine) found = found
found_after name (Uninstall engine) found = found

-- a change applies where this was found under its name
abbrev pub fits : Change → Option Table → Bool
fits (Create table engine schema) found = is_none found
fits (Drop table) found = is_some found
fits (Insert map row) found = takes (Insert map row) found
fits (Update map place before after) found = takes (Update map place before after) found
fits (Delete map place before) found = takes (Delete map place before) found
fits (Install engine) found = true
fits (Uninstall engine) found = true

-- what steps make of something, one change after the other
abbrev pub through : {X : Type 0} → (Change → X → X) → List Change → X → X
through step [] x = x
through step (it ∷ rest) x = through step rest (step it x)

-- what a change of a table makes of its schema
abbrev pub schema_own : Change → Option Schema → Option Schema
schema_own (Create table engine schema) found = option_or found (Some schema)
schema_own (Drop table) found = None
schema_own _ found = found

-- the schema under a name after a change
abbrev pub schema_step : List ℕ → Change → Option Schema → Option Schema
schema_step name change found = cond (names_table name change) (schema_own change found) found

-- what a change of a table makes of the number of its rows
abbrev pub rows_own : Change → ℕ → ℕ
rows_own (Drop table) count = 0
rows_own (Insert map row) count = suc count
rows_own (Delete map place before) count = count - 1
rows_own _ count = count

-- how many rows stand under a name after a change
abbrev pub rows_step : List ℕ → Change → ℕ → ℕ
rows_step name change count = cond (names_table name change) (rows_own change count) count

-- there is a row, and it has this key
abbrev pub has : ℕ → Value → Option (List Value) → Bool
has column key None = false
has column key (Some row) = has_key column key row

-- the row with a key, where one row gave way to another
abbrev pub replaced : ℕ → Value → Option (List Value) → Option (List Value) → Option (List Value) → Option (List Value)
replaced column key before after found = cond (has column key after) after (cond (has column key before) None found)

-- what a change of a table makes of its row with a key
abbrev pub row_own : ℕ → Value → Change → Option (List Value) → Option (List Value)
row_own column key (Drop table) found = None
row_own column key (Insert map row) found = replaced column key None (Some row) found
row_own column key (Update map place before after) found = replaced column key (Some before) (Some after) found
row_own column key (Delete map place before) found = replaced column key (Some before) None found
row_own column key _ found = found

-- the row with this key, in this column, under a name after a change
abbrev pub row_step : List ℕ → ℕ → Value → Change → Option (List Value) → Option (List Value)
row_step name column key change found = cond (names_table name change) (row_own column key change found) found

-- the table that was found has no key
abbrev pub IsKeyless : Option Table → Type 0
IsKeyless None = Unit {0}
IsKeyless (Some it) = it.definition.schema.key ≡ None

-- the row at a place of what was found
abbrev pub row_in : ℕ → Option Table → Option (List Value)
row_in place found = slice_get (rows_found found) place

-- the row that is looked for stood at this place of what was found, a table of so many rows without a key
pub record StoodAt (found : Option Table) (wanted : Option (List Value)) (place count : ℕ) : Type 0 where
  pub row : wanted ≡ row_in place found
  pub counted : count ≡ length (rows_found found)
  pub keyless : IsKeyless found

-- changes apply, one after the other, to tables as changes make them
pub record Applied (tables : List Table) (changes : List Change) : Type 0 where
  pub made : AreMade tables
  pub fit : all_apply changes tables ≡ true

-- A change was made on what was found under a name, and came to a table without a key of so many rows.
pub record CameTo (name : List ℕ) (change : Change) (found : Option Table) (count : ℕ) : Type 0 where
  pub fit : names_table name change ≡ true → fits change found ≡ true
  pub few : length (rows_found found) < 2 ^ 64
  pub keyless : IsKeyless (found_after name change found)
  pub counted : count ≡ length (rows_found (found_after name change found))

-- Changes were made on tables, and came to a table without a key of so many rows under this name.
pub record AllCameTo (name : List ℕ) (changes : List Change) (tables : List Table) (count : ℕ) : Type 0 where
  pub applied : Applied tables changes
  pub few : length (rows_found (table_named name tables)) + length changes < 2 ^ 64
  pub keyless : IsKeyless (table_named name (after_changes changes tables))
  pub counted : count ≡ length (rows_found (table_named name (after_changes changes tables)))

-- the row that a row change names stands among these: under its key, or at its place where there is no key
abbrev pub is_there : Option ℕ → ℕ → List Value → List (List Value) → Bool
is_there None place before rows = is_row (slice_get rows place) before
is_there (Some column) place before rows = is_row (row_with column (key_in column before) rows) before

-- two rows have the same key, or there is none
abbrev pub same_keys : Option ℕ → List Value → List Value → Bool
same_keys None before after = true
same_keys (Some column) before after = same_value (key_in column before) (key_in column after)

-- the key column of what was found, where it has one
abbrev pub key_found : Option Table → Option ℕ
key_found None = None
key_found (Some it) = it.definition.schema.key

-- the bytes of what was found
abbrev pub bytes_found : Option Table → ℕ
bytes_found None = 0
bytes_found (Some it) = table_bytes it

-- how many bytes the change adds to the tables: a new table's name and schema, or the image of a row
abbrev pub change_bytes : Change → ℕ
change_bytes (Create table engine schema) = length (counted table) + length (schema_spelling schema)
change_bytes (Insert map row) = length (row_image row)
change_bytes (Update map place before after) = length (row_image after)
change_bytes _ = 0

-- how many bytes the change takes from the tables: those of a table, or the image of a row
abbrev pub freed : Change → List Table → ℕ
freed (Drop table) tables = bytes_found (table_named table tables)
freed (Update map place before after) tables = length (row_image before)
freed (Delete map place before) tables = length (row_image before)
freed _ tables = 0

-- no change of the one list meets one of the other
abbrev pub Apart : List Change → List Change → Type 0
Apart [] others = Unit {0}
Apart (it ∷ rest) others = (meets_any it others ≡ false) × Apart rest others

-- Two lists of tables agree: under each name they have the same.
abbrev pub Agree : List Table → List Table → Type 0
Agree tables others = (name : List ℕ) → table_named name tables ≡ table_named name others
