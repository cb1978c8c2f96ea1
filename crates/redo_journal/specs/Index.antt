-- What does an index into a list of records stand for? (This project.)
use Rattle.std.specs.Prelude.{Result, Ok, Err, IfSome, IfNone, length, get_or, position, ◌≡◌, ℕ, List, Option, Some, None, Bool, true, false, option_and_then, option_map, slice_get, unwrap_or, is_some, cond, [], ◌∷◌, ◌++◌, ◌<◌, ◌^◌, ◌&&◌, not, is_none, nat_lt}
use Rattle.std.specs.List.{AllZip}
use Rattle.std.specs.Str.{bytes_eq}
use Rattle.std.specs.List.Sorted.{IsPartitionPoint}
use Rattle.std.specs.Ordering.{is_lt}
use Rattle.sql_value.specs.Values.{value_cmp}
use Rattle.sql_value.specs.declared.value.Value.{Value}
use Rattle.sql_value.specs.declared.value.Value.TheVariants.{Null}
use Rattle.row_format.specs.declared.schema.Schema.{Schema}
use Rattle.row_format.specs.Schemas.{same_schema}
use Rattle.row_format.specs.declared.change.Change.{Change}
use Rattle.row_format.specs.declared.change.Change.TheVariants.{Create, Insert, Update}
use Rattle.log_tables.specs.declared.table.Definition.{Definition}
use Rattle.log_tables.specs.declared.gist.Prepared.{Prepared}
use Rattle.log_tables.specs.declared.gist.Gist.{Gist}
use Rattle.log_tables.specs.declared.table.Table.{Table}
use Rattle.log_tables.specs.Tables.{table_named, at_table}
use Rattle.log_tables.specs.Changes.{with_rows, all_apply}
use Rattle.log_tables.specs.Keys.{has_key, is_row, inserted, updated, deleted, IsPlaceFor, IsOrdered}
use Rattle.log_tables.specs.Gists.{has_xid, prepared_with, is_prepared}
use Rattle.redo_journal.specs.declared.record.Record.{Record}
use Rattle.redo_journal.specs.declared.record.Record.TheVariants.{SnapTable, SnapRow, SnapLast, Prepare, Commit, Rollback}
use Rattle.redo_journal.specs.declared.place.Place.{Place}
use Rattle.redo_journal.specs.declared.index.Indexed.{Indexed}
use Rattle.redo_journal.specs.declared.replay.Replay.{Replay as ReplayIndex}
use Rattle.sql_value.specs.Names.{IsName}
use Rattle.row_format.specs.Rows.{IsRow}
use Rattle.binlog_events.specs.Items.{AreListed}
use Rattle.redo_journal.specs.Replays.{Replay, IsDefinition, end_behind}

-- the definition of the table that a change makes
abbrev pub created : Option Change → Option Definition
created (Some (Create table engine schema)) = Some (record { table = table; engine = engine; schema = schema })
created _ = None

-- the row that a change puts into a table: that of an Insert, and the one after an Update
abbrev pub new_row : Option Change → Option (List Value)
new_row (Some (Insert map row)) = Some row
new_row (Some (Update map place before after)) = Some after
new_row _ = None

-- a change of a record that is a Prepare
abbrev pub change_of : Option Record → ℕ → Option Change
change_of (Some (Prepare it)) change = slice_get it.changes change
change_of _ change = None

-- the definition that a record tells, or a change of it
abbrev pub definition_of : Option Record → ℕ → Option Definition
definition_of (Some (SnapTable it)) change = Some it
definition_of (Some (Prepare it)) change = created (slice_get it.changes change)
definition_of _ change = None

-- the row that a record tells, or a change of it
abbrev pub row_of : Option Record → ℕ → Option (List Value)
row_of (Some (SnapRow table row)) change = Some row
row_of (Some (Prepare it)) change = new_row (slice_get it.changes change)
row_of _ change = None

-- the prepared transaction that a record tells
abbrev pub prepared_of : Option Record → Option Prepared
prepared_of (Some (Prepare it)) = Some it
prepared_of _ = None

-- the change at this place
abbrev pub change_at : List Record → Place → Option Change
change_at records place = change_of (slice_get records place.number) place.change

-- the definition at this place
abbrev pub definition_at : List Record → Place → Option Definition
definition_at records place = definition_of (slice_get records place.number) place.change

-- the row at this place
abbrev pub row_at : List Record → Place → Option (List Value)
row_at records place = row_of (slice_get records place.number) place.change

-- the prepared transaction that the record with this number tells, from 0
abbrev pub prepared_at : List Record → ℕ → Option Prepared
prepared_at records number = prepared_of (slice_get records number)

-- what the row at this place has in a column
abbrev pub cell_at : List Record → ℕ → Place → Option Value
cell_at records column place = option_and_then (λ row. slice_get row column) (row_at records place)

-- the key of the row at this place, with Null where there is none
abbrev pub key_at : List Record → ℕ → Place → Value
key_at records column place = unwrap_or (cell_at records column place) Null

-- the definition that was found has this name
abbrev pub is_defined : List ℕ → Option Definition → Bool
is_defined name None = false
is_defined name (Some it) = bytes_eq it.table name

-- the table of an index has this name
abbrev pub is_named_at : List Record → List ℕ → Indexed → Bool
is_named_at records name it = is_defined name (definition_at records it.definition)

-- this row stands at this place
abbrev pub IsRowAt : List Record → Place → List Value → Type 0
IsRowAt records place row = row_at records place ≡ Some row

-- these rows stand at these places, one at each
abbrev pub AreRowsAt : List Record → List Place → List (List Value) → Type 0
AreRowsAt records places rows = AllZip (IsRowAt records) places rows

-- the table of an index is this one, and its rows are in order
pub record IsTableAt (records : List Record) (it : Indexed) (table : Table) : Type 0 where
  pub definition : definition_at records it.definition ≡ Some table.definition
  pub rows : AreRowsAt records it.rows.items table.rows
  pub ordered : IsOrdered table.definition.schema.key table.rows

-- the tables of an index are these
abbrev pub AreTablesAt : List Record → List Indexed → List Table → Type 0
AreTablesAt records its tables = AllZip (IsTableAt records) its tables

-- the row at a place has a key below a value
abbrev pub is_key_below : List Record → ℕ → Value → Place → Bool
is_key_below records column key place = is_lt (value_cmp (key_at records column place) key)

-- so many of the places, from the first, have rows with keys below a value, and no other has
abbrev pub AreParted : List Record → ℕ → Value → List Place → ℕ → Type 0
AreParted records column key places count = IsPartitionPoint (λ place. is_key_below records column key place ≡ true) (λ place. is_key_below records column key place ≡ false) places count

-- what was found for a key among rows in key order: where the row with it stands, or the place for it
abbrev pub Finds : ℕ → Value → List (List Value) → Result ℕ ℕ → Type 0
Finds column key rows (Ok place) = (place < length rows) × (has_key column key (get_or rows place []) ≡ true)
Finds column key rows (Err place) = IsPlaceFor column key rows place

-- the row at a place among rows is this one, and it was looked for by its key, or by this place where there is no key
pub record IsRowFound (key : Option ℕ) (at : ℕ) (before : List Value) (rows : List (List Value)) (place : ℕ) : Type 0 where
  pub within : place < length rows
  pub same : is_row (slice_get rows place) before ≡ true
  pub by_place : IfNone key (place ≡ at)

-- where the row was found that a change takes out, or that it is not there
abbrev pub FindsRow : Option ℕ → ℕ → List Value → List (List Value) → Option ℕ → Type 0
FindsRow key at before rows (Some place) = IsRowFound key at before rows place
FindsRow key at before rows None = deleted key at before rows ≡ None

-- the table with these rows
abbrev pub table_of : Table → List (List Value) → Table
table_of table rows = record { definition = table.definition; rows = rows }

-- whether other rows can be made of a table's, and that the index then has them
abbrev pub HasRows : Bool → List Record → Indexed → Option (List (List Value)) → Table → Type 0
HasRows false records it rows table = rows ≡ None
HasRows true records it rows table = (made : List (List Value)) × (rows ≡ Some made) × IsTableAt records it (table_of table made)

-- a row that was made for this schema, or for any, suits what was found as a definition
abbrev pub suits_at : Option Schema → Option Definition → Bool
suits_at None definition = true
suits_at (Some schema) None = false
suits_at (Some schema) (Some it) = same_schema schema it.schema

-- what a change of rows makes of those of a table, or nothing where it is not possible
abbrev pub Edit : Type 0
Edit = Table → Option (List (List Value))

-- one row more
abbrev pub adding : List Value → Edit
adding row table = inserted table.definition.schema.key row table.rows

-- one row is another
abbrev pub replacing : ℕ → List Value → List Value → Edit
replacing at before after table = updated table.definition.schema.key at before after table.rows

-- one row less
abbrev pub removing : ℕ → List Value → Edit
removing at before table = deleted table.definition.schema.key at before table.rows

-- the rows that this makes of a table's, where the table suits and it is possible
abbrev pub rows_with : Option Schema → Edit → Table → Option (List (List Value))
rows_with schema edit table = cond (suits_at schema (Some table.definition)) (edit table) None

-- it is possible for what was found as a table
abbrev pub can_edit : Option Schema → Edit → Option Table → Bool
can_edit schema edit None = false
can_edit schema edit (Some table) = is_some (rows_with schema edit table)

-- the table with the rows that this makes, where it is possible
abbrev pub edited : Option Schema → Edit → Table → List Table
edited schema edit table = with_rows table (rows_with schema edit table) ∷ []

-- Where was a table of this name found that suits a schema? Where none was, no rows of it can be made.
abbrev pub FindsTable : List Record → List ℕ → Option Schema → List Indexed → Option ℕ → Type 0
FindsTable records name schema its (Some i) = (position (is_named_at records name) its ≡ Some i) × ((tables : List Table) → AreTablesAt records its tables → IfSome (table_named name tables) (λ it. suits_at schema (Some it.definition) ≡ true))
FindsTable records name schema its None = (tables : List Table) → AreTablesAt records its tables → (edit : Edit) → can_edit schema edit (table_named name tables) ≡ false

-- the answer is whether it is possible, and where it is, this holds
abbrev pub Becomes : Bool → Type 0 → Bool → Type 0
Becomes possible holds answer = (answer ≡ possible) × (answer ≡ true → holds)

-- the answer is whether the rows of the table of this name can be edited, and where they can, the index then has the tables so
abbrev pub Edits : Option Schema → Edit → List ℕ → List Table → List Record → List Indexed → Bool → Type 0
Edits schema edit name tables records its answer = Becomes (can_edit schema edit (table_named name tables)) (AreTablesAt records its (at_table name (edited schema edit) tables)) answer

-- what was found as a prepared transaction has this xid
abbrev pub is_xid : ℕ → Option Prepared → Bool
is_xid xid None = false
is_xid xid (Some it) = has_xid xid it

-- the record with this number prepared a transaction with this xid
abbrev pub has_xid_at : List Record → ℕ → ℕ → Bool
has_xid_at records xid number = is_xid xid (prepared_at records number)

-- the record with this number prepared this transaction
abbrev pub IsPreparedAt : List Record → ℕ → Prepared → Type 0
IsPreparedAt records number it = prepared_at records number ≡ Some it

-- the records with these numbers prepared these transactions
abbrev pub ArePreparedAt : List Record → List ℕ → List Prepared → Type 0
ArePreparedAt records numbers its = AllZip (IsPreparedAt records) numbers its

-- This index over these records stands for this.
pub record IsReplay (index : ReplayIndex) (records : List Record) (replay : Replay) : Type 0 where
  pub tables : AreTablesAt records index.tables.tables.items replay.gist.tables
  pub prepared : ArePreparedAt records index.prepared.numbers.items replay.gist.prepared
  pub last : index.last ≡ replay.gist.last
  pub numbered : index.numbered ≡ replay.numbered

-- the row is one of the table that was found, or none was found
abbrev pub IsFitting : List Value → Option Table → Type 0
IsFitting row None = Unit {0}
IsFitting row (Some table) = IsRow table.definition.schema row

-- What a reader of bodies knows of a record, behind records that stand for this: all of its rule but what the records before decide.
abbrev pub HasForm : Replay → Record → Type 0
HasForm replay (SnapTable it) = IsDefinition it
HasForm replay (SnapRow table row) = IsName table × IsFitting row (table_named table replay.gist.tables)
HasForm replay (SnapLast number) = number < 2 ^ 64
HasForm replay (Prepare it) = (it.xid < 2 ^ 64) × AreListed it.changes
HasForm replay (Commit xid number) = (xid < 2 ^ 64) × (number < 2 ^ 64)
HasForm replay (Rollback xid) = xid < 2 ^ 64

-- the last of these records, whose frame stands at a place and ends at another, is offered to an index over those before it
pub record IsOffered (index : ReplayIndex) (records before : List Record) (it : Record) (replay : Replay) (at end : ℕ) : Type 0 where
  pub last_is : records ≡ before ++ it ∷ []
  pub stands : IsReplay index before replay
  pub form : HasForm replay it
  pub ends : end ≡ end_behind at it

-- the schema of what was found
abbrev pub schema_found : Option Table → Option Schema
schema_found found = option_map (λ it. it.definition.schema) found

-- the transaction that was found can be committed as this number, which is one of 64 bits
abbrev pub can_commit : ℕ → Gist → Option Prepared → Bool
can_commit number gist None = false
can_commit number gist (Some it) = nat_lt gist.last number && all_apply it.changes gist.tables

-- what the records before decide of a record's rule
abbrev pub is_possible : Replay → Record → Bool
is_possible replay (SnapTable it) = is_none (table_named it.table replay.gist.tables)
is_possible replay (SnapRow table row) = can_edit None (adding row) (table_named table replay.gist.tables)
is_possible replay (SnapLast number) = not replay.numbered
is_possible replay (Prepare it) = not (is_prepared it.xid replay.gist.prepared)
is_possible replay (Commit xid number) = can_commit number replay.gist (prepared_with xid replay.gist.prepared)
is_possible replay (Rollback xid) = is_prepared xid replay.gist.prepared
