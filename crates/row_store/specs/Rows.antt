-- The rows of one table, in key order or as they were inserted. (This project.)
use Rattle.std.specs.Prelude.{◌≡◌, ◌≤◌, ◌<◌, ◌+◌, ℕ, List, [], length, Option, Some, None, Bool, true, false, cond, get_or, insert, remove, set, slice_get, Result, Ok, Err}
use Rattle.std.specs.List.{position}
use Rattle.std.specs.Ordering.{is_lt}
use Rattle.std.specs.List.Sorted.{IsPartitionPoint}
use Rattle.sql_value.specs.declared.value.Value.{Value}
use Rattle.sql_value.specs.Values.{value_cmp}
use Rattle.row_format.specs.declared.schema.Schema.{Schema}
use Rattle.log_tables.specs.Keys.{key_in, has_key, row_with, is_row, inserted, deleted, updated, IsPlaceFor}

-- the rows of a table in order, and for how many rows more there is room
pub record Held : Type 0 where
  pub schema : Schema
  pub rows : List (List Value)
  pub spare : ℕ

-- a row has a key below this one
abbrev pub is_key_below : ℕ → Value → List Value → Bool
is_key_below column key row = is_lt (value_cmp (key_in column row) key)

-- so many of the rows, from the first, have keys below a value, and no other has
abbrev pub AreParted : ℕ → Value → List (List Value) → ℕ → Type 0
AreParted column key rows count = IsPartitionPoint (λ row. is_key_below column key row ≡ true) (λ row. is_key_below column key row ≡ false) rows count

-- what a search for a key comes to among rows in key order: the row that has it, or else the place for it
abbrev pub Finds : ℕ → Value → List (List Value) → Result ℕ ℕ → Type 0
Finds column key rows (Ok place) = (place < length rows) × (has_key column key (get_or rows place []) ≡ true)
Finds column key rows (Err place) = IsPlaceFor column key rows place

-- the place is where the row goes among these rows; with none, it does not go there
abbrev pub Takes : Option ℕ → List Value → List (List Value) → Option ℕ → Type 0
Takes key row rows (Some place) = inserted key row rows ≡ Some (insert rows place row)
Takes key row rows None = inserted key row rows ≡ None

-- the row with this key, where the table has one
abbrev pub row_by : Option ℕ → Value → List (List Value) → Option (List Value)
row_by None key rows = None
row_by (Some column) key rows = row_with column key rows

-- the place is that of the row with this key; with none, no row has it
abbrev pub IsAtKey : Option ℕ → Value → List (List Value) → Option ℕ → Type 0
IsAtKey column key rows (Some place) = (row : List Value) × (slice_get rows place ≡ Some row) × (row_by column key rows ≡ Some row)
IsAtKey column key rows None = row_by column key rows ≡ None

-- a row has a key above this one
abbrev pub is_key_above : ℕ → Value → List Value → Bool
is_key_above column key row = is_lt (value_cmp key (key_in column row))

-- the place of the first row with a key above this one, where there is one
abbrev pub first_above : Option ℕ → Value → List (List Value) → Option ℕ
first_above None key rows = None
first_above (Some column) key rows = position (is_key_above column key) rows

-- the rows with another row in place of the one at a place: there where there is no key, else where its key goes, if it is free
abbrev pub replaced : Option ℕ → ℕ → List Value → List (List Value) → Option (List (List Value))
replaced None place row rows = Some (set rows place row)
replaced (Some column) place row rows = inserted (Some column) row (remove rows place)

-- where a row goes among the others, in place of the one at a place; with none, another row has its key
abbrev pub Moves : Option ℕ → ℕ → List Value → List (List Value) → Option ℕ → Type 0
Moves key i row rows (Some place) = replaced key i row rows ≡ Some (insert (remove rows i) place row)
Moves key i row rows None = replaced key i row rows ≡ None

-- there a Delete or an Update looks for the row that it names: it applies where the row there is this one; with none, it does not apply
abbrev pub Names : Option ℕ → ℕ → List Value → List (List Value) → Option ℕ → Type 0
Names key named row rows (Some place) =
    (deleted key named row rows ≡ cond (is_row (slice_get rows place) row) (Some (remove rows place)) None)
    × ((after : List Value) → updated key named row after rows ≡ cond (is_row (slice_get rows place) row) (replaced key place after rows) None)
Names key named row rows None = (deleted key named row rows ≡ None) × ((after : List Value) → updated key named row after rows ≡ None)

-- at this place stands the row that a Delete or an Update names
pub record StandsAt (key : Option ℕ) (named : ℕ) (row : List Value) (rows : List (List Value)) (place : ℕ) : Type 0 where
  pub within : place < length rows
  pub deleted_is : deleted key named row rows ≡ Some (remove rows place)
  pub updated_is : (after : List Value) → updated key named row after rows ≡ replaced key place after rows

-- the row that they name stands at this place; with none, it is not there
abbrev pub StandsIf : Option ℕ → ℕ → List Value → List (List Value) → Option ℕ → Type 0
StandsIf key named row rows (Some place) = StandsAt key named row rows place
StandsIf key named row rows None = Names key named row rows None

-- One row more: in key order or at the end, at the place that is told, with room for one less. It is handed back exactly where its key is
-- there, and then nothing has changed.
pub record Inserts (row : List Value) (old new : Held) (result : Result ℕ (List Value)) : Type 0 where
  pub ok : (place : ℕ) → result ≡ Ok place → (inserted old.schema.key row old.rows ≡ Some new.rows) × (new.rows ≡ insert old.rows place row) × (place ≤ length old.rows) × (new.spare + 1 ≡ old.spare)
  pub taken : (it : List Value) → result ≡ Err it → (it ≡ row) × (inserted old.schema.key row old.rows ≡ None) × (new ≡ old)
  pub schema : new.schema ≡ old.schema

-- Another row in place of one, which is given. The new row is handed back exactly where another row has its key, and then nothing has
-- changed.
pub record Replaces (place : ℕ) (row : List Value) (old new : Held) (result : Result (List Value) (List Value)) : Type 0 where
  pub ok : (it : List Value) → result ≡ Ok it → (slice_get old.rows place ≡ Some it) × (replaced old.schema.key place row old.rows ≡ Some new.rows)
  pub taken : (it : List Value) → result ≡ Err it → (it ≡ row) × (replaced old.schema.key place row old.rows ≡ None) × (new.rows ≡ old.rows)
  pub schema : new.schema ≡ old.schema
  pub spare : new.spare ≡ old.spare
