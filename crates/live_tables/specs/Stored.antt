-- The committed tables, as they are kept. (This project.)
use Rattle.std.specs.Prelude.{◌≡◌, ℕ, List, Option, Some, None, Bool, true, false, IsTrue, is_some, insert, remove, set}
use Rattle.std.specs.Ordering.{is_lt}
use Rattle.std.specs.List.Sorted.{IsPartitionPoint}
use Rattle.sql_value.specs.declared.value.Value.{Value}
use Rattle.sql_value.specs.Values.{value_cmp}
use Rattle.log_tables.specs.declared.table.Table.{Table}
use Rattle.log_tables.specs.Keys.{key_in, row_with, inserted, deleted, updated, IsPlaceFor}
use Rattle.log_tables.specs.Changes.{with_rows}

-- a row has a key below this one
abbrev pub is_key_below : ℕ → Value → List Value → Bool
is_key_below column key row = is_lt (value_cmp (key_in column row) key)

-- so many of the rows, from the first, have keys below a value, and no other has
abbrev pub AreParted : ℕ → Value → List (List Value) → ℕ → Type 0
AreParted column key rows count = IsPartitionPoint (λ row. is_key_below column key row ≡ true) (λ row. is_key_below column key row ≡ false) rows count

-- what was found for a key among rows in key order: the place for it, or that a row has it
abbrev pub Finds : ℕ → Value → List (List Value) → Option ℕ → Type 0
Finds column key rows (Some place) = IsPlaceFor column key rows place
Finds column key rows None = IsTrue (is_some (row_with column key rows))

-- the place is where the row goes among these rows; with none, it does not go there
abbrev pub Takes : Option ℕ → List Value → List (List Value) → Option ℕ → Type 0
Takes key row rows (Some place) = inserted key row rows ≡ Some (insert rows place row)
Takes key row rows None = inserted key row rows ≡ None

-- the table with one row more, where it can be added
abbrev pub with_row : List Value → Table → Table
with_row row table = with_rows table (inserted table.definition.schema.key row table.rows)

-- the rows after the row at a place gave way to another: in its place where there is no key, else where its key goes
abbrev pub moved : Option ℕ → ℕ → List Value → List (List Value) → Option (List (List Value))
moved None i after rows = Some (set rows i after)
moved (Some column) i after rows = inserted (Some column) after (remove rows i)

-- where the row stands that a row change names: at this place; with none, the change does not apply
abbrev pub StandsAt : Option ℕ → ℕ → List Value → List (List Value) → Option ℕ → Type 0
StandsAt key place before rows (Some i) = (deleted key place before rows ≡ Some (remove rows i)) × ((after : List Value) → updated key place before after rows ≡ moved key i after rows)
StandsAt key place before rows None = (deleted key place before rows ≡ None) × ((after : List Value) → updated key place before after rows ≡ None)
