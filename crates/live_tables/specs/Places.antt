-- Where a row change takes a row out of a table, and where it puts one in. (This project.)
use Rattle.std.specs.Prelude.{◌≡◌, ◌<◌, ◌≤◌, ◌+◌, ◌-◌, ℕ, List, length, Option, Some, None, cond, is_some, sum_by, insert, remove}
use Rattle.sql_value.specs.declared.value.Value.{Value}
use Rattle.row_format.specs.declared.change.Change.{Change}
use Rattle.row_format.specs.declared.change.Change.TheVariants.{Drop, Insert, Update, Delete}
use Rattle.log_tables.specs.declared.table.Table.{Table}
use Rattle.log_tables.specs.Keys.{key_in}
use Rattle.log_tables.specs.Tables.{table_named}
use Rattle.log_tables.specs.Changes.{rows_after, names_table, after_changes}
use Rattle.live_tables.specs.Stored.{is_key_below}
use Rattle.live_tables.specs.Folds.{Applied, key_found, row_in}
use Rattle.live_tables.specs.declared.moves.Moves.{Moves}

-- one for a row with a lower key, none for another
abbrev pub one_below : ℕ → Value → List Value → ℕ
one_below column key row = cond (is_key_below column key row) 1 0

-- how many of the rows have lower keys
abbrev pub below : ℕ → Value → List (List Value) → ℕ
below column key rows = sum_by (one_below column key) rows

-- what a change of a table makes of a sum over its rows
abbrev pub sum_own : (List Value → ℕ) → Change → ℕ → ℕ
sum_own f (Drop table) sum = 0
sum_own f (Insert map row) sum = sum + f row
sum_own f (Update map place before after) sum = sum + f after - f before
sum_own f (Delete map place before) sum = sum - f before
sum_own f _ sum = sum

-- the sum over the rows under a name after a change
abbrev pub sum_step : (List Value → ℕ) → List ℕ → Change → ℕ → ℕ
sum_step f name change sum = cond (names_table name change) (sum_own f change sum) sum

-- where a row goes: behind the rows with lower keys; at the end, where there is no key
abbrev pub goes_at : Option ℕ → List Value → List (List Value) → ℕ
goes_at None row rows = length rows
goes_at (Some column) row rows = below column (key_in column row) rows

-- where a row stands that a change names: behind the rows with lower keys; at its place, where there is no key
abbrev pub stands_at : Option ℕ → ℕ → List Value → List (List Value) → ℕ
stands_at None place row rows = place
stands_at (Some column) place row rows = below column (key_in column row) rows

-- where an Update puts a row in, after it took one out
abbrev pub update_to : Option ℕ → ℕ → List Value → List Value → List (List Value) → ℕ
update_to None place before after rows = place
update_to (Some column) place before after rows = below column (key_in column after) rows - one_below column (key_in column after) before

-- where an Update takes a row out, and where it puts one in
abbrev pub update_moves : Option ℕ → ℕ → List Value → List Value → List (List Value) → Moves
update_moves key place before after rows = record { from = Some (stands_at key place before rows); to = Some (update_to key place before after rows) }

-- the row that a change puts in
abbrev pub new_row : Change → Option (List Value)
new_row (Insert map row) = Some row
new_row (Update map place before after) = Some after
new_row _ = None

-- the rows without the one at a place, where there is a place
abbrev pub without_at : Option ℕ → List (List Value) → List (List Value)
without_at None rows = rows
without_at (Some i) rows = remove rows i

-- the rows with a row at a place, where there are both
abbrev pub with_at : Option ℕ → Option (List Value) → List (List Value) → List (List Value)
with_at (Some i) (Some row) rows = insert rows i row
with_at _ _ rows = rows

-- the rows after a row was taken out, and then one put in
abbrev pub edited : Moves → Option (List Value) → List (List Value) → List (List Value)
edited moves row rows = with_at moves.to row (without_at moves.from rows)

-- the places are within the rows, and where a row is put in there is one
pub record AreWithin (moves : Moves) (row : Option (List Value)) (rows : List (List Value)) : Type 0 where
  pub from : (i : ℕ) → moves.from ≡ Some i → i < length rows
  pub to : (i : ℕ) → moves.to ≡ Some i → i ≤ length (without_at moves.from rows)
  pub both : is_some moves.to ≡ is_some row

-- so the change makes of the rows what is taken out and put in there
pub record Makes (moves : Moves) (change : Change) (table : Table) : Type 0 where
  pub rows : rows_after change table ≡ Some (edited moves (new_row change) table.rows)
  pub within : AreWithin moves (new_row change) table.rows

-- tables, and changes behind them
pub record Track : Type 0 where
  pub tables : List Table
  pub changes : List Change

-- the table of this name behind changes of tables
abbrev pub found_behind : List ℕ → List Table → List Change → Option Table
found_behind name tables changes = table_named name (after_changes changes tables)

-- what stands at a place under a name behind changes that apply, where the table has this key: this row, or none
abbrev pub Tells : List ℕ → List Table → List Change → Option ℕ → ℕ → Option (List Value) → Type 0
Tells name tables changes key place row = Applied tables changes → key_found (found_behind name tables changes) ≡ key → row_in place (found_behind name tables changes) ≡ row

-- The row at a place behind the whole of some changes stood at another behind the first of them, in a table of the same key.
abbrev pub WalksBack : List ℕ → List Table → List Change → List Change → Option ℕ → ℕ → ℕ → Type 0
WalksBack name tables whole part key place before = Applied tables whole → key_found (found_behind name tables whole) ≡ key
    → (row_in place (found_behind name tables whole) ≡ row_in before (found_behind name tables part)) × (key_found (found_behind name tables part) ≡ key)
