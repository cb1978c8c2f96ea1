-- What a row change makes of the rows of a table, and what they were before it. (This project.)
use Rattle.std.specs.Prelude.{ℕ, ◌-◌, List, length, Option, Some, None, cond, nat_le, insert, unwrap_or}
use Rattle.sql_value.specs.declared.value.Value.{Value}
use Rattle.row_format.specs.declared.change.Change.{Change}
use Rattle.row_format.specs.declared.change.Change.TheVariants.{Insert, Update, Delete}
use Rattle.log_tables.specs.Keys.{inserted, deleted, updated}

-- the rows that a row change makes of these, or nothing where it does not apply
abbrev pub changed_rows : Option ℕ → Change → List (List Value) → Option (List (List Value))
changed_rows key (Insert map row) rows = inserted key row rows
changed_rows key (Update map place before after) rows = updated key place before after rows
changed_rows key (Delete map place before) rows = deleted key place before rows
changed_rows key _ rows = None

-- the rows after a change: one that does not apply leaves them as they are
abbrev pub made_rows : Option ℕ → Change → List (List Value) → List (List Value)
made_rows key change rows = unwrap_or (changed_rows key change rows) rows

-- the rows with one more where a Delete took it out: by its key, or at its place with no key column
abbrev pub returned : Option ℕ → ℕ → List Value → List (List Value) → Option (List (List Value))
returned None place row rows = cond (nat_le place (length rows)) (Some (insert rows place row)) None
returned (Some column) place row rows = inserted (Some column) row rows

-- the rows of which a row change made these, or nothing where it cannot have made them; with no key column an Insert made the last row
abbrev pub undone_rows : Option ℕ → Change → List (List Value) → Option (List (List Value))
undone_rows key (Insert map row) rows = deleted key (length rows - 1) row rows
undone_rows key (Update map place before after) rows = updated key place after before rows
undone_rows key (Delete map place before) rows = returned key place before rows
undone_rows key _ rows = None

-- the rows before a change: one that cannot have made these leaves them as they are
abbrev pub rows_before : Option ℕ → Change → List (List Value) → List (List Value)
rows_before key change rows = unwrap_or (undone_rows key change rows) rows

-- for how many rows a change needs room
abbrev pub uses : Change → ℕ
uses (Insert map row) = 1
uses _ = 0

-- for how many rows it leaves room, which it needs again when it is undone
abbrev pub gives : Change → ℕ
gives (Delete map place before) = 1
gives _ = 0
