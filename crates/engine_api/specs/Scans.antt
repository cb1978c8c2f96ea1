-- What a scan and a walk by key read: rows of the live tables. (This project.)
use Rattle.std.specs.Prelude.{ℕ, List, Option, Some, None, find, slice_get}
use Rattle.std.specs.Ordering.{is_lt}
use Rattle.sql_value.specs.declared.value.Value.{Value}
use Rattle.sql_value.specs.Values.{value_cmp}
use Rattle.log_tables.specs.declared.table.Table.{Table}
use Rattle.log_tables.specs.Keys.{key_in}
use Rattle.log_tables.specs.Tables.{table_named}
use Rattle.engine_api.specs.States.{EngineState, live_tables}
use Rattle.engine_api.specs.Live.{IsLive, live_rows}

-- the first of the rows whose key is greater; rows with keys are in key order, so this is the one of the least greater key
abbrev pub row_above : Option ℕ → List (List Value) → Value → Option (List Value)
row_above None rows key = None
row_above (Some column) rows key = find (λ row. is_lt (value_cmp key (key_in column row))) rows

-- that row of a table that was found
abbrev pub above_found : Option Table → Value → Option (List Value)
above_found None key = None
above_found (Some it) key = row_above it.definition.schema.key it.rows key

-- the row of the least key above this one of the live table of this name
abbrev pub live_above : List ℕ → Value → EngineState → Option (List Value)
live_above table key state = above_found (table_named table (live_tables state)) key

-- a scan was begun, and its table is live
abbrev pub IsOnLive : Option (List ℕ) → EngineState → Type 0
IsOnLive None state = ⊥
IsOnLive (Some table) state = IsLive table state

-- the row behind a scan's position, if the table of the scan has one there
abbrev pub scan_row : Option (List ℕ) → ℕ → EngineState → Option (List Value)
scan_row None position state = None
scan_row (Some table) position state = slice_get (live_rows table state) position
