-- What is read back into the tables of an engine. (This project.)
use Rattle.std.specs.Prelude.{ℕ, List, Option, Some, None, is_some, IsTrue}
use Rattle.sql_value.specs.declared.value.Value.{Value}
use Rattle.log_tables.specs.declared.table.Table.{Table}
use Rattle.log_tables.specs.declared.gist.Gist.{Gist}
use Rattle.log_tables.specs.Keys.{inserted}

-- the gist with other tables
abbrev pub with_tables : List Table → Gist → Gist
with_tables tables gist = record { tables = tables; prepared = gist.prepared; last = gist.last }

-- the gist with another last number
abbrev pub with_last : ℕ → Gist → Gist
with_last number gist = record { tables = gist.tables; prepared = gist.prepared; last = number }

-- a table was found, and the row can be added to it
abbrev pub CanTake : List Value → Option Table → Type 0
CanTake row None = ⊥
CanTake row (Some table) = IsTrue (is_some (inserted table.definition.schema.key row table.rows))
