-- How many bytes changes take from the tables, and what they make of the bytes of one. (This project.)
use Rattle.std.specs.Prelude.{◌+◌, ℕ, List, [], ◌∷◌, length, cond}
use Rattle.row_format.specs.declared.change.Change.{Change}
use Rattle.row_format.specs.declared.change.Change.TheVariants.{Create}
use Rattle.row_format.specs.Spelling.{row_image}
use Rattle.log_tables.specs.declared.table.Table.{Table}
use Rattle.log_tables.specs.Changes.{names_table, after_change}
use Rattle.live_tables.specs.Folds.{change_bytes, freed}
use Rattle.live_tables.specs.Places.{sum_own}

-- how many bytes changes take from the tables, one after the other
abbrev pub gone : List Change → List Table → ℕ
gone [] tables = 0
gone (it ∷ rest) tables = freed it tables + gone rest (after_change it tables)

-- what a change of a table makes of its bytes: a sum over its rows, and a new table's name and schema
abbrev pub bytes_own : Change → ℕ → ℕ
bytes_own (Create table engine schema) count = count + change_bytes (Create table engine schema)
bytes_own change count = sum_own (λ row. length (row_image row)) change count

-- how many bytes stand under a name after a change
abbrev pub bytes_step : List ℕ → Change → ℕ → ℕ
bytes_step name change count = cond (names_table name change) (bytes_own change count) count
