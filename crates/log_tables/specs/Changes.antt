-- What changes, transactions and a whole log make of the tables. (This project.)
use Rattle.std.specs.Prelude.{◌≡◌, ℕ, List, [], ◌∷◌, ◌++◌, Option, Some, None, Bool, true, false, cond, not, ◌&&◌, is_some, is_none, filter, codes, IsTrue}
use Rattle.std.specs.Str.{bytes_eq}
use Rattle.std.specs.List.{list_any}
use Rattle.sql_value.specs.declared.value.Value.{Value}
use Rattle.row_format.specs.declared.change.TableMap.{TableMap}
use Rattle.row_format.specs.declared.change.Change.{Change}
use Rattle.row_format.specs.declared.change.Change.TheVariants.{Install, Uninstall, Create, Drop, Insert, Update, Delete}
use Rattle.row_format.specs.declared.change.Transaction.{Transaction}
use Rattle.row_format.specs.Schemas.{same_schema}
use Rattle.log_tables.specs.Keys.{inserted, updated, deleted}
use Rattle.log_tables.specs.Tables.{Table, table_named, at_table, is_of, new_table}

-- the rows, where the change was made for this table's schema
abbrev pub if_suits : TableMap → Table → Option (List (List Value)) → Option (List (List Value))
if_suits map table rows = cond (same_schema map.schema table.definition.schema) rows None

-- the rows that a row change makes of a table's, or nothing where it does not apply
abbrev pub rows_after : Change → Table → Option (List (List Value))
rows_after (Insert map row) table = if_suits map table (inserted table.definition.schema.key row table.rows)
rows_after (Update map place before after) table = if_suits map table (updated table.definition.schema.key place before after table.rows)
rows_after (Delete map place before) table = if_suits map table (deleted table.definition.schema.key place before table.rows)
rows_after _ table = None

-- the table with these rows, or as it was
abbrev pub with_rows : Table → Option (List (List Value)) → Table
with_rows table None = table
with_rows table (Some rows) = record { definition = table.definition; rows = rows }

-- the table after a row change
abbrev pub changed : Change → Table → List Table
changed change table = with_rows table (rows_after change table) ∷ []

-- The tables after a change. One that does not apply leaves all as it is.
abbrev pub after_change : Change → List Table → List Table
after_change (Create table engine schema) tables = cond (is_some (table_named table tables)) tables (tables ++ new_table table engine schema ∷ [])
after_change (Drop table) tables = at_table table (λ _. []) tables
after_change (Insert map row) tables = at_table map.table (changed (Insert map row)) tables
after_change (Update map place before after) tables = at_table map.table (changed (Update map place before after)) tables
after_change (Delete map place before) tables = at_table map.table (changed (Delete map place before)) tables
after_change (Install name) tables = tables
after_change (Uninstall name) tables = tables

-- the row change applies to what was found under its name
abbrev pub takes : Change → Option Table → Bool
takes change None = false
takes change (Some table) = is_some (rows_after change table)

-- the change applies to these tables
abbrev pub applies : Change → List Table → Bool
applies (Create table engine schema) tables = is_none (table_named table tables)
applies (Drop table) tables = is_some (table_named table tables)
applies (Insert map row) tables = takes (Insert map row) (table_named map.table tables)
applies (Update map place before after) tables = takes (Update map place before after) (table_named map.table tables)
applies (Delete map place before) tables = takes (Delete map place before) (table_named map.table tables)
applies (Install name) tables = true
applies (Uninstall name) tables = true

-- the change applies to these tables, as a claim
abbrev pub Applies : Change → List Table → Type 0
Applies change tables = IsTrue (applies change tables)

-- what was found is a table of this engine
abbrev pub found_of : List ℕ → Option Table → Bool
found_of engine None = false
found_of engine (Some table) = is_of engine table

-- The change is one on a table of this engine. The tables before it tell the engine, but for a Create, which names it.
abbrev pub is_on : List ℕ → Change → List Table → Bool
is_on engine (Create table of schema) tables = bytes_eq of engine
is_on engine (Drop table) tables = found_of engine (table_named table tables)
is_on engine (Insert map row) tables = found_of engine (table_named map.table tables)
is_on engine (Update map place before after) tables = found_of engine (table_named map.table tables)
is_on engine (Delete map place before) tables = found_of engine (table_named map.table tables)
is_on engine (Install name) tables = false
is_on engine (Uninstall name) tables = false

-- the table that a change names, if it is one on tables
abbrev pub names_table : List ℕ → Change → Bool
names_table name (Create table engine schema) = bytes_eq table name
names_table name (Drop table) = bytes_eq table name
names_table name (Insert map row) = bytes_eq map.table name
names_table name (Update map place before after) = bytes_eq map.table name
names_table name (Delete map place before) = bytes_eq map.table name
names_table name (Install engine) = false
names_table name (Uninstall engine) = false

-- the tables after a list of changes, in order
abbrev pub after_changes : List Change → List Table → List Table
after_changes [] tables = tables
after_changes (it ∷ rest) tables = after_changes rest (after_change it tables)

-- each of these changes applies, one after the other
abbrev pub all_apply : List Change → List Table → Bool
all_apply [] tables = true
all_apply (it ∷ rest) tables = applies it tables && all_apply rest (after_change it tables)

-- the changes on tables of this engine, in order; each by the tables before that change
abbrev pub changes_on : List ℕ → List Change → List Table → List Change
changes_on engine [] tables = []
changes_on engine (it ∷ rest) tables = cond (is_on engine it tables) (it ∷ changes_on engine rest (after_change it tables)) (changes_on engine rest (after_change it tables))

-- each change on a table of this engine applies to the tables before it
abbrev pub EachApplies : List ℕ → List Change → List Table → Type 0
EachApplies engine [] tables = Unit {0}
EachApplies engine (it ∷ rest) tables = (is_on engine it tables ≡ true → Applies it tables) × EachApplies engine rest (after_change it tables)

-- the tables after a list of transactions, in order
abbrev pub after_all : List Transaction → List Table → List Table
after_all [] tables = tables
after_all (it ∷ rest) tables = after_all rest (after_changes it.changes tables)

-- The tables of a log: the fold of all its changes, from nothing. The rows of tables of engines that are not crash-safe mean nothing.
abbrev pub tables_after : List Transaction → List Table
tables_after log = after_all log []

-- the installed engines after a change: Install adds a name that is not there at the end, Uninstall takes one out
abbrev pub installed_change : Change → List (List ℕ) → List (List ℕ)
installed_change (Install name) names = cond (list_any (bytes_eq name) names) names (names ++ name ∷ [])
installed_change (Uninstall name) names = filter (λ it. not (bytes_eq name it)) names
installed_change _ names = names

-- the installed engines after a list of changes, in order
abbrev pub installed_changes : List Change → List (List ℕ) → List (List ℕ)
installed_changes [] names = names
installed_changes (it ∷ rest) names = installed_changes rest (installed_change it names)

-- the installed engines after a list of transactions, in order
abbrev pub installed_all : List Transaction → List (List ℕ) → List (List ℕ)
installed_all [] names = names
installed_all (it ∷ rest) names = installed_all rest (installed_changes it.changes names)

-- The installed engines of a log, from the three of a fresh volume.
abbrev pub installed_after : List Transaction → List (List ℕ)
installed_after log = installed_all log (codes "MEMORY" ∷ codes "BLACKHOLE" ∷ codes "CSV" ∷ [])
