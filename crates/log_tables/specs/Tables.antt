-- Tables as a list in order of creation. (This project.)
use Rattle.std.specs.Prelude.{◌≡◌, is_none, suc, ℕ, List, [], ◌∷◌, ◌++◌, Option, Bool, true, cond, filter, find}
use Rattle.std.specs.Str.{bytes_eq}
use Rattle.row_format.specs.declared.schema.Schema.{Schema}
pub use Rattle.log_tables.specs.declared.table.Table.{Table}

-- the table has this name
abbrev pub is_named : List ℕ → Table → Bool
is_named name table = bytes_eq table.definition.table name

-- the table is one of this engine
abbrev pub is_of : List ℕ → Table → Bool
is_of engine table = bytes_eq table.definition.engine engine

-- the first table of this name, if there is one
abbrev pub table_named : List ℕ → List Table → Option Table
table_named name tables = find (is_named name) tables

-- where that table stands, or the length
abbrev pub place_named : List ℕ → List Table → ℕ
place_named name [] = 0
place_named name (it ∷ rest) = cond (is_named name it) 0 (suc (place_named name rest))

-- an engine's part of the tables: those of this engine, in order of creation
abbrev pub part_of : List ℕ → List Table → List Table
part_of engine tables = filter (is_of engine) tables

-- the first table of this name is replaced by what is made of it
abbrev pub at_table : List ℕ → (Table → List Table) → List Table → List Table
at_table name make [] = []
at_table name make (it ∷ rest) = cond (is_named name it) (make it ++ rest) (it ∷ at_table name make rest)

-- a table with no rows
abbrev pub new_table : List ℕ → List ℕ → Schema → Table
new_table table engine schema = record { definition = record { table = table; engine = engine; schema = schema }; rows = [] }

-- no name stands twice: what the fold of a log gives
abbrev pub IsDictionary : List Table → Type 0
IsDictionary [] = Unit {0}
IsDictionary (it ∷ rest) = (is_none (table_named it.definition.table rest) ≡ true) × IsDictionary rest
