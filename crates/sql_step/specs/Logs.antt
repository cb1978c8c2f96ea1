-- A catalog of the tables of a log, and what the changes of a statement are to these. (This project.)
use Rattle.std.specs.Prelude.{◌≡◌, ℕ, List, Contains, true}
use Rattle.row_format.specs.declared.change.Change.{Change}
use Rattle.row_format.specs.declared.change.Change.TheVariants.{Create}
use Rattle.row_format.specs.declared.schema.Schema.{Schema}
use Rattle.log_tables.specs.declared.table.Table.{Table}
use Rattle.log_tables.specs.Tables.{part_of, IsDictionary}
use Rattle.log_tables.specs.Changes.{changes_on, EachApplies}
use Rattle.engine_api.specs.Live.{allows}
use Rattle.sql_text.specs.declared.statement.Statement.{Statement}
use Rattle.sql_text.specs.declared.statement.Statement.TheVariants as statement
use Rattle.sql_effect.specs.declared.shape.EngineFacts.{EngineFacts}
use Rattle.dictionary.specs.Dictionary.{definitions_of}
use Rattle.sql_step.specs.Catalogs.{Catalog}

-- the catalog is that of these tables: it has the definition of each, and the engine of this name has those of its own
pub record IsOf (tables : List Table) (name : List ℕ) (catalog : Catalog) : Type 0 where
  pub distinct : IsDictionary tables
  pub definitions : catalog.definitions ≡ definitions_of tables
  pub live : catalog.live ≡ part_of name tables

-- all these changes are on tables of the engine of this name, and each applies to the tables before it
pub record AreOwn (name : List ℕ) (changes : List Change) (tables : List Table) : Type 0 where
  pub own : changes_on name changes tables ≡ changes
  pub apply : EachApplies name changes tables

-- the engine's flags allow each table that these changes make in it
abbrev pub AreAllowed : EngineFacts → List Change → Type 0
AreAllowed facts changes = (table : List ℕ) (schema : Schema) → Contains changes (Create table facts.name schema) → allows facts.flags schema ≡ true

-- the statement changes tables, where it changes anything
abbrev pub IsOnTables : Statement → Type 0
IsOnTables (statement.Create table items engine) = Unit {0}
IsOnTables (statement.Drop table) = Unit {0}
IsOnTables (statement.Insert table rows) = Unit {0}
IsOnTables (statement.Select table names where_is) = Unit {0}
IsOnTables _ = ⊥
