-- What is so of the gists that records of a journal stand for. (This project.)
use Rattle.std.specs.Prelude.{◌<◌, ◌^◌, List, [], ◌∷◌}
use Rattle.sql_value.specs.declared.value.Value.{Value}
use Rattle.row_format.specs.declared.schema.Schema.{Schema}
use Rattle.row_format.specs.Rows.{IsRow}
use Rattle.binlog_events.specs.Items.{AreListed}
use Rattle.log_tables.specs.declared.table.Table.{Table}
use Rattle.log_tables.specs.declared.gist.Prepared.{Prepared}
use Rattle.log_tables.specs.declared.gist.Gist.{Gist}
use Rattle.log_tables.specs.Keys.{IsOrdered}
use Rattle.log_tables.specs.Tables.{IsDictionary}
use Rattle.live_tables.specs.Opens.{HaveOwnXids}
use Rattle.redo_journal.specs.Replays.{IsDefinition}

-- each of these is a row of the schema
abbrev pub AreRows : Schema → List (List Value) → Type 0
AreRows schema [] = Unit {0}
AreRows schema (row ∷ rest) = IsRow schema row × AreRows schema rest

-- the table's names and schema can be spelt, and its rows are rows of the schema, in order
pub record IsFitTable (table : Table) : Type 0 where
  pub definition : IsDefinition table.definition
  pub rows : AreRows table.definition.schema table.rows
  pub in_order : IsOrdered table.definition.schema.key table.rows

-- each of these tables is so
abbrev pub AreFitTables : List Table → Type 0
AreFitTables [] = Unit {0}
AreFitTables (it ∷ rest) = IsFitTable it × AreFitTables rest

-- each of these transactions has an xid and changes that can be spelt
abbrev pub AreFitPrepared : List Prepared → Type 0
AreFitPrepared [] = Unit {0}
AreFitPrepared (it ∷ rest) = (it.xid < 2 ^ 64) × AreListed it.changes × AreFitPrepared rest

-- The tables are so, and no name stands twice.
pub record CanBeTables (tables : List Table) : Type 0 where
  pub fit : AreFitTables tables
  pub dictionary : IsDictionary tables

-- The transactions are so, and no xid stands twice.
pub record CanBePrepared (prepared : List Prepared) : Type 0 where
  pub fit : AreFitPrepared prepared
  pub own : HaveOwnXids prepared

-- What is so of a gist that records stand for: of its tables, of what is prepared, and of the number of the last commit.
pub record CanBeRecorded (gist : Gist) : Type 0 where
  pub tables : CanBeTables gist.tables
  pub prepared : CanBePrepared gist.prepared
  pub last : gist.last < 2 ^ 64
