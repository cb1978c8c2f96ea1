-- What is so of the tables of a log. (This project.)
use Rattle.std.specs.Prelude.{All}
use Rattle.sql_value.specs.Names.{IsName}
use Rattle.row_format.specs.Rows.{IsRow}
use Rattle.row_format.specs.Schemas.{IsSchema}
use Rattle.log_tables.specs.declared.table.Table.{Table}
use Rattle.log_tables.specs.Keys.{IsOrdered}

-- a table with a name, a schema that is one, and rows that go into it, in the order of the key where there is one
pub record IsSound (table : Table) : Type 0 where
  pub named : IsName table.definition.table
  pub schema : IsSchema table.definition.schema
  pub rows : All (IsRow table.definition.schema) table.rows
  pub ordered : IsOrdered table.definition.schema.key table.rows
