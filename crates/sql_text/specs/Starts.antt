-- What has been read once the table of a statement is. (This project.)
use Rattle.std.specs.Prelude.{ℕ, List, []}
use Rattle.sql_text.specs.declared.create.CreateDue.TheVariants as create
use Rattle.sql_text.specs.declared.insert.InsertDue.TheVariants as insert
use Rattle.sql_text.specs.declared.select.SelectDue.TheVariants as select
use Rattle.sql_text.specs.declared.update.UpdateDue.TheVariants as update
use Rattle.sql_text.specs.declared.reading.Reading.{Reading}
use Rattle.sql_text.specs.declared.reading.Reading.TheVariants.{Creating, Inserting, Selecting, Updating}

-- a CREATE of this table: `(` is due
abbrev pub creating : List ℕ → Reading
creating table = Creating (record { head = record { table = table; items = [] }; due = create.Open })

-- an INSERT into this table: VALUES is due
abbrev pub inserting : List ℕ → Reading
inserting table = Inserting (record { table = table; rows = []; values = []; due = insert.Values })

-- a SELECT: `*` or a column is due
abbrev pub selecting : Reading
selecting = Selecting (record { columns = []; due = select.Columns })

-- an UPDATE of this table: a column is due
abbrev pub updating : List ℕ → Reading
updating table = Updating (record { table = table; sets = []; due = update.Column })
