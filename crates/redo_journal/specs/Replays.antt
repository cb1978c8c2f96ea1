-- Which record may stand behind others, and what do they stand for? (This project.)
use Rattle.std.specs.Prelude.{◌≡◌, ◌≤◌, ◌<◌, ◌+◌, ◌*◌, ◌^◌, ℕ, List, [], ◌∷◌, ◌++◌, length, Option, Some, None, Bool, true, false, is_some, is_none, IsTrue}
use Rattle.sql_value.specs.declared.value.Value.{Value}
use Rattle.sql_value.specs.Names.{IsName}
use Rattle.frame_codec.specs.Frame.{size_of, limit}
use Rattle.row_format.specs.Schemas.{IsSchema}
use Rattle.row_format.specs.Rows.{IsRow}
use Rattle.binlog_events.specs.Items.{AreListed}
use Rattle.log_tables.specs.declared.table.Definition.{Definition}
use Rattle.log_tables.specs.declared.gist.Prepared.{Prepared}
use Rattle.log_tables.specs.Keys.{inserted}
use Rattle.log_tables.specs.declared.table.Table.{Table}
use Rattle.log_tables.specs.Tables.{table_named, at_table, new_table}
use Rattle.log_tables.specs.Changes.{with_rows, all_apply}
use Rattle.log_tables.specs.declared.gist.Gist.{Gist}
use Rattle.log_tables.specs.Gists.{empty_gist, prepared_with, is_prepared, after_prepare, after_commit, after_rollback}
use Rattle.redo_journal.specs.declared.record.Record.{Record}
use Rattle.redo_journal.specs.declared.record.Record.TheVariants.{SnapTable, SnapRow, SnapLast, Prepare, Commit, Rollback}
use Rattle.redo_journal.specs.Records.{record_event}

-- what records stand for, and whether a SnapLast or a Commit was among them
pub record Replay : Type 0 where
  pub gist : Gist
  pub numbered : Bool

-- no record yet
abbrev pub start : Replay
start = record { gist = empty_gist; numbered = false }

-- a table with one row more, where it can be added
abbrev pub with_row : List Value → Table → List Table
with_row row table = with_rows table (inserted table.definition.schema.key row table.rows) ∷ []

-- the gist with other tables
abbrev pub with_tables : Gist → List Table → Gist
with_tables gist tables = record { tables = tables; prepared = gist.prepared; last = gist.last }

-- the gist with another last number
abbrev pub with_last : Gist → ℕ → Gist
with_last gist number = record { tables = gist.tables; prepared = gist.prepared; last = number }

-- the gist after the commit of what was found prepared
abbrev pub committed : Option Prepared → ℕ → Gist → Gist
committed None number gist = gist
committed (Some it) number gist = after_commit it number gist

-- what the records stand for with one more
abbrev pub after_record : Record → Replay → Replay
after_record (SnapTable it) replay = record { gist = with_tables replay.gist (replay.gist.tables ++ new_table it.table it.engine it.schema ∷ []); numbered = replay.numbered }
after_record (SnapRow table row) replay = record { gist = with_tables replay.gist (at_table table (with_row row) replay.gist.tables); numbered = replay.numbered }
after_record (SnapLast number) replay = record { gist = with_last replay.gist number; numbered = true }
after_record (Prepare it) replay = record { gist = after_prepare it replay.gist; numbered = replay.numbered }
after_record (Commit xid number) replay = record { gist = committed (prepared_with xid replay.gist.prepared) number replay.gist; numbered = true }
after_record (Rollback xid) replay = record { gist = after_rollback xid replay.gist; numbered = replay.numbered }

-- names and a schema that can be spelt
pub record IsDefinition (it : Definition) : Type 0 where
  pub table : IsName it.table
  pub engine : IsName it.engine
  pub schema : IsSchema it.schema

-- the row is one of the table that was found, and can be added to it
abbrev pub IsRowFor : List Value → Option Table → Type 0
IsRowFor row None = ⊥
IsRowFor row (Some table) = IsRow table.definition.schema row × IsTrue (is_some (inserted table.definition.schema.key row table.rows))

-- the transaction that was found can be committed as this number
abbrev pub CanCommit : ℕ → Gist → Option Prepared → Type 0
CanCommit number gist None = ⊥
CanCommit number gist (Some it) = (gist.last < number) × (number < 2 ^ 64) × IsTrue (all_apply it.changes gist.tables)

-- Each record's rule: a SnapTable names a new table; a SnapRow a known one, to which its row can be added; a SnapLast comes at most
-- once and before any Commit; a Prepare has an xid that is not prepared; a Commit one that is, with a number above the last and
-- changes that apply; a Rollback one that is.
abbrev pub Allows : Replay → Record → Type 0
Allows replay (SnapTable it) = IsDefinition it × IsTrue (is_none (table_named it.table replay.gist.tables))
Allows replay (SnapRow table row) = IsName table × IsRowFor row (table_named table replay.gist.tables)
Allows replay (SnapLast number) = (number < 2 ^ 64) × (replay.numbered ≡ false)
Allows replay (Prepare it) = (it.xid < 2 ^ 64) × AreListed it.changes × (is_prepared it.xid replay.gist.prepared ≡ false)
Allows replay (Commit xid number) = (xid < 2 ^ 64) × CanCommit number replay.gist (prepared_with xid replay.gist.prepared)
Allows replay (Rollback xid) = (xid < 2 ^ 64) × IsTrue (is_prepared xid replay.gist.prepared)

-- how many bytes the frame of a Commit has
abbrev pub commit_size : ℕ
commit_size = 39

-- where the frame of a record ends
abbrev pub end_behind : ℕ → Record → ℕ
end_behind at it = at + size_of (record_event it)

-- The record fits at a place: its rule holds, and behind it there is room for a Commit of each transaction that is then prepared.
pub record Fits (at : ℕ) (replay : Replay) (it : Record) : Type 0 where
  pub allowed : Allows replay it
  pub room : end_behind at it + commit_size * length (after_record it replay).gist.prepared ≤ limit

-- what records stand for, behind others
abbrev pub after_records : List Record → Replay → Replay
after_records [] replay = replay
after_records (it ∷ rest) replay = after_records rest (after_record it replay)

-- where the frames of records end
abbrev pub end_of_records : ℕ → List Record → ℕ
end_of_records at [] = at
end_of_records at (it ∷ rest) = end_of_records (end_behind at it) rest

-- each of these records fits behind those before it
abbrev pub AllFit : ℕ → Replay → List Record → Type 0
AllFit at replay [] = Unit {0}
AllFit at replay (it ∷ rest) = Fits at replay it × AllFit (end_behind at it) (after_record it replay) rest
