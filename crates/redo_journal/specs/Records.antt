-- How is a record of a journal spelt? (This project.)
use Rattle.std.specs.Prelude.{List, ◌++◌, map}
use Rattle.frame_codec.specs.Bytes.{le64}
use Rattle.frame_codec.specs.Frame.{Event}
use Rattle.row_format.specs.Spelling.{counted, schema_spelling, row_image}
use Rattle.binlog_events.specs.Items.{list_spelling}
use Rattle.redo_journal.specs.declared.record.Record.{Record}
use Rattle.redo_journal.specs.declared.record.Record.TheVariants.{SnapTable, SnapRow, SnapLast, Prepare, Commit, Rollback}

-- The event of a record: a type for each, from 128 on, and its body. A row's image needs no schema to be spelt.
abbrev pub record_event : Record → Event
record_event (SnapTable it) = record { kind = 128; body = counted it.table ++ (counted it.engine ++ schema_spelling it.schema) }
record_event (SnapRow table row) = record { kind = 129; body = counted table ++ row_image row }
record_event (SnapLast number) = record { kind = 130; body = le64 number }
record_event (Prepare it) = record { kind = 131; body = le64 it.xid ++ list_spelling it.changes }
record_event (Commit xid number) = record { kind = 132; body = le64 xid ++ le64 number }
record_event (Rollback xid) = record { kind = 133; body = le64 xid }

-- the events of records, in order
abbrev pub record_events : List Record → List Event
record_events records = map record_event records
