-- How are records read: from an event, at the front of some bytes, and all of an area? (This project.)
use Rattle.std.specs.Prelude.{◌≡◌, ◌≤◌, ◌<◌, ◌+◌, ◌^◌, ℕ, List, [], ◌∷◌, ◌++◌, length, drop, Option, None, Bool, true, false, IfSome}
use Rattle.frame_codec.specs.Bytes.{le64}
use Rattle.frame_codec.specs.Frame.{Event, size_of, checksum_of, frame_of, IsFrameAt}
use Rattle.frame_codec.specs.Chain.{chain_of, last_checksum}
use Rattle.framed_file.specs.Framed.{header_len}
use Rattle.row_format.specs.Schemas.{IsSchema}
use Rattle.row_format.specs.Spelling.{Takes, HasImage}
use Rattle.binlog_events.specs.Items.{AreListed}
use Rattle.redo_journal.specs.declared.record.Record.{Record}
use Rattle.redo_journal.specs.declared.record.Record.TheVariants.{SnapTable, SnapRow, SnapLast, Prepare, Commit, Rollback}
use Rattle.redo_journal.specs.declared.replay.Replay.{Replay as Index}
use Rattle.redo_journal.specs.declared.scan.Scan.{Scan}
use Rattle.redo_journal.specs.declared.walk.Next.{Next}
use Rattle.redo_journal.specs.declared.walk.Next.TheVariants.{Taken, NoFrame, NoRecord}
use Rattle.redo_journal.specs.Records.{record_event, record_events}
use Rattle.redo_journal.specs.Replays.{Replay, start, after_records, end_of_records, Allows, Fits, AllFit}
use Rattle.redo_journal.specs.Index.{IsReplay, HasForm}

-- the event of this type with this body
abbrev pub event_with : ℕ → List ℕ → Event
event_with kind body = record { kind = kind; body = body }

-- what these records stand for, from nothing
abbrev pub told : List Record → Replay
told records = after_records records start

-- the index stands for what all of these records stand for
abbrev pub Follows : Index → List Record → Type 0
Follows index records = IsReplay index records (told records)

-- the event is this record's, which has its form
pub record Tells (replay : Replay) (event : Event) (it : Record) : Type 0 where
  pub spelt : record_event it ≡ event
  pub form : HasForm replay it

-- no record that is allowed has this event
abbrev pub TellsNone : Replay → Event → Type 0
TellsNone replay event = (it : Record) → Allows replay it → record_event it ≡ event → ⊥

-- no eight bytes of a number stand at the front
abbrev pub NoNumber : List ℕ → Type 0
NoNumber bytes = (n : ℕ) (rest : List ℕ) → Takes bytes (le64 n) rest → ⊥

-- no record that fits stands at the front of these bytes
abbrev pub NoRecordAt : ℕ → ℕ → Replay → List ℕ → Type 0
NoRecordAt prev at replay bytes = (it : Record) → Fits at replay it → IsFrameAt prev at bytes (record_event it) → ⊥

-- one record more, whose frame has so many bytes, was read at the front of these bytes
pub record Steps (old new : Scan) (bytes : List ℕ) (n : ℕ) : Type 0 where
  pub it : Record
  pub fits : Fits old.len (told old.records.items) it
  pub ends : old.len + size_of (record_event it) ≡ new.len
  pub records : new.records.items ≡ old.records.items ++ it ∷ []
  pub spelt : bytes ≡ frame_of old.crc old.len (record_event it) ++ drop n bytes
  pub size : n ≡ size_of (record_event it)
  pub crc : new.crc ≡ checksum_of old.crc old.len (record_event it)

-- the reading stands where it stood
pub record IsAsBefore (old new : Scan) : Type 0 where
  pub records : new.records.items ≡ old.records.items
  pub len : new.len ≡ old.len
  pub crc : new.crc ≡ old.crc

-- What one step of a reading found: a record that fits; no whole frame; or a frame of no record that fits, whatever follows the bytes.
abbrev pub Found : Scan → Scan → Index → List ℕ → Next → Type 0
Found old new index bytes (Taken n) = Steps old new bytes n × Follows index new.records.items
Found old new index bytes NoFrame = IsAsBefore old new × Follows index new.records.items × ((event : Event) → IsFrameAt old.crc old.len bytes event → ⊥)
Found old new index bytes NoRecord = IsAsBefore old new × ((beyond : List ℕ) → NoRecordAt old.crc old.len (told old.records.items) (bytes ++ beyond))

-- some records more were read at the front of these bytes, and the rest stands behind them
pub record Walked (old new : Scan) (bytes rest : List ℕ) : Type 0 where
  pub more : List Record
  pub records : new.records.items ≡ old.records.items ++ more
  pub fit : AllFit old.len (told old.records.items) more
  pub len : new.len ≡ end_of_records old.len more
  pub crc : new.crc ≡ last_checksum old.crc old.len (record_events more)
  pub spelt : bytes ≡ chain_of old.crc old.len (record_events more) ++ rest

-- each frame that stands behind a reading has at least so many bytes, which are more than are there
pub record Needs (scan : Scan) (rest : List ℕ) (n : ℕ) : Type 0 where
  pub more : length rest < n
  pub small : n < 2 ^ 32
  pub least : (event : Event) (beyond : List ℕ) → IsFrameAt scan.crc scan.len (rest ++ beyond) event → n ≤ size_of event

-- All records at the front of a piece were read. Either none that fits stands behind them, whatever follows the piece, which is nothing
-- where it was the last; or so many bytes are needed there, and the reading goes on.
pub record Walks (old new : Scan) (index : Index) (bytes : List ℕ) (is_last : Bool) (needs : Option ℕ) : Type 0 where
  pub rest : List ℕ
  pub walked : Walked old new bytes rest
  pub none : needs ≡ None → (beyond : List ℕ) → (is_last ≡ true → beyond ≡ []) → NoRecordAt new.crc new.len (told new.records.items) (rest ++ beyond)
  pub goes_on : IfSome needs (λ n. (is_last ≡ false) × Follows index new.records.items × Needs new rest n)

-- a reading has come behind records that all fit, the first of them chained to this checksum
pub record Reached (checksum : ℕ) (scan : Scan) : Type 0 where
  pub fit : AllFit header_len start scan.records.items
  pub len : scan.len ≡ end_of_records header_len scan.records.items
  pub crc : scan.crc ≡ last_checksum checksum header_len (record_events scan.records.items)

-- the record's body is bytes
abbrev pub IsSpellable : Record → Type 0
IsSpellable (SnapTable it) = IsSchema it.schema
IsSpellable (SnapRow table row) = HasImage row
IsSpellable (SnapLast number) = Unit {0}
IsSpellable (Prepare it) = AreListed it.changes
IsSpellable (Commit xid number) = Unit {0}
IsSpellable (Rollback xid) = Unit {0}

-- the record is one that is written without memory
abbrev pub is_short : Record → Bool
is_short (Commit xid number) = true
is_short (Rollback xid) = true
is_short _ = false
