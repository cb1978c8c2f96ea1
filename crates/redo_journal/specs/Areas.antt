-- What a file of a journal holds: a header with a gate, and records. (This project.)
use Rattle.std.specs.Prelude.{◌≡◌, ◌<◌, ◌^◌, ℕ, List, [], ◌∷◌, ◌++◌, codes, take, drop, Option, Some, None, cond}
use Rattle.std.specs.Str.{bytes_eq}
use Rattle.std.specs.Int.{w64, from_le_bytes}
use Rattle.frame_codec.specs.Bytes.{le32, le64}
use Rattle.frame_codec.specs.Crc.{crc_of}
use Rattle.frame_codec.specs.Frame.{IsFrameAt}
use Rattle.frame_codec.specs.Chain.{last_checksum}
use Rattle.framed_file.specs.Framed.{header_len, framed}
use Rattle.redo_journal.specs.declared.record.Record.{Record}
use Rattle.redo_journal.specs.Records.{record_event, record_events}
use Rattle.redo_journal.specs.Replays.{start, after_records, end_of_records, Fits, AllFit}

-- the fields before the gate: the word, version 1, the sequence, and seven zeros
unfoldable pub area_fields : ℕ → List ℕ
area_fields sequence = codes "PLUGDJRN" ++ le32 1 ++ le64 sequence ++ 0 ∷ 0 ∷ 0 ∷ 0 ∷ 0 ∷ 0 ∷ 0 ∷ []

-- the checksum of these fields; the gate is not under it
unfoldable pub area_checksum : ℕ → ℕ
area_checksum sequence = crc_of 0 (area_fields sequence)

-- a header with this gate: 1 where it is open
unfoldable pub area_header : ℕ → ℕ → List ℕ
area_header sequence gate = area_fields sequence ++ gate ∷ le32 (area_checksum sequence)

-- where the gate byte stands
abbrev pub gate_place : ℕ
gate_place = 27

-- a valid header, open or not, and its checksum
pub record IsAreaHeader (header : List ℕ) (checksum : ℕ) : Type 0 where
  pub sequence : ℕ
  pub gate : ℕ
  pub small : sequence < 2 ^ 64
  pub is : header ≡ area_header sequence gate
  pub sum : checksum ≡ area_checksum sequence

-- the sequence that a header tells
abbrev pub told_sequence : List ℕ → ℕ
told_sequence bytes = from_le_bytes w64 (take 8 (drop 12 bytes))

-- the sequence of an open header at the front of these bytes, if there is one
abbrev pub open_sequence : List ℕ → Option ℕ
open_sequence bytes = cond (bytes_eq (take header_len bytes) (area_header (told_sequence bytes) 1)) (Some (told_sequence bytes)) None

-- the bytes of an open area with these records
abbrev pub area_of : ℕ → List Record → List ℕ
area_of sequence records = framed (area_header sequence 1) (area_checksum sequence) (record_events records)

-- the checksum of the last record's frame, or the header's
abbrev pub area_crc : ℕ → List Record → ℕ
area_crc sequence records = last_checksum (area_checksum sequence) header_len (record_events records)

-- The records of an open area: as many as fit, one frame directly after the other.
pub record IsArea (sequence : ℕ) (bytes : List ℕ) (records : List Record) : Type 0 where
  pub fit : AllFit header_len start records
  pub rest : List ℕ
  pub stands : bytes ≡ area_of sequence records ++ rest
  pub no_more : (it : Record) → Fits (end_of_records header_len records) (after_records records start) it
      → IsFrameAt (area_crc sequence records) (end_of_records header_len records) rest (record_event it) → ⊥
