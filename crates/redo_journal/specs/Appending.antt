-- What is written of a record, and how the journal goes on behind it. (This project.)
use Rattle.std.specs.Prelude.{◌≡◌, ℕ, List, [], ◌∷◌, ◌++◌, Option, Some, None, Bool, is_some, IsTrue}
use Rattle.disk_model.specs.File.{IsSettled}
use Rattle.disk_model.specs.Disk.{Disk, now, Keeps}
use Rattle.frame_codec.specs.Frame.{checksum_of, frame_of}
use Rattle.framed_file.specs.Framed.{header_len}
use Rattle.redo_journal.specs.declared.record.Record.{Record}
use Rattle.redo_journal.specs.declared.journal.Area.{Area}
use Rattle.redo_journal.specs.declared.journal.Journal.{Journal}
use Rattle.redo_journal.specs.declared.journal.Side.TheVariants.{First}
use Rattle.redo_journal.specs.Areas.{area_checksum}
use Rattle.redo_journal.specs.Journals.{Holds, OnlyBoth, file_on, IsBehind, IsJournal, IsKept}
use Rattle.redo_journal.specs.Records.{record_event}
use Rattle.redo_journal.specs.Replays.{start, after_records, end_of_records, Fits}

-- these bytes are the frame of the record at a place behind a checksum, and this is its checksum
pub record Spells (at prev : ℕ) (it : Record) (bytes : List ℕ) (sum : ℕ) : Type 0 where
  pub frame : bytes ≡ frame_of prev at (record_event it)
  pub sum_is : sum ≡ checksum_of prev at (record_event it)

-- the record fits behind these
abbrev pub FitsBehind : List Record → Record → Type 0
FitsBehind records it = Fits (end_of_records header_len records) (after_records records start) it

-- the records with one more
abbrev pub with_one : List Record → Record → List Record
with_one records it = records ++ it ∷ []

-- an area is open
abbrev pub has_area : Journal → Bool
has_area journal = is_some journal.area

-- the sequence of this area, or 0 without one
abbrev pub sequence_on : Option Area → ℕ
sequence_on None = 0
sequence_on (Some area) = area.sequence

-- the sequence of the area that is open, or 0 before there is one
abbrev pub sequence_of : Journal → ℕ
sequence_of journal = sequence_on journal.area

-- the number of this area's file
abbrev pub file_with : Option Area → ℕ → ℕ
file_with None first = first
file_with (Some area) first = file_on area.side first

-- the number of the file whose area is open
abbrev pub open_file : Journal → ℕ
open_file journal = file_with journal.area journal.first_file

-- the first area of a journal, as it is once it is made
pub record IsFirst (it : Area) : Type 0 where
  pub side : it.side ≡ First
  pub sequence : it.sequence ≡ 0
  pub len : it.len ≡ 32
  pub crc : it.crc ≡ area_checksum 0
  pub count : it.records ≡ 0

-- where the next record goes: to the area that is open, or to the first one, which is still to be made
abbrev pub GoesTo : Option Area → Area → Type 0
GoesTo None it = IsFirst it
GoesTo (Some area) it = area ≡ it

-- The journal stands for these records, and where contents are told its files hold them.
pub record IsOpen (journal : Journal) (records : List Record) (disk : Disk) : Type 0 where
  pub is : IsJournal journal records
  pub kept : IsTrue disk.told → (wanted : Option ℕ) × (synced : List Record) × IsKept journal wanted synced records (now disk)

-- the record fits behind what the journal stands for
abbrev pub Admits : Journal → Record → Type 0
Admits journal it = (records : List Record) × IsJournal journal records × FitsBehind records it

-- these are the area's next bytes: the frame of a record that fits behind those of the area, and its checksum
abbrev pub IsNextFrame : Area → List ℕ → ℕ → Type 0
IsNextFrame area bytes sum = (records : List Record) × (it : Record) × IsBehind area records × FitsBehind records it × Spells area.len area.crc it bytes sum

-- where contents are told, the journal's files hold what it stands for
abbrev pub HasFiles : Journal → Disk → Type 0
HasFiles journal disk = IsTrue disk.told → (wanted : Option ℕ) × (synced : List Record) × (records : List Record) × IsKept journal wanted synced records (now disk)

-- what a call says of the records that the journal's files hold, the first of them synced, where contents are told
abbrev pub OfKept : Journal → Disk → (Option ℕ → List Record → List Record → Type 0) → Type 0
OfKept journal disk P = (wanted : Option ℕ) (synced records : List Record) → IsTrue disk.told → IsKept journal wanted synced records (now disk) → P wanted synced records

-- and what it says of them with a record more, where that one fits behind them
abbrev pub OfMore : Record → Journal → Disk → (Option ℕ → List Record → List Record → Type 0) → Type 0
OfMore it journal disk P = OfKept journal disk (λ wanted synced records. FitsBehind records it → P wanted synced (with_one records it))

-- the journal stands for the same records
abbrev pub StandsAsBefore : Journal → Journal → Type 0
StandsAsBefore old new = (records : List Record) → IsJournal old records → IsJournal new records

-- the journal stands for one record more, where it fits
abbrev pub StandsForMore : Record → Journal → Journal → Type 0
StandsForMore it old new = (records : List Record) → IsJournal old records → FitsBehind records it → IsJournal new (with_one records it)

-- the files hold the same records, as many of them synced
abbrev pub KeepsAll : Journal → Disk → Journal → Disk → Type 0
KeepsAll old before new after = OfKept old before (λ wanted synced records. IsKept new wanted synced records (now after))

-- the files hold one record more, which is not synced
abbrev pub KeepsMore : Record → Journal → Disk → Journal → Disk → Type 0
KeepsMore it old before new after = OfMore it old before (λ wanted synced records. IsKept new wanted synced records (now after))

-- the files hold the same records, all of them synced
abbrev pub KeepsSynced : Journal → Disk → Journal → Disk → Type 0
KeepsSynced old before new after = OfKept old before (λ wanted synced records. IsKept new wanted records records (now after))

-- where contents are told and an area is open, nothing is pending in its file
abbrev pub SettlesFile : Journal → Disk → Type 0
SettlesFile journal disk = IsTrue disk.told → IsTrue (has_area journal) → IsSettled (now disk (open_file journal))

-- at each moment a crash leaves, of the journal's two files, all synced records of these and a first part of the others
abbrev pub Leaves : Journal → Disk → Disk → Option ℕ → List Record → List Record → Type 0
Leaves journal before after wanted synced records = Keeps before after (OnlyBoth journal.first_file (now before) (Holds wanted synced records))

-- no record that was synced is lost
abbrev pub LosesNone : Journal → Disk → Disk → Type 0
LosesNone journal before after = OfKept journal before (Leaves journal before after)

-- no record that was synced is lost, while one more is added
abbrev pub LosesNoneBehind : Record → Journal → Disk → Disk → Type 0
LosesNoneBehind it journal before after = OfMore it journal before (Leaves journal before after)

-- P of the record whose frame these bytes are at the end of an area
abbrev pub OfFrame : Area → List ℕ → ℕ → (Record → Type 0) → Type 0
OfFrame area bytes sum P = (it : Record) → Spells area.len area.crc it bytes sum → P it
