-- What the two files of a journal stand for, and what a `Journal` stands for. (This project.)
use Rattle.std.specs.Prelude.{◌≡◌, ◌≢◌, ◌⊎◌, ◌≤◌, ◌+◌, ℕ, zero, suc, List, [], length, Option, Some, None, Bool, false, ◌==◌, cond, nat_le}
use Rattle.disk_model.specs.File.{File, IsImage, IsSettled}
use Rattle.disk_model.specs.Grew.{OnlyGrew}
use Rattle.framed_file.specs.Framed.{IsPrefix, header_len, IsFaithful}
use Rattle.redo_journal.specs.declared.record.Record.{Record}
use Rattle.redo_journal.specs.declared.journal.Side.{Side}
use Rattle.redo_journal.specs.declared.journal.Side.TheVariants.{First, Second}
use Rattle.redo_journal.specs.declared.journal.Area.{Area}
use Rattle.redo_journal.specs.declared.journal.Journal.{Journal}
use Rattle.redo_journal.specs.Replays.{start, end_of_records, AllFit}
use Rattle.redo_journal.specs.Areas.{IsAreaHeader, open_sequence, area_of, area_crc, IsArea}

-- the area is open with this sequence
abbrev pub has_sequence : ℕ → Option ℕ → Bool
has_sequence sequence None = false
has_sequence sequence (Some it) = it == sequence

-- where no sequence is asked for: the area with the greater one, and of two with one the first
abbrev pub greater_side : Option ℕ → Option ℕ → Option Side
greater_side None None = None
greater_side (Some a) None = Some First
greater_side None (Some b) = Some Second
greater_side (Some a) (Some b) = cond (nat_le b a) (Some First) (Some Second)

-- Which file is read, of two with these open sequences: the area of the sequence that is asked for, or of the greatest; of two with
-- one sequence the first.
abbrev pub chosen : Option ℕ → Option ℕ → Option ℕ → Option Side
chosen None a b = greater_side a b
chosen (Some sequence) a b = cond (has_sequence sequence a) (Some First) (cond (has_sequence sequence b) (Some Second) None)

-- which of two files is read
abbrev pub side_read : Option ℕ → List ℕ → List ℕ → Option Side
side_read wanted first second = chosen wanted (open_sequence first) (open_sequence second)

-- With no area to be read the journal has no records: where none is asked for and the first file has no more than a header, or where
-- the first sequence is.
abbrev pub IsFresh : Option ℕ → List ℕ → Type 0
IsFresh None first = length first ≤ header_len
IsFresh (Some zero) first = Unit {0}
IsFresh (Some (suc n)) first = ⊥

-- an open area with these records
abbrev pub HasRecords : List ℕ → List Record → Type 0
HasRecords bytes records = (sequence : ℕ) × (open_sequence bytes ≡ Some sequence) × IsArea sequence bytes records

-- the records of the file that is read
abbrev pub StandsOn : Option Side → Option ℕ → List ℕ → List ℕ → List Record → Type 0
StandsOn (Some First) wanted first second records = HasRecords first records
StandsOn (Some Second) wanted first second records = HasRecords second records
StandsOn None wanted first second records = IsFresh wanted first × (records ≡ [])

-- The records that two files stand for.
abbrev pub Stands : Option ℕ → List ℕ → List ℕ → List Record → Type 0
Stands wanted first second records = StandsOn (side_read wanted first second) wanted first second records

-- the two files are no journal: there is no area to be read, and there may not be none
abbrev pub IsNoJournal : Option ℕ → List ℕ → List ℕ → Type 0
IsNoJournal wanted first second = (side_read wanted first second ≡ None) × (IsFresh wanted first → ⊥)

-- the image of the two files has all records of the first list, and then some more of the second
pub record IsBetween (wanted : Option ℕ) (low high : List Record) (first second : List ℕ) : Type 0 where
  pub records : List Record
  pub stands : Stands wanted first second records
  pub at_least : IsPrefix low records
  pub at_most : IsPrefix records high

-- this is a faithful crash image of a journal's file
abbrev pub IsFaithfulImage : File → List ℕ → Type 0
IsFaithfulImage file image = IsImage file image × IsFaithful IsAreaHeader file image

-- each faithful crash image of the two files is between these
abbrev pub Holds : Option ℕ → List Record → List Record → File → File → Type 0
Holds wanted low high one other = (first second : List ℕ) → IsFaithfulImage one first → IsFaithfulImage other second → IsBetween wanted low high first second

-- P of a journal's two files at a moment; all other files are as they were
abbrev pub OnlyBoth : ℕ → (ℕ → File) → (File → File → Type 0) → (ℕ → File) → Type 0
OnlyBoth first was P files = ((f : ℕ) → f ≢ first → f ≢ first + 1 → files f ≡ was f) × P (files first) (files (first + 1))

-- the number of a file of the journal
abbrev pub file_on : Side → ℕ → ℕ
file_on First first = first
file_on Second first = first + 1

-- the number of the file beside it
abbrev pub file_beside : Side → ℕ → ℕ
file_beside First first = first + 1
file_beside Second first = first

-- the number of the journal's first file
abbrev pub first_file_of : Journal → ℕ
first_file_of journal = journal.first_file

-- the area is as it is after these records
pub record IsBehind (area : Area) (records : List Record) : Type 0 where
  pub fit : AllFit header_len start records
  pub count : area.records ≡ length records
  pub len : area.len ≡ end_of_records header_len records
  pub crc : area.crc ≡ area_crc area.sequence records

-- the journal stands for these records, whatever its files hold
abbrev pub IsJournalOn : Option Area → List Record → Type 0
IsJournalOn None records = records ≡ []
IsJournalOn (Some area) records = IsBehind area records

-- the journal stands for these records, whatever its files hold
abbrev pub IsJournal : Journal → List Record → Type 0
IsJournal journal records = IsJournalOn journal.area records

-- No area is open in the files, and both are synced.
pub record HasNoArea (wanted : Option ℕ) (one other : File) : Type 0 where
  pub none : side_read wanted one.bytes other.bytes ≡ None
  pub fresh : IsFresh wanted one.bytes
  pub first_settled : IsSettled one
  pub second_settled : IsSettled other

-- The file has the area with these records and nothing else; the first of them were there at the last sync.
pub record HasArea (area : Area) (settled records : List Record) (file : File) : Type 0 where
  pub bytes : file.bytes ≡ area_of area.sequence records
  pub first_part : IsPrefix settled records
  pub synced : file.synced ≡ area_of area.sequence settled
  pub grew : OnlyGrew file.synced file.steps file.bytes

-- where the area is open: it is the one that is read, and the file beside it is synced
pub record IsKeptIn (it : Area) (wanted : Option ℕ) (synced records : List Record) (first : ℕ) (files : ℕ → File) : Type 0 where
  pub read : side_read wanted (files first).bytes (files (first + 1)).bytes ≡ Some it.side
  pub area : HasArea it synced records (files (file_on it.side first))
  pub beside : IsSettled (files (file_beside it.side first))

-- The files of the journal hold these records, the first of them synced.
abbrev pub IsKeptOn : Option Area → Option ℕ → List Record → List Record → ℕ → (ℕ → File) → Type 0
IsKeptOn None wanted synced records first files = HasNoArea wanted (files first) (files (first + 1)) × (synced ≡ [])
IsKeptOn (Some area) wanted synced records first files = IsKeptIn area wanted synced records first files

-- The journal stands for these records, and its files hold them, the first of them synced.
pub record IsKept (journal : Journal) (wanted : Option ℕ) (synced records : List Record) (files : ℕ → File) : Type 0 where
  pub is : IsJournal journal records
  pub kept : IsKeptOn journal.area wanted synced records journal.first_file files

-- the bytes of a file at the start: its contents, or a faithful crash image of it
abbrev pub IsAtStart : File → List ℕ → Type 0
IsAtStart file bytes = (bytes ≡ file.bytes) ⊎ IsFaithfulImage file bytes

-- two files read as two others: the same records, or no journal
pub record ReadsAs (wanted : Option ℕ) (first second first_was second_was : List ℕ) : Type 0 where
  pub stands : (records : List Record) → Stands wanted first_was second_was records → Stands wanted first second records
  pub none : IsNoJournal wanted first_was second_was → IsNoJournal wanted first second

-- Each faithful crash image of the two files reads as their contents at the start, or as some faithful image of them then.
pub record IsSafe (wanted : Option ℕ) (one_was other_was one other : File) : Type 0 where
  pub reads : (first second : List ℕ) → IsFaithfulImage one first → IsFaithfulImage other second
      → (first_was second_was : List ℕ) × IsAtStart one_was first_was × IsAtStart other_was second_was × ReadsAs wanted first second first_was second_was
