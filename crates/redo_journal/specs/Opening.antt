-- What an opening of a journal does, and what it leaves. (This project.)
use Rattle.std.specs.Prelude.{◌≡◌, ◌⊎◌, ◌≤◌, ◌+◌, ℕ, List, Option, Some, None, Result, OnOk, IsErr, IsTrue}
use Rattle.fault_counts.specs.Rose.{Rose}
use Rattle.disk_model.specs.declared.storage.Failed.{Failed}
use Rattle.disk_model.specs.File.{File}
use Rattle.disk_model.specs.Start.{settled}
use Rattle.disk_model.specs.Disk.{Disk, now, contents, Keeps}
use Rattle.redo_journal.specs.declared.choose.Found.{Found}
use Rattle.redo_journal.specs.declared.journal.Journal.{Journal}
use Rattle.redo_journal.specs.declared.record.Record.{Record}
use Rattle.redo_journal.specs.Areas.{open_sequence}
use Rattle.redo_journal.specs.Journals.{side_read, Stands, IsNoJournal, OnlyBoth, IsKept, IsSafe}
use Rattle.redo_journal.specs.Choosing.{IsFound}

-- which side of these two files is read, as it was found
abbrev pub IsReadOf : Option ℕ → List ℕ → List ℕ → Option Found → Type 0
IsReadOf wanted first second None = side_read wanted first second ≡ None
IsReadOf wanted first second (Some found) = IsFound (side_read wanted first second) (open_sequence first) (open_sequence second) found

-- the file is as it was, or synced
abbrev pub MaySynced : File → File → Type 0
MaySynced was file = (file ≡ was) ⊎ (file ≡ settled was.bytes)

-- both files may be synced, and else are as they were
abbrev pub BothMaySynced : File → File → File → File → Type 0
BothMaySynced one_was other_was one other = MaySynced one_was one × MaySynced other_was other

-- both files of a journal are synced, the first one first
pub record SettlesBoth (first : ℕ) (result : Result Unit Failed) (start end : Disk) : Type 0 where
  pub told : end.told ≡ start.told
  pub later : start.calls ≤ end.calls
  pub no_fewer : start.faults ≤ end.faults
  pub cause : IsErr result → Rose start.faults end.faults
  pub moments : IsTrue start.told → Keeps start end (OnlyBoth first (now start) (BothMaySynced (now start first) (now start (first + 1))))
  pub ok : IsTrue start.told → OnOk result ((now end first ≡ settled (contents start first)) × (now end (first + 1) ≡ settled (contents start (first + 1))))

-- the records are those that the files stood for, and the journal stands for them, all of them synced
abbrev pub Opens : Option ℕ → ℕ → Disk → Disk → Journal → List Record → Type 0
Opens wanted first start end journal records = Stands wanted (contents start first) (contents start (first + 1)) records × IsKept journal wanted records records (now end)

-- a crash at any moment leaves what may be read as before
abbrev pub StaysSafe : Option ℕ → ℕ → Disk → Disk → Type 0
StaysSafe wanted first start end = Keeps start end (OnlyBoth first (now start) (IsSafe wanted (now start first) (now start (first + 1))))

-- the journal's two files are none
abbrev pub HasNoJournal : Option ℕ → ℕ → Disk → Type 0
HasNoJournal wanted first disk = IsNoJournal wanted (contents disk first) (contents disk (first + 1))
