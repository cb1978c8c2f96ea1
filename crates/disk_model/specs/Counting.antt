-- Which calls on a storage in memory fail, and what stays. (This project.)
use Rattle.std.specs.Prelude.{◌≡◌, ◌⊎◌, ◌↔◌, ◌≤◌, ◌<◌, ◌+◌, ℕ, Result, IsErr, Contains}
use Rattle.disk_model.specs.declared.storage.Failed.{Failed}
use Rattle.disk_model.specs.declared.memory.MemoryStorage.{MemoryStorage}
use Rattle.disk_model.specs.File.{File}
use Rattle.disk_model.specs.Disk.{now}
use Rattle.disk_model.specs.Memory.{memory_disk}
use Rattle.disk_model.specs.Past.{AddsCall}
use Rattle.fault_counts.specs.Rose.{last, Rose}

-- A call fails exactly where its number, from 1, was given, where there was no memory to note it, or at the last value of the count.
-- Where it fails, each file is as it was.
pub record FailsExactly {T : Type 0} (result : Result T Failed) (old new : MemoryStorage) : Type 0 where
  pub exactly : IsErr result ↔ (Contains old.failing.items (old.calls + 1) ⊎ (old.starved < new.starved) ⊎ (last ≤ old.calls))
  pub starved : old.starved ≤ new.starved
  pub failing : new.failing.items ≡ old.failing.items
  pub nothing : IsErr result → (file : ℕ) → now (memory_disk new) file ≡ now (memory_disk old) file

-- what a call leaves of all but the files and the counts
pub record SameFiles (old new : MemoryStorage) : Type 0 where
  pub past : new.past.items ≡ old.past.items
  pub start : new.start.items ≡ old.start.items
  pub files : new.files.items ≡ old.files.items
  pub failing : new.failing.items ≡ old.failing.items

-- one call was counted, and the files are as they were
pub record Counted {T : Type 0} (result : Result T Failed) (old new : MemoryStorage) : Type 0 where
  pub later : old.calls ≤ new.calls
  pub counted : old.calls < last → new.calls ≡ old.calls + 1
  pub spent : last ≤ old.calls → (new.calls ≡ old.calls) × IsErr result
  pub no_fewer : old.faults ≤ new.faults
  pub cause : IsErr result → Rose old.faults new.faults
  pub exactly : IsErr result ↔ (Contains old.failing.items (old.calls + 1) ⊎ (last ≤ old.calls))
  pub starved : new.starved ≡ old.starved
  pub same : SameFiles old new

-- one fault more, and all else is as it was
pub record Faulted (old new : MemoryStorage) : Type 0 where
  pub no_fewer : old.faults ≤ new.faults
  pub cause : Rose old.faults new.faults
  pub calls : new.calls ≡ old.calls
  pub same : SameFiles old new

-- a call was noted, or there was no memory: the counts stay
pub record SameBut (old new : MemoryStorage) : Type 0 where
  pub calls : new.calls ≡ old.calls
  pub faults : new.faults ≡ old.faults
  pub starved : new.starved ≡ old.starved
  pub start : new.start.items ≡ old.start.items
  pub failing : new.failing.items ≡ old.failing.items

-- the call that is counted was noted, and it does this step
abbrev pub Notes : ℕ → (File → File) → MemoryStorage → MemoryStorage → Type 0
Notes file step old new = AddsCall old.calls file step old.past.items new.past.items
