-- The files of a storage at each moment so far, what one call does, and what a run of calls does. (This project's disk model.)
use Rattle.std.specs.Prelude.{◌≡◌, ◌≢◌, ◌⊎◌, ◌<◌, ◌≤◌, ◌+◌, ◌-◌, ℕ, min, Bool, List, ◌++◌, length, take, drop, Result, OnOk, IsErr, IsTrue}
use Rattle.fault_counts.specs.Rose.{last, Rose}
use Rattle.disk_model.specs.declared.storage.Failed.{Failed}
use Rattle.disk_model.specs.File.{File}

-- what a storage tells: its counts, and each file at each moment so far
pub record Disk : Type 0 where
  -- whether the contents are told
  pub told : Bool
  -- how many device calls were made, over all files: the moment
  pub calls : ℕ
  pub faults : ℕ
  -- each file at each moment so far
  pub at : ℕ → ℕ → File

-- the files as they are now
abbrev pub now : Disk → ℕ → File
now disk = disk.at disk.calls

-- what a read of the file gives
abbrev pub contents : Disk → ℕ → List ℕ
contents disk file = (now disk file).bytes

-- One call on a file, where the contents are told: the moments before stay, so do the other files, and this one made the step,
-- or the call failed and did nothing.
pub record Does {T : Type 0} (file : ℕ) (step : File → File → Type 0) (result : Result T Failed) (old new : Disk) : Type 0 where
  pub past : (m : ℕ) → m ≤ old.calls → new.at m ≡ old.at m
  pub others : (f : ℕ) → f ≢ file → now new f ≡ now old f
  pub here : step (now old file) (now new file) ⊎ (IsErr result × (now new file ≡ now old file))

-- One call was counted, it failed only where the count of faults rose, and it did what it does.
pub record Called {T : Type 0} (file : ℕ) (step : File → File → Type 0) (result : Result T Failed) (old new : Disk) : Type 0 where
  pub told : new.told ≡ old.told
  pub later : old.calls ≤ new.calls
  pub counted : old.calls < last → new.calls ≡ old.calls + 1
  pub spent : last ≤ old.calls → (new.calls ≡ old.calls) × IsErr result
  pub no_fewer : old.faults ≤ new.faults
  pub cause : IsErr result → Rose old.faults new.faults
  pub does : IsTrue old.told → Does file step result old new

-- a read from a place on: it is short only at the end of the file
pub record Fills (bytes : List ℕ) (at : ℕ) (old : List ℕ) (n : ℕ) (new : List ℕ) : Type 0 where
  pub count : n ≡ min (length old) (length bytes - at)
  pub bytes_are : new ≡ take n (drop at bytes) ++ drop n old

-- At each moment of a run of calls, from its first to its last, the files have P, and the moments before it stay.
pub record Keeps (old new : Disk) (P : (ℕ → File) → Type 0) : Type 0 where
  pub later : old.calls ≤ new.calls
  pub past : (m : ℕ) → m ≤ old.calls → new.at m ≡ old.at m
  pub each : (m : ℕ) → old.calls ≤ m → m ≤ new.calls → P (new.at m)

-- one file has P, and the others are as they were
abbrev pub Only : ℕ → (ℕ → File) → (File → Type 0) → (ℕ → File) → Type 0
Only file was P files = ((f : ℕ) → f ≢ file → files f ≡ was f) × P (files file)

-- what stays of the counts over some calls, and the cause of an answer that says that the device failed
pub record HasCause {T E : Type 0} (IsDevice : Result T E → Type 0) (result : Result T E) (old new : Disk) : Type 0 where
  pub told : new.told ≡ old.told
  pub later : old.calls ≤ new.calls
  pub no_fewer : old.faults ≤ new.faults
  pub cause : IsDevice result → Rose old.faults new.faults

-- so many device calls were made where it answered Ok, and no more where it did not
pub record MakesCalls {T E : Type 0} (count : ℕ) (result : Result T E) (old new : Disk) : Type 0 where
  pub exactly : OnOk result (new.calls ≡ old.calls + count)
  pub at_most : new.calls ≤ old.calls + count
