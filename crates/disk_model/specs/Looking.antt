-- Some calls that only look: what they leave. (This project's disk model.)
use Rattle.std.specs.Prelude.{◌≡◌, ◌≤◌, ℕ, IsTrue}
use Rattle.disk_model.specs.File.{File}
use Rattle.disk_model.specs.Disk.{Disk, now, Keeps}

-- all files as they were
abbrev pub IsUntouched : Disk → (ℕ → File) → Type 0
IsUntouched start files = (f : ℕ) → files f ≡ now start f

-- some calls only looked: the counts go on, and at each moment all files are as they were
pub record LooksOnly (start end : Disk) : Type 0 where
  pub told : end.told ≡ start.told
  pub later : start.calls ≤ end.calls
  pub no_fewer : start.faults ≤ end.faults
  pub moments : IsTrue start.told → Keeps start end (IsUntouched start)
