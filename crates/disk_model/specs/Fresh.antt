-- A storage in memory as it begins. (This project.)
use Rattle.std.specs.Prelude.{◌≡◌, ◌<◌, ℕ, Bool, true, false, not, List, [], ◌∷◌, length, get_or, ◌==◌, ◌&&◌, ◌||◌}
use Rattle.disk_model.specs.declared.past.FileBytes.{FileBytes}
use Rattle.disk_model.specs.declared.memory.MemoryStorage.{MemoryStorage}
use Rattle.disk_model.specs.Disk.{now}
use Rattle.disk_model.specs.Memory.{memory_disk}
use Rattle.disk_model.specs.Held.{bytes_in}
use Rattle.disk_model.specs.Start.{settled}

-- a file with this number is among them
abbrev pub has_file : ℕ → List FileBytes → Bool
has_file file [] = false
has_file file (given ∷ files) = (given.file == file) || has_file file files

-- no number is there twice
abbrev pub numbers_differ : List FileBytes → Bool
numbers_differ [] = true
numbers_differ (given ∷ files) = not (has_file given.file files) && numbers_differ files

-- no call was made, and the calls with these numbers will fail
pub record Begins (failing : List ℕ) (made : MemoryStorage) : Type 0 where
  pub calls : made.calls ≡ 0
  pub faults : made.faults ≡ 0
  pub starved : made.starved ≡ 0
  pub failing_is : made.failing.items ≡ failing

-- Each given file has its bytes, every other has none, and nothing is pending in any.
pub record HasFiles (files : List FileBytes) (made : MemoryStorage) : Type 0 where
  pub given : (place : ℕ) (d : FileBytes) → place < length files → now (memory_disk made) (get_or files place d).file ≡ settled (get_or files place d).bytes.items
  pub others : (file : ℕ) → has_file file files ≡ false → now (memory_disk made) file ≡ settled []

-- each file has the bytes that are held for it, with nothing pending
pub record Holding (files : List (ℕ × List ℕ)) (made : MemoryStorage) : Type 0 where
  pub each : (file : ℕ) → now (memory_disk made) file ≡ settled (bytes_in files file)
