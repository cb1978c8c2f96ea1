-- What a read and a length answer, where the contents are told; and what an image has of each file. (This project.)
use Rattle.std.specs.Prelude.{◌≡◌, ℕ, List, length, Result, IfOk, IsTrue}
use Rattle.disk_model.specs.declared.storage.Failed.{Failed}
use Rattle.disk_model.specs.declared.memory.MemoryStorage.{MemoryStorage}
use Rattle.disk_model.specs.declared.choice.Choice.{Choice}
use Rattle.disk_model.specs.File.{IsImage, IsSettled}
use Rattle.disk_model.specs.Disk.{Disk, now, contents, Fills}
use Rattle.disk_model.specs.Held.{held, bytes_in}
use Rattle.disk_model.specs.Past.{until}
use Rattle.disk_model.specs.Memory.{memory_disk}
use Rattle.disk_model.specs.Choosing.{asked_in, image_of}

-- an answer of Ok is the file's length
abbrev pub GivesLength : Result ℕ Failed → Disk → ℕ → Type 0
GivesLength result disk file = IsTrue disk.told → IfOk result (λ n. n ≡ length (contents disk file))

-- an answer of Ok filled the buffer from a place of the file on
abbrev pub GivesBytes : Result ℕ Failed → Disk → ℕ → ℕ → List ℕ → List ℕ → Type 0
GivesBytes result disk file at old new = IsTrue disk.told → IfOk result (λ n. Fills (contents disk file) at old n new)

-- nothing is pending in any file
abbrev pub AllSettled : MemoryStorage → Type 0
AllSettled made = (file : ℕ) → IsSettled (now (memory_disk made) file)

-- each file has one of its crash images at the moment
abbrev pub HasImages : MemoryStorage → ℕ → MemoryStorage → Type 0
HasImages from moment made = (file : ℕ) → IsImage ((memory_disk from).at moment file) (contents (memory_disk made) file)

-- each file has what a read gave at the moment
abbrev pub HasBytes : MemoryStorage → ℕ → MemoryStorage → Type 0
HasBytes from moment made = (file : ℕ) → contents (memory_disk made) file ≡ ((memory_disk from).at moment file).bytes

-- each file has what was synced at the moment
abbrev pub HasSynced : MemoryStorage → ℕ → MemoryStorage → Type 0
HasSynced from moment made = (file : ℕ) → contents (memory_disk made) file ≡ ((memory_disk from).at moment file).synced

-- how many bytes the calls up to a moment write
abbrev pub asked_until : MemoryStorage → ℕ → ℕ
asked_until from moment = asked_in (until moment from.past.items)

-- each file has what the choice leaves of the calls up to the moment
abbrev pub HasChosen : MemoryStorage → ℕ → Choice → MemoryStorage → Type 0
HasChosen from moment choice made =
    (file : ℕ) → contents (memory_disk made) file ≡ bytes_in (image_of choice (held from.start.items) (until moment from.past.items)) file
