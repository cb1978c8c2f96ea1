-- Bytes by file number, as a storage in memory holds them. (This project.)
use Rattle.std.specs.Prelude.{ℕ, ◌+◌, List, [], ◌∷◌, take, ◌==◌, if◌then◌else◌, Option, Some, None}
use Rattle.disk_model.specs.declared.past.FileBytes.{FileBytes}
use Rattle.disk_model.specs.File.{written}

-- the files and their bytes, without the room that their buffers have
abbrev pub held : List FileBytes → List (ℕ × List ℕ)
held [] = []
held (given ∷ files) = (given.file, given.bytes.items) ∷ held files

-- the bytes of a file, and none where it is not among them
abbrev pub bytes_in : List (ℕ × List ℕ) → ℕ → List ℕ
bytes_in [] file = []
bytes_in (entry ∷ files) file = if entry.0 == file then entry.1 else bytes_in files file

-- the files, with these bytes for one of them
abbrev pub put_in : ℕ → List ℕ → List (ℕ × List ℕ) → List (ℕ × List ℕ)
put_in file bytes [] = (file, bytes) ∷ []
put_in file bytes (entry ∷ files) = if entry.0 == file then (file, bytes) ∷ files else entry ∷ put_in file bytes files

-- the files, with a write to one of them
abbrev pub write_in : ℕ → ℕ → List ℕ → List (ℕ × List ℕ) → List (ℕ × List ℕ)
write_in file at bytes files = put_in file (written at bytes (bytes_in files file)) files

-- the files, with one of them cut to a length
abbrev pub cut_in : ℕ → ℕ → List (ℕ × List ℕ) → List (ℕ × List ℕ)
cut_in file len [] = []
cut_in file len (entry ∷ files) = if entry.0 == file then (file, take len entry.1) ∷ files else entry ∷ cut_in file len files

-- the place of a file, counted from i on
abbrev pub place_from : ℕ → ℕ → List FileBytes → Option ℕ
place_from file i [] = None
place_from file i (given ∷ files) = if given.file == file then Some i else place_from file (i + 1) files
