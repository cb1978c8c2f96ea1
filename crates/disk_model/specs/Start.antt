-- What a storage in memory began with. (This project.)
use Rattle.std.specs.Prelude.{ℕ, List, []}
use Rattle.disk_model.specs.File.{File}
use Rattle.disk_model.specs.Held.{bytes_in}

-- a file with these bytes, with nothing pending
abbrev pub settled : List ℕ → File
settled bytes = record { bytes = bytes; synced = bytes; steps = [] }

-- what a file had at first
abbrev pub first_file : List (ℕ × List ℕ) → ℕ → File
first_file start file = settled (bytes_in start file)
