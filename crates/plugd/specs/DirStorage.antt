-- What a storage tells that tells no contents. (This project.)
use Rattle.std.specs.Prelude.{ℕ, false, []}
use Rattle.disk_model.specs.Disk.{Disk}

-- the counts alone
abbrev pub untold_disk : ℕ → ℕ → Disk
untold_disk calls faults = record { told = false; calls = calls; faults = faults; at = λ m f. record { bytes = []; synced = []; steps = [] } }
