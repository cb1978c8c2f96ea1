-- What a veiled storage tells. (This project.)
use Rattle.disk_model.specs.declared.veiled.Veiled.{Veiled}
use Rattle.disk_model.specs.Disk.{Disk}
use Rattle.disk_model.specs.Memory.{memory_disk}

-- all that the storage in it tells
abbrev pub veiled_disk : Veiled → Disk
veiled_disk v = memory_disk v.storage
