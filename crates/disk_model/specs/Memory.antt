-- What a storage in memory tells. (This project.)
use Rattle.std.specs.Prelude.{true}
use Rattle.disk_model.specs.declared.memory.MemoryStorage.{MemoryStorage}
use Rattle.disk_model.specs.Disk.{Disk}
use Rattle.disk_model.specs.Held.{held}
use Rattle.disk_model.specs.Past.{replayed, until}
use Rattle.disk_model.specs.Start.{first_file}

-- its counts, and each file at each moment: what it began with, and the calls up to then
abbrev pub memory_disk : MemoryStorage → Disk
memory_disk m = record {
  told = true;
  calls = m.calls;
  faults = m.faults;
  at = λ moment file. replayed file (first_file (held m.start.items) file) (until moment m.past.items);
}
