-- The frame of a record, on the stack or in memory. (This project.)
use Rattle.std.specs.Prelude.{ℕ, List}
use Rattle.redo_journal.specs.declared.append.Spelt.{Spelt}
use Rattle.redo_journal.specs.declared.append.Spelt.TheVariants.{Short, Long}
use Rattle.frame_codec.specs.Short.{short_bytes}

-- the bytes of the frame
abbrev pub spelt_bytes : Spelt → List ℕ
spelt_bytes (Short frame) = short_bytes frame
spelt_bytes (Long bytes crc) = bytes.items

-- its checksum
abbrev pub spelt_sum : Spelt → ℕ
spelt_sum (Short frame) = frame.crc
spelt_sum (Long bytes crc) = crc
