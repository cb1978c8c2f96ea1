-- What does a frame that was made in an array hold?
use Rattle.std.specs.Prelude.{ℕ, List, take}
use Rattle.frame_codec.specs.declared.short.ShortFrame.{ShortFrame}

-- the bytes of the frame: the first ones of the array
abbrev pub short_bytes : ShortFrame → List ℕ
short_bytes frame = take frame.len frame.bytes
