-- One event as it stands in a file: a frame, chained to the frame before it by its checksum.
-- The first 19 bytes and the place of the checksum are MySQL's (MySQL Internals Manual, "Event Header"); the chaining, the fixed
-- fields and the limit are this project's.
use Rattle.std.specs.Prelude.{◌≡◌, ◌≤◌, ◌+◌, ℕ, List, ◌∷◌, ◌++◌, length}
use Rattle.frame_codec.specs.Bytes.{le16, le32}
use Rattle.frame_codec.specs.Crc.{crc_of}

-- an event is its type and its body
pub record Event : Type 0 where
  pub kind : ℕ
  pub body : List ℕ

-- how many bytes its frame has
abbrev pub size_of : Event → ℕ
size_of event = 23 + length event.body

-- the bytes of its frame at a file position, before the checksum: timestamp 0, type, server 1, size, end position, flags 0, body
unfoldable pub front_of : ℕ → Event → List ℕ
front_of at event = le32 0 ++ event.kind ∷ (le32 1 ++ le32 (size_of event) ++ le32 (at + size_of event) ++ le16 0 ++ event.body)

-- its checksum, behind a frame with the checksum prev
abbrev pub checksum_of : ℕ → ℕ → Event → ℕ
checksum_of prev at event = crc_of prev (front_of at event)

-- all its bytes
unfoldable pub frame_of : ℕ → ℕ → Event → List ℕ
frame_of prev at event = front_of at event ++ le32 (checksum_of prev at event)

-- no frame ends past this position
abbrev pub limit : ℕ
limit = 2147483647

-- the event's frame stands at the front of these bytes, which are those from the position on
pub record IsFrameAt (prev at : ℕ) (bytes : List ℕ) (event : Event) : Type 0 where
  pub ends : at + size_of event ≤ limit
  pub rest : List ℕ
  pub stands : bytes ≡ frame_of prev at event ++ rest
