-- What stands before a frame's body?
use Rattle.std.specs.Prelude.{ℕ, List, ◌+◌, ◌∷◌, ◌++◌}
use Rattle.frame_codec.specs.Bytes.{le16, le32}

-- the 19 bytes before the body: timestamp 0, type, server 1, size, end position, flags 0
-- (MySQL Internals Manual, "Event Header")
unfoldable pub header_of : ℕ → ℕ → ℕ → List ℕ
header_of kind size end = le32 0 ++ kind ∷ (le32 1 ++ le32 size ++ le32 end ++ le16 0)

-- the same for an event of this type whose body has so many bytes, at a file position
abbrev pub head_of : ℕ → ℕ → ℕ → List ℕ
head_of at kind len = header_of kind (23 + len) (at + (23 + len))
