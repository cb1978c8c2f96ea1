-- Numbers in files: little-endian, at 2, 4 and 8 bytes. (This project's file formats.)
use Rattle.std.specs.Prelude.{ℕ, List}
use Rattle.std.specs.Int.{w16, w32, w64, to_le_bytes}

-- a number's two bytes, the lowest first
unfoldable pub le16 : ℕ → List ℕ
le16 n = to_le_bytes w16 n

-- a number's four bytes, the lowest first
unfoldable pub le32 : ℕ → List ℕ
le32 n = to_le_bytes w32 n

-- a number's eight bytes, the lowest first
unfoldable pub le64 : ℕ → List ℕ
le64 n = to_le_bytes w64 n
