-- A page in its file: 4,096 bytes. First its number (4 bytes), the number of its slots (2) and zero (2). Then for each slot the place and
-- the length of its record (2 bytes each), of which a length of 0 is an empty slot. The records stand elsewhere in the page, and do not
-- overlap. Numbers have their lowest byte first. (This project.)
use Rattle.std.specs.Prelude.{◌≡◌, ◌≤◌, ◌<◌, ℕ, ◌+◌, ◌*◌, List, [], length, take, drop, slice_index, slice_index_or}

-- the number of two bytes at a place
unfoldable pub two_at : List ℕ → ℕ → ℕ
two_at bytes at = slice_index bytes at + 256 * slice_index bytes (at + 1)

-- the number of four bytes at a place
unfoldable pub four_at : List ℕ → ℕ → ℕ
four_at bytes at = two_at bytes at + 65536 * two_at bytes (at + 2)

-- where the record of a slot begins, by its entry in the directory
unfoldable pub place_of : List ℕ → ℕ → ℕ
place_of bytes slot = two_at bytes (8 + 4 * slot)

-- how many bytes the record of a slot has, by its entry
unfoldable pub length_of : List ℕ → ℕ → ℕ
length_of bytes slot = two_at bytes (10 + 4 * slot)

-- the bytes that an entry tells of
unfoldable pub row_at : List ℕ → ℕ → List ℕ
row_at bytes slot = take (length_of bytes slot) (drop (place_of bytes slot) bytes)

-- the byte at a place is one of the slot's record
pub record IsOf (bytes : List ℕ) (slot at : ℕ) : Type 0 where
  pub begun : place_of bytes slot ≤ at
  pub not_ended : at < place_of bytes slot + length_of bytes slot

-- the bytes are a page of this number with these slots; the place of an empty slot may be anything, and so may bytes of no record
pub record IsPage (number : ℕ) (bytes : List ℕ) (slots : List (List ℕ)) : Type 0 where
  pub whole : length bytes ≡ 4096
  pub numbered : four_at bytes 0 ≡ number
  pub counted : two_at bytes 4 ≡ length slots
  pub zero : two_at bytes 6 ≡ 0
  pub directory : 8 + 4 * length slots ≤ 4096
  pub rows : (slot : ℕ) → slot < length slots → row_at bytes slot ≡ slice_index_or slots slot []
  pub elsewhere : (slot at : ℕ) → slot < length slots → IsOf bytes slot at → (8 + 4 * length slots ≤ at) × (at < 4096)
  pub apart : (one other at : ℕ) → one < length slots → other < length slots → IsOf bytes one at → IsOf bytes other at → one ≡ other
