-- The slots that the bytes of a page tell of, and what is kept of those bytes. (This project.)
use Rattle.std.specs.Prelude.{◌≡◌, ◌≤◌, ◌<◌, ℕ, ◌+◌, ◌*◌, List, length, map}
use Rattle.std.specs.List.{range_with_len}
use Rattle.page_format.specs.Pages.{used_by}
use Rattle.page_format.specs.Format.{two_at, four_at, row_at, IsOf}

-- how many slots there are, by the bytes
abbrev pub count_in : List ℕ → ℕ
count_in bytes = two_at bytes 4

-- the records that the entries of the directory tell of, slot by slot
unfoldable pub slots_of : List ℕ → List (List ℕ)
slots_of bytes = map (row_at bytes) (range_with_len 0 (count_in bytes))

-- the directory is in the page, and the records stand elsewhere and do not overlap
pub record IsLaid (bytes : List ℕ) : Type 0 where
  pub whole : length bytes ≡ 4096
  pub directory : 8 + 4 * count_in bytes ≤ 4096
  pub elsewhere : (slot at : ℕ) → slot < count_in bytes → IsOf bytes slot at → (8 + 4 * count_in bytes ≤ at) × (at < 4096)
  pub apart : (one other at : ℕ) → one < count_in bytes → other < count_in bytes → IsOf bytes one at → IsOf bytes other at → one ≡ other

-- what is kept of the bytes of a page: they are one, with a number from 1 on, and the records fit beside the directory
pub record IsKept (bytes : List ℕ) : Type 0 where
  pub laid : IsLaid bytes
  pub zero : two_at bytes 6 ≡ 0
  pub numbered : 1 ≤ four_at bytes 0
  pub room : used_by (slots_of bytes) ≤ 4096
