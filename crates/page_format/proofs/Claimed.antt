-- What is known of the records of the first slots once they have taken their bytes.
use Rattle.std.proofs.Common.{◌≡◌, ℕ, ◌+◌, ◌*◌, ◌<◌, ◌≤◌, Bool, true, List, length, take}
use Rattle.std.specs.Prelude.{sum_by}
use Rattle.page_format.specs.Claims.{is_taken, taken_of}
use Rattle.page_format.specs.Format.{IsOf}
use Rattle.page_format.specs.Kept.{count_in, slots_of}

-- the slot is one of so many, and the byte at a place is of its record
pub record IsOwner (count at : ℕ) (bytes : List ℕ) : Type 0 where
  pub slot : ℕ
  pub among : slot < count
  pub of : IsOf bytes slot at

-- the bytes of the header and the directory are taken, and those of the records of so many slots, and no others; no byte was taken twice
pub record Claimed (count : ℕ) (bytes : List ℕ) (taken : List Bool) : Type 0 where
  pub whole : length bytes ≡ 4096
  pub long : length taken ≡ 4096
  pub directory : 8 + 4 * count_in bytes ≤ 4096
  pub first : (at : ℕ) → at < 8 + 4 * count_in bytes → is_taken taken at ≡ true
  pub records : (slot at : ℕ) → slot < count → IsOf bytes slot at → is_taken taken at ≡ true
  pub owned : (at : ℕ) → is_taken taken at ≡ true → 8 + 4 * count_in bytes ≤ at → IsOwner count at bytes
  pub elsewhere : (slot at : ℕ) → slot < count → IsOf bytes slot at → (8 + 4 * count_in bytes ≤ at) × (at < 4096)
  pub apart : (one other at : ℕ) → one < count → other < count → IsOf bytes one at → IsOf bytes other at → one ≡ other
  pub counted : taken_of taken ≡ 8 + 4 * count_in bytes + sum_by length (take count (slots_of bytes))
