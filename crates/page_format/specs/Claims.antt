-- What taking the bytes of a record does to those that are taken. (This project.)
use Rattle.std.specs.Prelude.{◌≡◌, ◌≤◌, ◌<◌, ℕ, ◌+◌, Bool, true, false, List, slice_index_or, count_by}

-- a byte is taken
abbrev pub is_taken : List Bool → ℕ → Bool
is_taken taken at = slice_index_or taken at false

-- how many bytes are taken
abbrev pub taken_of : List Bool → ℕ
taken_of taken = count_by (λ it. it) taken

-- the bytes of a record, in the page and free before, are taken now, beside those that were
pub record Takes (place len : ℕ) (old new : List Bool) : Type 0 where
  pub free : (at : ℕ) → place ≤ at → at < place + len → (at < 4096) × (is_taken old at ≡ false)
  pub taken : (at : ℕ) → place ≤ at → at < place + len → is_taken new at ≡ true
  pub below : (at : ℕ) → at < place → is_taken new at ≡ is_taken old at
  pub above : (at : ℕ) → place + len ≤ at → is_taken new at ≡ is_taken old at
  pub counted : taken_of new ≡ taken_of old + len

-- a byte of the record is not in the page, or is taken
pub record Meets (place len : ℕ) (old : List Bool) : Type 0 where
  pub at : ℕ
  pub begun : place ≤ at
  pub not_ended : at < place + len
  pub not_free : at < 4096 → is_taken old at ≡ true
