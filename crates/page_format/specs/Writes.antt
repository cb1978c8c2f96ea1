-- What writes leave of the bytes of a page. (This project.)
use Rattle.std.specs.Prelude.{◌≡◌, ◌≤◌, ◌<◌, ℕ, ◌+◌, ◌*◌, List, length, slice_index}
use Rattle.page_format.specs.Format.{two_at, four_at, place_of, length_of, row_at, IsOf}
use Rattle.page_format.specs.Kept.{count_in, slots_of, IsLaid}

-- nothing changed but the bytes from one place up to another
pub record ChangesOnly (from to : ℕ) (old new : List ℕ) : Type 0 where
  pub size : length new ≡ length old
  pub below : (at : ℕ) → at < from → slice_index new at ≡ slice_index old at
  pub above : (at : ℕ) → to ≤ at → slice_index new at ≡ slice_index old at

-- a number of two bytes was written
pub record PutsTwo (at value : ℕ) (old new : List ℕ) : Type 0 where
  pub reads : two_at new at ≡ value
  pub only : ChangesOnly at (at + 2) old new

-- a number of four bytes was written
pub record PutsFour (at value : ℕ) (old new : List ℕ) : Type 0 where
  pub reads : four_at new at ≡ value
  pub only : ChangesOnly at (at + 4) old new

-- the entry of a slot was written
pub record PutsEntry (slot place len : ℕ) (old new : List ℕ) : Type 0 where
  pub starts : place_of new slot ≡ place
  pub counts : length_of new slot ≡ len
  pub only : ChangesOnly (8 + 4 * slot) (12 + 4 * slot) old new

-- a record was put at a place behind the entry of its slot, and the entry tells of it
pub record PutsRow (slot place : ℕ) (row old new : List ℕ) : Type 0 where
  pub starts : place_of new slot ≡ place
  pub counts : length_of new slot ≡ length row
  pub stands : row_at new slot ≡ row
  pub size : length new ≡ length old
  pub front : (at : ℕ) → at < 8 + 4 * slot → slice_index new at ≡ slice_index old at
  pub between : (at : ℕ) → 12 + 4 * slot ≤ at → at < place → slice_index new at ≡ slice_index old at
  pub behind : (at : ℕ) → place + length row ≤ at → slice_index new at ≡ slice_index old at

-- the page has these slots now, under the number that it had
pub record Becomes (slots : List (List ℕ)) (old new : List ℕ) : Type 0 where
  pub laid : IsLaid new
  pub number : four_at new 0 ≡ four_at old 0
  pub zero : two_at new 6 ≡ two_at old 6
  pub held : slots_of new ≡ slots

-- no record has a byte below this place
pub record StandAbove (low : ℕ) (bytes : List ℕ) : Type 0 where
  pub above : (slot at : ℕ) → slot < count_in bytes → IsOf bytes slot at → low ≤ at
