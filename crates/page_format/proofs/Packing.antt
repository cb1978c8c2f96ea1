-- What moving the records of a page together has done so far. (This project.)
use Rattle.std.specs.Prelude.{◌≡◌, ◌≤◌, ◌<◌, ℕ, ◌+◌, List, length, take, sum_by}
use Rattle.page_format.specs.Format.{two_at, four_at, place_of, length_of, row_at}
use Rattle.page_format.specs.Kept.{count_in, slots_of}

-- the records of the first slots, so many, stand one below the other from the end of the page down to a place
pub record Packs (count low : ℕ) (old new : List ℕ) : Type 0 where
  pub size : length new ≡ 4096
  pub number : four_at new 0 ≡ four_at old 0
  pub counts : count_in new ≡ count_in old
  pub zero : two_at new 6 ≡ two_at old 6
  pub full : low + sum_by length (take count (slots_of old)) ≡ 4096
  pub lengths : (k : ℕ) → k < count → length_of new k ≡ length_of old k
  pub rows : (k : ℕ) → k < count → row_at new k ≡ row_at old k
  pub above : (k : ℕ) → k < count → low ≤ place_of new k
  pub within : (k : ℕ) → k < count → place_of new k + length_of new k ≤ 4096
  pub falling : (j k : ℕ) → k < j → j < count → place_of new j + length_of new j ≤ place_of new k
