-- What a page holds, as its callers see it. (This project.)
use Rattle.std.specs.Prelude.{ℕ, suc, ◌+◌, ◌-◌, ◌*◌, ◌==◌, Bool, if◌then◌else◌, Option, Some, None, List, [], ◌∷◌, ◌++◌, length, take, drop, set, slice_index_or, sum_by}
use Rattle.std.specs.List.{position_or_len}

-- a page has a number, and a record in each of its slots: a record of no bytes in an empty one
pub record Held : Type 0 where
  pub number : ℕ
  pub slots : List (List ℕ)

-- no record stands in the slot
abbrev pub is_empty : List ℕ → Bool
is_empty row = length row == 0

-- what a slot's record is to a reader: none where it has no bytes
abbrev pub filled : List ℕ → Option (List ℕ)
filled [] = None
filled (byte ∷ bytes) = Some (byte ∷ bytes)

-- the record in a slot; none where the slot is empty or not there
abbrev pub row_in : List (List ℕ) → ℕ → Option (List ℕ)
row_in slots slot = filled (slice_index_or slots slot [])

-- the lowest empty slot; where none is empty, the slot behind the last one
abbrev pub lowest_empty : List (List ℕ) → ℕ
lowest_empty slots = position_or_len is_empty slots

-- how many of a page's bytes are used: 8, and 4 for each slot, and those of the records
abbrev pub used_by : List (List ℕ) → ℕ
used_by slots = 8 + 4 * length slots + sum_by length slots

-- how many bytes of a page are free
abbrev pub free_in : List (List ℕ) → ℕ
free_in slots = 4096 - used_by slots

-- how many free bytes a record takes: its own, and 4 more where no slot is empty
abbrev pub cost_of : List ℕ → List (List ℕ) → ℕ
cost_of row slots = length row + (if lowest_empty slots == length slots then 4 else 0)

-- the slots with this record in one of them, or in a new one behind the last
abbrev pub with_row : ℕ → List ℕ → List (List ℕ) → List (List ℕ)
with_row slot row slots = take slot slots ++ row ∷ drop (suc slot) slots

-- the slots with this one empty
abbrev pub without_row : ℕ → List (List ℕ) → List (List ℕ)
without_row slot slots = set slots slot []
