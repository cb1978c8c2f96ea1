-- Slots, each with a row or free, and the order in which they are read. (This project.)
use Rattle.std.specs.Prelude.{◌≡◌, ◌≢◌, ◌⊎◌, ◌≤◌, ◌<◌, ◌+◌, ℕ, List, [], ◌∷◌, length, map, get_or, Option, Some, None, is_some, unwrap_or, IsTrue}
use Rattle.sql_value.specs.declared.value.Value.{Value}

-- the row in a slot: none where the slot is free, or is not there
abbrev pub at : List (Option (List Value)) → ℕ → Option (List Value)
at slots slot = get_or slots slot None

-- the row in a slot that has one
abbrev pub row_in : List (Option (List Value)) → ℕ → List Value
row_in slots slot = unwrap_or (at slots slot) []

-- the rows in these slots, in order
abbrev pub rows_in : List (Option (List Value)) → List ℕ → List (List Value)
rows_in slots order = map (row_in slots) order

-- the slot is none of these
abbrev pub IsApartFrom : ℕ → List ℕ → Type 0
IsApartFrom slot [] = Unit {0}
IsApartFrom slot (it ∷ rest) = (slot ≢ it) × IsApartFrom slot rest

-- no slot stands twice
abbrev pub AreApart : List ℕ → Type 0
AreApart [] = Unit {0}
AreApart (it ∷ rest) = IsApartFrom it rest × AreApart rest

-- each of these slots has a row
abbrev pub AreTaken : List (Option (List Value)) → List ℕ → Type 0
AreTaken slots [] = Unit {0}
AreTaken slots (it ∷ rest) = IsTrue (is_some (at slots it)) × AreTaken slots rest

-- each of these slots is there, and is free
abbrev pub AreVacant : List (Option (List Value)) → List ℕ → Type 0
AreVacant slots [] = Unit {0}
AreVacant slots (it ∷ rest) = (it < length slots) × (at slots it ≡ None) × AreVacant slots rest

-- these slots are free, and none stands twice
pub record AreFree (slots : List (Option (List Value))) (free : List ℕ) : Type 0 where
  pub vacant : AreVacant slots free
  pub apart : AreApart free

-- a slot has another row or none, and all others have what they had
abbrev pub OnlyAt : ℕ → List (Option (List Value)) → List (Option (List Value)) → Type 0
OnlyAt slot old new = (s : ℕ) → s ≢ slot → at new s ≡ at old s

-- a row went into a slot that was free, or into a new one
pub record Fills (old : List (Option (List Value))) (free : List ℕ) (row : List Value) (slot : ℕ) (new : List (Option (List Value))) (left : List ℕ) : Type 0 where
  pub vacant : at old slot ≡ None
  pub here : at new slot ≡ Some row
  pub others : OnlyAt slot old new
  pub free_is : AreFree new left
  pub counts : length new + length free ≡ length old + length left + 1
  pub grows : (length new ≡ length old) ⊎ (length left ≡ 0)

-- the row was taken out of a slot, which is free
pub record Frees (old : List (Option (List Value))) (free : List ℕ) (slot : ℕ) (row : List Value) (new : List (Option (List Value))) (more : List ℕ) : Type 0 where
  pub row_is : at old slot ≡ Some row
  pub here : at new slot ≡ None
  pub others : OnlyAt slot old new
  pub free_is : AreFree new more
  pub counts : length more ≡ length free + 1
  pub same : length new ≡ length old

-- another row stands in a slot
pub record Swaps (old : List (Option (List Value))) (slot : ℕ) (row before : List Value) (new : List (Option (List Value))) : Type 0 where
  pub before_is : at old slot ≡ Some before
  pub here : at new slot ≡ Some row
  pub others : OnlyAt slot old new
  pub same : length new ≡ length old

-- The slots in order are taken and the others free; and there is room for so many rows more, and a number for the slot of each.
pub record AreKept (slots : List (Option (List Value))) (order free : List ℕ) (spare in_slots in_order in_free : ℕ) : Type 0 where
  pub taken : AreTaken slots order
  pub apart : AreApart order
  pub free_is : AreFree slots free
  pub counts : length order + length free ≡ length slots
  pub within : length slots ≤ length order + spare
  pub few : length order + spare ≤ 4294967295
  pub slots_room : length order + spare ≤ in_slots
  pub order_room : length order + spare ≤ in_order
  pub free_room : length order + spare ≤ in_free
