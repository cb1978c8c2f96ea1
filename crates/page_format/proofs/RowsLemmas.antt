-- The slots with a record in one of them, or with one of them empty.
use Rattle.std.proofs.Common.{◌≡◌, ℕ, suc, ◌+◌, ◌<◌, ◌≤◌, max, List, [], length, get_or, take, drop, sym, arith, length-append, length-take, length-drop}
use Rattle.std.proofs.lemmas.List.{places, get_or_at, length-take-le, set_split}
use Rattle.page_format.specs.Pages.{with_row, without_row}

pub length-with_row : (slot : ℕ) (row : List ℕ) (slots : List (List ℕ)) → slot ≤ length slots → length (with_row slot row slots) ≡ max (length slots) (slot + 1)
length-with_row slot row slots next =
    simp (length-append, length-take, length-drop) (omega arith)

pub get_or-with_row_same : (slot : ℕ) (row : List ℕ) (slots : List (List ℕ)) → slot ≤ length slots → get_or (with_row slot row slots) slot [] ≡ row
get_or-with_row_same slot row slots next = get_or_at (take slot slots) row (drop (suc slot) slots) [] slot (length-take-le slot slots next)

pub get_or-with_row_other : (slot k : ℕ) (row : List ℕ) (slots : List (List ℕ)) → slot ≤ length slots → (k ≡ slot → ⊥) → get_or (with_row slot row slots) k [] ≡ get_or slots k []
get_or-with_row_other slot k row slots next other = grind (arith, places)

-- an empty slot is one with the record of no bytes
pub without_row_is : (slot : ℕ) (slots : List (List ℕ)) → slot < length slots → with_row slot [] slots ≡ without_row slot slots
without_row_is slot slots there = sym (set_split slots slot [] there)
