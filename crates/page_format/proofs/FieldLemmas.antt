-- What is read of the header, an entry or a record where bytes elsewhere changed.
use Rattle.std.proofs.Common.{◌≡◌, ℕ, zero, suc, ◌+◌, ◌-◌, ◌<◌, ◌≤◌, List, [], length, get_or, take, drop, refl, sym, ◌∙◌, ap, arith, length-take, length-drop}
use Rattle.std.proofs.lemmas.List.{get_or-take, get_or-drop, ext_get_or, length-take-le}
use Rattle.page_format.specs.Format.{two_at, four_at, place_of, length_of, row_at, IsOf}
use Rattle.page_format.specs.Writes.{ChangesOnly}

-- ---- numbers

pub two_at-same : (at : ℕ) (old new : List ℕ) → get_or new at 0 ≡ get_or old at 0 → get_or new (at + 1) 0 ≡ get_or old (at + 1) 0 → two_at new at ≡ two_at old at
unfolding two_at
two_at-same at old new first second = cc

pub two_at-below : (from to at : ℕ) (old new : List ℕ) → ChangesOnly from to old new → at + 2 ≤ from → two_at new at ≡ two_at old at
two_at-below from to at old new only before =
    two_at-same at old new (only.below at (omega arith)) (only.below (at + 1) (omega arith))

pub two_at-above : (from to at : ℕ) (old new : List ℕ) → ChangesOnly from to old new → to ≤ at → two_at new at ≡ two_at old at
two_at-above from to at old new only behind =
    two_at-same at old new (only.above at (omega arith)) (only.above (at + 1) (omega arith))

pub four_at-same : (at : ℕ) (old new : List ℕ) → two_at new at ≡ two_at old at → two_at new (at + 2) ≡ two_at old (at + 2) → four_at new at ≡ four_at old at
unfolding four_at
four_at-same at old new first second = cc

-- ---- records

-- a record that is in the page ends in it
pub ends_inside : (bytes : List ℕ) (slot n : ℕ) → n ≡ length_of bytes slot → ((at : ℕ) → IsOf bytes slot at → at < length bytes) → 0 < n → place_of bytes slot + n ≤ length bytes
ends_inside bytes slot n is inside some =
    let last : IsOf bytes slot (place_of bytes slot + n - 1) = record { begun = omega arith; not_ended = omega (arith, is) } in
    omega (arith, inside (place_of bytes slot + n - 1) last)

behind_place : (bytes : List ℕ) (slot n : ℕ) → n ≡ length_of bytes slot → ((at : ℕ) → IsOf bytes slot at → at < length bytes) → n ≤ length (drop (place_of bytes slot) bytes)
behind_place bytes slot zero is inside = omega arith
behind_place bytes slot (suc n) is inside =
    omega (arith, length-drop (place_of bytes slot) bytes, ends_inside bytes slot (suc n) is inside (omega arith))

-- it has as many bytes as its entry says
pub length-row_at : (bytes : List ℕ) (slot : ℕ) → ((at : ℕ) → IsOf bytes slot at → at < length bytes) → length (row_at bytes slot) ≡ length_of bytes slot
unfolding row_at
length-row_at bytes slot inside =
    length-take-le (length_of bytes slot) (drop (place_of bytes slot) bytes) (behind_place bytes slot (length_of bytes slot) refl inside)

-- a part is the same where its bytes are
pub part_same : (n from : ℕ) (old new : List ℕ) → length new ≡ length old → ((at : ℕ) → from ≤ at → at < from + n → get_or new at 0 ≡ get_or old at 0)
    → take n (drop from new) ≡ take n (drop from old)
part_same n from old new size same =
    let long : length (take n (drop from new)) ≡ length (take n (drop from old)) = simp (length-take, length-drop, size) in
    ext_get_or 0 (take n (drop from new)) (take n (drop from old)) long (λ i h.
    let within : i < n = omega (arith, length-take n (drop from new), h) in
    get_or-take n (drop from new) i 0 within ∙ get_or-drop from new i 0 ∙ same (from + i) (omega arith) (omega arith)
    ∙ sym (get_or-take n (drop from old) i 0 within ∙ get_or-drop from old i 0))

-- a record is read as before where its entry and its bytes are the same
pub row_at-same : (slot : ℕ) (old new : List ℕ) → length new ≡ length old → place_of new slot ≡ place_of old slot → length_of new slot ≡ length_of old slot
    → ((at : ℕ) → IsOf old slot at → get_or new at 0 ≡ get_or old at 0) → row_at new slot ≡ row_at old slot
unfolding row_at
row_at-same slot old new size place count same =
    ap (λ (n : ℕ). take n (drop (place_of new slot) new)) count ∙ ap (λ (n : ℕ). take (length_of old slot) (drop n new)) place
    ∙ part_same (length_of old slot) (place_of old slot) old new size (λ at h i. same at (record { begun = h; not_ended = i }))

-- an empty slot has no bytes
pub row_at-empty : (bytes : List ℕ) (slot : ℕ) → length_of bytes slot ≡ 0 → row_at bytes slot ≡ []
unfolding row_at
row_at-empty bytes slot is = ap (λ (n : ℕ). take n (drop (place_of bytes slot) bytes)) is

-- the part that an entry tells of is the record
pub row_at_is : (bytes : List ℕ) (slot place len size : ℕ) → place ≡ place_of bytes slot → len ≡ length_of bytes slot → size ≡ len → take size (drop place bytes) ≡ row_at bytes slot
unfolding row_at
row_at_is bytes slot place len size starts counts is =
    ap (λ (n : ℕ). take n (drop place bytes)) (is ∙ counts) ∙ ap (λ (n : ℕ). take (length_of bytes slot) (drop n bytes)) starts
