-- A page whose slots are as they were but for one.
use Rattle.std.proofs.Common.{◌≡◌, ℕ, ◌+◌, ◌*◌, ◌<◌, ◌≤◌, max, List, [], length, get_or, sym, ◌∙◌, ap, subst, inl, inr, arith}
use Rattle.std.proofs.lemmas.Bool.{cases_eq}
use Rattle.page_format.specs.Pages.{with_row}
use Rattle.page_format.specs.Format.{two_at, four_at, place_of, length_of, row_at, IsOf}
use Rattle.page_format.specs.Kept.{count_in, slots_of, IsLaid}
use Rattle.page_format.specs.Writes.{Becomes}
use Rattle.page_format.proofs.SlotsLemmas.{length-slots_of, get_or-slots_of, slots_of_is}
use Rattle.page_format.proofs.RowsLemmas.{length-with_row, get_or-with_row_same, get_or-with_row_other}

-- one slot has this record at a place now, of so many slots, and the others have theirs where they had them
pub record Rewrites (slot place count : ℕ) (row a c : List ℕ) : Type 0 where
  pub size : length c ≡ 4096
  pub number : four_at c 0 ≡ four_at a 0
  pub zero : two_at c 6 ≡ two_at a 6
  pub counts : count_in c ≡ count
  pub starts : place_of c slot ≡ place
  pub long : length_of c slot ≡ length row
  pub stands : row_at c slot ≡ row
  pub places : (k : ℕ) → (k ≡ slot → ⊥) → k < count_in a → place_of c k ≡ place_of a k
  pub lengths : (k : ℕ) → (k ≡ slot → ⊥) → k < count_in a → length_of c k ≡ length_of a k
  pub rows : (k : ℕ) → (k ≡ slot → ⊥) → k < count_in a → row_at c k ≡ row_at a k

-- the bytes of the one are outside the directory and of no other record, which are outside it too
pub record IsRoom (slot place count : ℕ) (row a : List ℕ) : Type 0 where
  pub directory : 8 + 4 * count ≤ 4096
  pub elsewhere : (at : ℕ) → place ≤ at → at < place + length row → (8 + 4 * count ≤ at) × (at < 4096)
  pub apart : (k at : ℕ) → (k ≡ slot → ⊥) → k < count_in a → IsOf a k at → place ≤ at → at < place + length row → ⊥
  pub others : (k at : ℕ) → (k ≡ slot → ⊥) → k < count_in a → IsOf a k at → (8 + 4 * count ≤ at) × (at < 4096)

-- a byte of another record is one of it as before
other_of : (slot place count k at : ℕ) (row a c : List ℕ) → Rewrites slot place count row a c → (k ≡ slot → ⊥) → k < count_in a → IsOf c k at → IsOf a k at
other_of slot place count k at row a c new other there of =
    record {
      begun = omega (arith, new.places k other there, of.begun);
      not_ended = omega (arith, new.places k other there, new.lengths k other there, of.not_ended);
    }

-- a byte of the one is from its place on
one_of : (slot place count k at : ℕ) (row a c : List ℕ) → Rewrites slot place count row a c → k ≡ slot → IsOf c k at → (place ≤ at) × (at < place + length row)
one_of slot place count k at row a c new same of =
    let of : IsOf c slot at = (let P : ℕ → Type 0 = λ n. IsOf c n at in subst P same of) in
    (omega (arith, new.starts, of.begun), omega (arith, new.starts, new.long, of.not_ended))

-- another slot that is there now was there
was_there : (slot place count k : ℕ) (row a c : List ℕ) → slot ≤ count_in a → count ≡ max (count_in a) (slot + 1) → Rewrites slot place count row a c → (k ≡ slot → ⊥) → k < count_in c → k < count_in a
was_there slot place count k row a c next count_is new other there = omega (arith, new.counts)

elsewhere_again : (slot place count k at : ℕ) (row a c : List ℕ) → slot ≤ count_in a → count ≡ max (count_in a) (slot + 1) → Rewrites slot place count row a c → IsRoom slot place count row a
    → k < count_in c → IsOf c k at → (8 + 4 * count ≤ at) × (at < 4096)
elsewhere_again slot place count k at row a c next count_is new room there of =
    elim (cases_eq k slot) [
      | inl same ↦ let one = one_of slot place count k at row a c new same of in room.elsewhere at one.0 one.1
      | inr other ↦
          let before = was_there slot place count k row a c next count_is new other there in
          room.others k at other before (other_of slot place count k at row a c new other before of)
    ]

-- no byte is of the one and of another
never_both : (slot place count k j at : ℕ) (row a c : List ℕ) → slot ≤ count_in a → count ≡ max (count_in a) (slot + 1) → Rewrites slot place count row a c → IsRoom slot place count row a
    → k ≡ slot → (j ≡ slot → ⊥) → j < count_in c → IsOf c k at → IsOf c j at → ⊥
never_both slot place count k j at row a c next count_is new room same other there of_k of_j =
    let one = one_of slot place count k at row a c new same of_k in
    let before = was_there slot place count j row a c next count_is new other there in
    room.apart j at other before (other_of slot place count j at row a c new other before of_j) one.0 one.1

apart_again : (slot place count k j at : ℕ) (row a c : List ℕ) → IsLaid a → slot ≤ count_in a → count ≡ max (count_in a) (slot + 1) → Rewrites slot place count row a c → IsRoom slot place count row a
    → k < count_in c → j < count_in c → IsOf c k at → IsOf c j at → k ≡ j
apart_again slot place count k j at row a c laid next count_is new room there_k there_j of_k of_j =
    let before : (n : ℕ) → (n ≡ slot → ⊥) → n < count_in c → n < count_in a = λ n. was_there slot place count n row a c next count_is new in
    let was : (n : ℕ) (other : n ≡ slot → ⊥) → n < count_in a → IsOf c n at → IsOf a n at = λ n. other_of slot place count n at row a c new in
    elim (cases_eq k slot) [
      | inl is_k ↦ elim (cases_eq j slot) [
        | inl is_j ↦ is_k ∙ sym is_j
        | inr not_j ↦ absurd (never_both slot place count k j at row a c next count_is new room is_k not_j there_j of_k of_j)
      ]
      | inr not_k ↦ elim (cases_eq j slot) [
        | inl is_j ↦ absurd (never_both slot place count j k at row a c next count_is new room is_j not_k there_k of_j of_k)
        | inr not_j ↦
            laid.apart k j at (before k not_k there_k) (before j not_j there_j) (was k not_k (before k not_k there_k) of_k) (was j not_j (before j not_j there_j) of_j)
      ]
    ]

-- so the records are laid out as they should be
laid_again : (slot place count : ℕ) (row a c : List ℕ) → IsLaid a → slot ≤ count_in a → count ≡ max (count_in a) (slot + 1) → Rewrites slot place count row a c
    → IsRoom slot place count row a → IsLaid c
laid_again slot place count row a c laid next count_is new room =
    record {
      whole = new.size;
      directory = omega (arith, new.counts, room.directory);
      elsewhere = λ k at there of.
          let e = elsewhere_again slot place count k at row a c next count_is new room there of in (omega (arith, new.counts, e.0), e.1);
      apart = λ k j at. apart_again slot place count k j at row a c laid next count_is new room;
    }

-- and the slots are the old ones with the record in the one
row_again : (slot place count k : ℕ) (row a c : List ℕ) → slot ≤ count_in a → count ≡ max (count_in a) (slot + 1) → Rewrites slot place count row a c
    → k < count_in c → row_at c k ≡ get_or (with_row slot row (slots_of a)) k []
row_again slot place count k row a c next count_is new there =
    let next' : slot ≤ length (slots_of a) = omega (arith, length-slots_of a) in
    elim (cases_eq k slot) [
      | inl same ↦ ap (row_at c) same ∙ new.stands ∙ sym (ap (λ (n : ℕ). get_or (with_row slot row (slots_of a)) n []) same ∙ get_or-with_row_same slot row (slots_of a) next')
      | inr other ↦
          let before = was_there slot place count k row a c next count_is new other there in
          new.rows k other before ∙ sym (get_or-with_row_other slot k row (slots_of a) next' other ∙ get_or-slots_of a k before)
    ]

rows_again : (slot place count : ℕ) (row a c : List ℕ) → slot ≤ count_in a → count ≡ max (count_in a) (slot + 1) → Rewrites slot place count row a c
    → slots_of c ≡ with_row slot row (slots_of a)
rows_again slot place count row a c next count_is new =
    let long = length-with_row slot row (slots_of a) (omega (arith, length-slots_of a)) in
    let same : count_in c ≡ length (with_row slot row (slots_of a)) = omega (arith, long, length-slots_of a, new.counts) in
    slots_of_is c (with_row slot row (slots_of a)) same
    (λ k there. row_again slot place count k row a c next count_is new (omega arith))

pub becomes : (slot place count : ℕ) (row a c : List ℕ) → IsLaid a → slot ≤ count_in a → count ≡ max (count_in a) (slot + 1) → Rewrites slot place count row a c → IsRoom slot place count row a
    → Becomes (with_row slot row (slots_of a)) a c
becomes slot place count row a c laid next count_is new room =
    record {
      laid = laid_again slot place count row a c laid next count_is new room;
      number = new.number;
      zero = new.zero;
      held = rows_again slot place count row a c next count_is new;
    }
