-- What entries tell of the records of a page whose records are laid out as they should be.
use Rattle.std.proofs.Common.{◌≡◌, ℕ, ◌+◌, ◌<◌, ◌≤◌, true, false, List, [], length, get_or, take, refl, ◌∙◌, ap, arith, eq-eqb, subst, inl, inr}
use Rattle.std.proofs.lemmas.Bool.{cases_lt}
use Rattle.std.proofs.lemmas.Bool.Decides.{nat_tests}
use Rattle.std.specs.Prelude.{sum_by}
use Rattle.std.proofs.lemmas.List.Sums.{position_or_len_is, sum_by_more}
use Rattle.page_format.specs.Pages.{is_empty, lowest_empty}
use Rattle.page_format.specs.Format.{place_of, length_of, row_at, IsOf}
use Rattle.page_format.specs.Kept.{count_in, slots_of, IsLaid}
use Rattle.page_format.proofs.FieldLemmas.{length-row_at, ends_inside}
use Rattle.page_format.proofs.SlotsLemmas.{length-slots_of, get_or-slots_of}

-- its bytes are in the page
pub inside_page : (bytes : List ℕ) (slot at : ℕ) → IsLaid bytes → slot < count_in bytes → IsOf bytes slot at → at < length bytes
inside_page bytes slot at laid there of = let e = laid.elsewhere slot at there of in omega (arith, laid.whole, e.1)

-- a record that is not empty ends in the page
pub ends_in_page : (bytes : List ℕ) (slot : ℕ) → IsLaid bytes → slot < count_in bytes → 0 < length_of bytes slot → place_of bytes slot + length_of bytes slot ≤ 4096
ends_in_page bytes slot laid there some =
    omega (arith, laid.whole, ends_inside bytes slot (length_of bytes slot) refl (λ at of. inside_page bytes slot at laid there of) some)

-- a record has as many bytes as its entry says
pub length_of_row : (bytes : List ℕ) (slot : ℕ) → IsLaid bytes → slot < count_in bytes → length (row_at bytes slot) ≡ length_of bytes slot
length_of_row bytes slot laid there = length-row_at bytes slot (λ at of. inside_page bytes slot at laid there of)

pub length_of_slot : (bytes : List ℕ) (slot : ℕ) → IsLaid bytes → slot < count_in bytes → length (get_or (slots_of bytes) slot []) ≡ length_of bytes slot
length_of_slot bytes slot laid there = ap length (get_or-slots_of bytes slot there) ∙ length_of_row bytes slot laid there

-- ---- the lowest empty slot

length_zero : (row : List ℕ) (n : ℕ) → length row ≡ n → n ≡ 0 → is_empty row ≡ true
length_zero row n is none = eq-eqb (length row) 0 (is ∙ none)

length_some : (row : List ℕ) (n : ℕ) → length row ≡ n → 0 < n → is_empty row ≡ false
length_some row n is some = grind (arith, nat_tests)

pub lowest_empty_is : (bytes : List ℕ) (slot : ℕ) → IsLaid bytes → slot ≤ count_in bytes → ((k : ℕ) → k < slot → 0 < length_of bytes k) → (slot < count_in bytes → length_of bytes slot ≡ 0)
    → lowest_empty (slots_of bytes) ≡ slot
lowest_empty_is bytes slot laid within full empty =
    let count = length-slots_of bytes in
    position_or_len_is is_empty (slots_of bytes) slot [] (omega arith)
    (λ k h. length_some (get_or (slots_of bytes) k []) (length_of bytes k) (length_of_slot bytes k laid (omega arith)) (full k h))
    (λ h. let there : slot < count_in bytes = omega arith in length_zero (get_or (slots_of bytes) slot []) (length_of bytes slot) (length_of_slot bytes slot laid there) (empty there))

-- ---- the bytes of all records

pub sum_more : (bytes : List ℕ) (slot : ℕ) → IsLaid bytes → slot < count_in bytes
    → sum_by length (take (slot + 1) (slots_of bytes)) ≡ sum_by length (take slot (slots_of bytes)) + length_of bytes slot
sum_more bytes slot laid there =
    let count = length-slots_of bytes in
    sum_by_more length (slots_of bytes) slot [] (omega arith) ∙ ap (λ (n : ℕ). sum_by length (take slot (slots_of bytes)) + n) (length_of_slot bytes slot laid there)

-- ---- the lowest record

pub lowest_more : (bytes : List ℕ) (i low next : ℕ) → ((slot at : ℕ) → slot < i → IsOf bytes slot at → low ≤ at) → next ≤ low → (0 < length_of bytes i → next ≤ place_of bytes i)
    → (slot at : ℕ) → slot < i + 1 → IsOf bytes slot at → next ≤ at
lowest_more bytes i low next above less here slot at within of =
    elim (cases_lt slot i) [
      | inl before ↦ let above : low ≤ at = above slot at before of in omega arith
      | inr behind ↦
          let same : slot ≡ i = omega arith in
          let of : IsOf bytes i at = (let P : ℕ → Type 0 = λ n. IsOf bytes n at in subst P same of) in
          let below = here (omega (arith, of.begun, of.not_ended)) in
          omega (arith, below, of.begun)
    ]
