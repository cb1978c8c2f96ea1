-- A record was put into a slot below all others, or a slot was emptied.
use Rattle.std.proofs.Common.{◌≡◌, ℕ, ◌+◌, ◌*◌, ◌<◌, ◌≤◌, max, List, [], length, sym, ◌∙◌, ap, subst, inl, inr, arith}
use Rattle.std.proofs.lemmas.Bool.{cases_lt}
use Rattle.page_format.specs.Pages.{with_row, without_row}
use Rattle.page_format.specs.Format.{two_at, four_at, place_of, length_of, row_at, IsOf}
use Rattle.page_format.specs.Kept.{count_in, slots_of, IsLaid}
use Rattle.page_format.specs.Writes.{ChangesOnly, PutsTwo, PutsRow, Becomes, StandAbove}
use Rattle.page_format.proofs.FieldLemmas.{two_at-same, two_at-below, two_at-above, four_at-same, row_at-same, row_at-empty}
use Rattle.page_format.proofs.SlotsLemmas.{length-slots_of}
use Rattle.page_format.proofs.RowsLemmas.{without_row_is}
use Rattle.page_format.proofs.BecomesLemmas.{Rewrites, IsRoom, becomes}

-- ---- entries where other bytes changed

pub place_of-below : (from to k : ℕ) (old new : List ℕ) → ChangesOnly from to old new → 10 + 4 * k ≤ from → place_of new k ≡ place_of old k
unfolding place_of
place_of-below from to k old new only before = two_at-below from to (8 + 4 * k) old new only (omega arith)

pub place_of-above : (from to k : ℕ) (old new : List ℕ) → ChangesOnly from to old new → to ≤ 8 + 4 * k → place_of new k ≡ place_of old k
unfolding place_of
place_of-above from to k old new only behind = two_at-above from to (8 + 4 * k) old new only behind

pub length_of-below : (from to k : ℕ) (old new : List ℕ) → ChangesOnly from to old new → 12 + 4 * k ≤ from → length_of new k ≡ length_of old k
unfolding length_of
length_of-below from to k old new only before = two_at-below from to (10 + 4 * k) old new only (omega arith)

pub length_of-above : (from to k : ℕ) (old new : List ℕ) → ChangesOnly from to old new → to ≤ 10 + 4 * k → length_of new k ≡ length_of old k
unfolding length_of
length_of-above from to k old new only behind = two_at-above from to (10 + 4 * k) old new only behind

-- ---- where a record was put

-- numbers before its entry, and those between its entry and itself, are as they were
pub two_at-front : (slot place at : ℕ) (row a b : List ℕ) → PutsRow slot place row a b → at + 2 ≤ 8 + 4 * slot → two_at b at ≡ two_at a at
two_at-front slot place at row a b put before = two_at-same at a b (put.front at (omega arith)) (put.front (at + 1) (omega arith))

pub two_at-between : (slot place at : ℕ) (row a b : List ℕ) → PutsRow slot place row a b → 12 + 4 * slot ≤ at → at + 2 ≤ place → two_at b at ≡ two_at a at
two_at-between slot place at row a b put behind before =
    two_at-same at a b (put.between at behind (omega arith)) (put.between (at + 1) (omega arith) (omega arith))

-- so entries of other slots are
pub entry_kept : (slot place k : ℕ) (row a b : List ℕ) → PutsRow slot place row a b → (k ≡ slot → ⊥) → 12 + 4 * k ≤ place
    → (place_of b k ≡ place_of a k) × (length_of b k ≡ length_of a k)
unfolding place_of length_of
entry_kept slot place k row a b put other within =
    elim (cases_lt k slot) [
      | inl before ↦ (two_at-front slot place (8 + 4 * k) row a b put (omega arith), two_at-front slot place (10 + 4 * k) row a b put (omega arith))
      | inr behind ↦
          let above : slot < k = omega arith in
          (two_at-between slot place (8 + 4 * k) row a b put (omega arith) (omega arith), two_at-between slot place (10 + 4 * k) row a b put (omega arith) (omega arith))
    ]

-- and so are records that stand above it
pub row_kept : (slot place k : ℕ) (row a b : List ℕ) → PutsRow slot place row a b → (k ≡ slot → ⊥) → 12 + 4 * k ≤ place → ((at : ℕ) → IsOf a k at → place + length row ≤ at) → row_at b k ≡ row_at a k
row_kept slot place k row a b put other within above =
    let entry = entry_kept slot place k row a b put other within in
    row_at-same k a b put.size entry.0 entry.1 (λ at of. put.behind at (above at of))

-- ---- with the number of slots written behind it

-- what a number in the header leaves of the records behind it
count_written : (count k : ℕ) (b c : List ℕ) → PutsTwo 4 count b c → ((at : ℕ) → IsOf b k at → 6 ≤ at) → row_at c k ≡ row_at b k
count_written count k b c put behind =
    row_at-same k b c put.only.size (place_of-above 4 6 k b c put.only (omega arith)) (length_of-above 4 6 k b c put.only (omega arith)) (λ at of. put.only.above at (behind at of))

-- the header's number stays, and zero behind the number of slots
number_kept : (slot place count : ℕ) (row a b c : List ℕ) → PutsRow slot place row a b → PutsTwo 4 count b c → four_at c 0 ≡ four_at a 0
number_kept slot place count row a b c put counted =
    four_at-same 0 a c (two_at-below 4 6 0 b c counted.only (omega arith) ∙ two_at-front slot place 0 row a b put (omega arith))
    (two_at-below 4 6 2 b c counted.only (omega arith) ∙ two_at-front slot place 2 row a b put (omega arith))

rewrites_added : (slot place count : ℕ) (row a b c : List ℕ) → IsLaid a → count ≡ max (count_in a) (slot + 1) → 8 + 4 * count ≤ place → StandAbove (place + length row) a
    → PutsRow slot place row a b → PutsTwo 4 count b c → Rewrites slot place count row a c
rewrites_added slot place count row a b c laid count_is within above put counted =
    let only = counted.only in
    let entry : (k : ℕ) (other : k ≡ slot → ⊥) → k < count_in a → (place_of b k ≡ place_of a k) × (length_of b k ≡ length_of a k)
    = λ k other there. entry_kept slot place k row a b put other (omega arith) in
    let behind : (k at : ℕ) → k < count_in a → (k ≡ slot → ⊥) → IsOf b k at → 6 ≤ at = λ k at there other of.
    let e = entry k other there in
    let of_a : IsOf a k at = record { begun = omega (arith, e.0, of.begun); not_ended = omega (arith, e.0, e.1, of.not_ended) } in
    (let at_least = above.above k at there of_a in omega arith) in
    record {
      size = only.size ∙ put.size ∙ laid.whole;
      number = number_kept slot place count row a b c put counted;
      zero = two_at-above 4 6 6 b c only (omega arith) ∙ two_at-front slot place 6 row a b put (omega arith);
      counts = counted.reads;
      starts = place_of-above 4 6 slot b c only (omega arith) ∙ put.starts;
      long = length_of-above 4 6 slot b c only (omega arith) ∙ put.counts;
      stands = count_written count slot b c counted (λ at of. omega (arith, put.starts, of.begun)) ∙ put.stands;
      places = λ k other there. place_of-above 4 6 k b c only (omega arith) ∙ (entry k other there).0;
      lengths = λ k other there. length_of-above 4 6 k b c only (omega arith) ∙ (entry k other there).1;
      rows = λ k other there. count_written count k b c counted (λ at. behind k at there other) ∙ row_kept slot place k row a b put other (omega arith) (λ at. above.above k at there);
    }

-- there was room below all others
room_below : (slot place count : ℕ) (row a : List ℕ) → IsLaid a → 8 + 4 * count ≤ place → place + length row ≤ 4096 → StandAbove (place + length row) a → IsRoom slot place count row a
room_below slot place count row a laid within room above =
    record {
      directory = omega arith;
      elsewhere = λ at h i. (omega arith, omega arith);
      apart = λ k at _ there of h i. let least = above.above k at there of in omega arith;
      others = λ k at _ there of. let least = above.above k at there of in (omega arith, (laid.elsewhere k at there of).1);
    }

pub row_added : (slot place count : ℕ) (row a b c : List ℕ) → IsLaid a → slot ≤ count_in a → count ≡ max (count_in a) (slot + 1) → 8 + 4 * count ≤ place → place + length row ≤ 4096
    → StandAbove (place + length row) a → PutsRow slot place row a b → PutsTwo 4 count b c → Becomes (with_row slot row (slots_of a)) a c
row_added slot place count row a b c laid next count_is within room above put counted =
    becomes slot place count row a c laid next count_is (rewrites_added slot place count row a b c laid count_is within above put counted)
    (room_below slot place count row a laid within room above)

-- ---- a slot was emptied

other_entry : (slot k from : ℕ) (a c : List ℕ) → from ≡ 10 + 4 * slot → ChangesOnly from (from + 2) a c → (k ≡ slot → ⊥) → (place_of c k ≡ place_of a k) × (length_of c k ≡ length_of a k)
other_entry slot k from a c is only other =
    elim (cases_lt k slot) [
      | inl before ↦ (place_of-below from (from + 2) k a c only (omega arith), length_of-below from (from + 2) k a c only (omega arith))
      | inr behind ↦
          let above : slot < k = omega arith in
          (place_of-above from (from + 2) k a c only (omega arith), length_of-above from (from + 2) k a c only (omega arith))
    ]

emptied : (slot from : ℕ) (a c : List ℕ) → from ≡ 10 + 4 * slot → PutsTwo from 0 a c → length_of c slot ≡ 0
unfolding length_of
emptied slot from a c is put = ap (two_at c) (sym is) ∙ put.reads

rewrites_emptied : (slot from : ℕ) (a c : List ℕ) → IsLaid a → slot < count_in a → from ≡ 10 + 4 * slot → PutsTwo from 0 a c → Rewrites slot (place_of a slot) (count_in a) [] a c
rewrites_emptied slot from a c laid there is put =
    let only = put.only in
    let none = emptied slot from a c is put in
    let below : (at : ℕ) → at + 2 ≤ 8 → two_at c at ≡ two_at a at = λ at h. two_at-below from (from + 2) at a c only (omega arith) in
    record {
      size = only.size ∙ laid.whole;
      number = four_at-same 0 a c (below 0 (omega arith)) (below 2 (omega arith));
      zero = below 6 (omega arith);
      counts = below 4 (omega arith);
      starts = place_of-below from (from + 2) slot a c only (omega arith);
      long = none;
      stands = row_at-empty c slot none;
      places = λ k other _. (other_entry slot k from a c is only other).0;
      lengths = λ k other _. (other_entry slot k from a c is only other).1;
      rows = λ k other h.
          let entry = other_entry slot k from a c is only other in
          row_at-same k a c only.size entry.0 entry.1 (λ at of. only.above at (let e = laid.elsewhere k at h of in omega (arith, e.0)));
    }

pub row_removed : (slot from : ℕ) (a c : List ℕ) → IsLaid a → slot < count_in a → from ≡ 10 + 4 * slot → PutsTwo from 0 a c → Becomes (without_row slot (slots_of a)) a c
row_removed slot from a c laid there is put =
    let room : IsRoom slot (place_of a slot) (count_in a) [] a = record {
      directory = laid.directory;
      elsewhere = λ at h i. absurd (omega arith);
      apart = λ k at _ _ _ h i. omega arith;
      others = λ k at _ h of. laid.elsewhere k at h of;
    } in
    let made = becomes slot (place_of a slot) (count_in a) [] a c laid (omega arith) (omega arith) (rewrites_emptied slot from a c laid there is put) room in
    let P : List (List ℕ) → Type 0 = λ slots. Becomes slots a c in
    subst P (without_row_is slot (slots_of a) (omega (arith, length-slots_of a))) made
