-- The records are moved together one by one, from the end of the page down.
use Rattle.std.proofs.Common.{◌≡◌, ℕ, ◌+◌, ◌*◌, ◌<◌, ◌≤◌, List, length, take, sym, ◌∙◌, ap, subst, inl, inr, arith}
use Rattle.std.specs.Prelude.{sum_by}
use Rattle.std.proofs.lemmas.Bool.{cases_lt}
use Rattle.std.proofs.lemmas.List.{take_all}
use Rattle.std.proofs.lemmas.List.Sums.{sum_by-take-le}
use borrow.Author.Count.{below_more}
use Rattle.page_format.specs.Format.{two_at, place_of, length_of, row_at, IsOf}
use Rattle.page_format.specs.Kept.{count_in, slots_of, IsLaid}
use Rattle.page_format.specs.Writes.{PutsRow, Becomes, StandAbove}
use Rattle.page_format.proofs.Packing.{Packs}
use Rattle.page_format.proofs.FieldLemmas.{four_at-same}
use Rattle.page_format.proofs.SlotsLemmas.{length-slots_of, get_or-slots_of, slots_of_is}
use Rattle.page_format.proofs.LaidLemmas.{sum_more}
use Rattle.page_format.proofs.AddLemmas.{two_at-front, entry_kept, row_kept}

-- what is below the records so far has room for the next one beside the directory
pub room_left : (i low : ℕ) (old : List ℕ) → IsLaid old → i < count_in old → 8 + 4 * count_in old + sum_by length (slots_of old) ≤ 4096 → low + sum_by length (take i (slots_of old)) ≡ 4096
    → 8 + 4 * count_in old + length_of old i ≤ low
room_left i low old laid there room full =
    omega (arith, sum_more old i laid there, sum_by-take-le length (slots_of old) (i + 1))

full_more : (i low next len : ℕ) (old : List ℕ) → IsLaid old → i < count_in old → len ≡ length_of old i → next + len ≡ low → low + sum_by length (take i (slots_of old)) ≡ 4096
    → next + sum_by length (take (i + 1) (slots_of old)) ≡ 4096
full_more i low next len old laid there len_is below full = omega (arith, sum_more old i laid there)

-- each record so far is where it was
kept_so_far : (i low next k : ℕ) (row old b c : List ℕ) → Packs i low old b → PutsRow i next row b c → next + length row ≡ low → 12 + 4 * i ≤ next → k < i
    → (place_of c k ≡ place_of b k) × (length_of c k ≡ length_of b k) × (row_at c k ≡ row_at b k)
kept_so_far i low next k row old b c so_far put below room before =
    let entry = entry_kept i next k row b c put (λ same. omega arith) (omega arith) in
    let high = so_far.above k before in
    (entry.0, entry.1, row_kept i next k row b c put (λ same. omega arith) (omega arith) (λ at of. omega (arith, high, of.begun)))

-- the next one stands below them
falling_more : (i low next : ℕ) (row old b c : List ℕ) → Packs i low old b → PutsRow i next row b c → next + length row ≡ low → 12 + 4 * i ≤ next
    → (j : ℕ) → j < i + 1 → (k : ℕ) → k < j → place_of c j + length_of c j ≤ place_of c k
falling_more i low next row old b c so_far put below room =
    let P : ℕ → Type 0 = λ j. (k : ℕ) → k < j → place_of c j + length_of c j ≤ place_of c k in
    let kept = λ (k : ℕ) (h : k < i). kept_so_far i low next k row old b c so_far put below room h in
    below_more P i
    (λ j h k before. omega (arith, (kept j h).0, (kept j h).1, (kept k (omega arith)).0, so_far.falling j k before h))
    (λ k before. omega (arith, put.starts, put.counts, (kept k before).0, so_far.above k before))

pub packs_more : (i low next : ℕ) (row old b c : List ℕ) → IsLaid old → i < count_in old → 8 + 4 * count_in old + sum_by length (slots_of old) ≤ 4096 → Packs i low old b
    → row ≡ row_at old i → length row ≡ length_of old i → next + length row ≡ low → PutsRow i next row b c → Packs (i + 1) next old c
packs_more i low next row old b c laid there room so_far row_is len_is below put =
    let left = room_left i low old laid there room so_far.full in
    let behind : 12 + 4 * i ≤ next = omega arith in
    let kept = λ (k : ℕ) (h : k < i). kept_so_far i low next k row old b c so_far put below behind h in
    let front : (at : ℕ) → at + 2 ≤ 8 → two_at c at ≡ two_at b at = λ at h. two_at-front i next at row b c put (omega arith) in
    record {
      size = put.size ∙ so_far.size;
      number = four_at-same 0 b c (front 0 (omega arith)) (front 2 (omega arith)) ∙ so_far.number;
      counts = front 4 (omega arith) ∙ so_far.counts;
      zero = front 6 (omega arith) ∙ so_far.zero;
      full = full_more i low next (length row) old laid there len_is below so_far.full;
      lengths = below_more (λ k. length_of c k ≡ length_of old k) i (λ k h. (kept k h).1 ∙ so_far.lengths k h) (put.counts ∙ len_is);
      rows = below_more (λ k. row_at c k ≡ row_at old k) i (λ k h. (kept k h).2 ∙ so_far.rows k h) (put.stands ∙ row_is);
      above = below_more (λ k. next ≤ place_of c k) i (λ k h. omega (arith, (kept k h).0, so_far.above k h)) (omega (arith, put.starts));
      within = below_more (λ k. place_of c k + length_of c k ≤ 4096) i (λ k h. omega (arith, (kept k h).0, (kept k h).1, so_far.within k h))
          (omega (arith, put.starts, put.counts, so_far.full));
      falling = λ j k before h. falling_more i low next row old b c so_far put below behind j h k before;
    }

-- ---- at the end all are

-- no byte is of two records
never_two : (count low at j k : ℕ) (old new : List ℕ) → Packs count low old new → k < j → j < count → IsOf new j at → IsOf new k at → ⊥
never_two count low at j k old new all before there of_j of_k =
    omega (arith, all.falling j k before there, of_j.not_ended, of_k.begun)

apart_packed : (count low at one other : ℕ) (old new : List ℕ) → Packs count low old new → one < count → other < count → IsOf new one at → IsOf new other at → one ≡ other
apart_packed count low at one other old new all h i of_one of_other =
    elim (cases_lt one other) [
      | inl before ↦ absurd (never_two count low at other one old new all before i of_other of_one)
      | inr behind ↦ elim (cases_lt other one) [
        | inl before ↦ absurd (never_two count low at one other old new all before h of_one of_other)
        | inr same ↦ omega arith
      ]
    ]

laid_packed : (low : ℕ) (old new : List ℕ) → IsLaid old → 8 + 4 * count_in old + sum_by length (slots_of old) ≤ 4096 → low + sum_by length (slots_of old) ≡ 4096
    → Packs (count_in old) low old new → IsLaid new
laid_packed low old new laid room full all =
    record {
      whole = all.size;
      directory = omega (arith, all.counts, laid.directory);
      elsewhere = λ slot at there of.
          let here : slot < count_in old = omega (arith, all.counts) in
          (omega (arith, all.counts, all.above slot here, of.begun), omega (arith, all.within slot here, of.not_ended));
      apart = λ one other at h i. apart_packed (count_in old) low at one other old new all (omega (arith, all.counts)) (omega (arith, all.counts));
    }

slots_packed : (low : ℕ) (old new : List ℕ) → Packs (count_in old) low old new → slots_of new ≡ slots_of old
slots_packed low old new all =
    let count = length-slots_of old in
    slots_of_is new (slots_of old) (all.counts ∙ sym count)
    (λ slot there. let here : slot < count_in old = omega arith in all.rows slot here ∙ sym (get_or-slots_of old slot here))

pub all_packed : (count low : ℕ) (old new : List ℕ) → count ≡ count_in old → IsLaid old → 8 + 4 * count_in old + sum_by length (slots_of old) ≤ 4096 → Packs count low old new
    → (low + sum_by length (slots_of old) ≡ 4096) × StandAbove low new × Becomes (slots_of old) old new
all_packed count low old new count_is laid room so_far =
    let all : Packs (count_in old) low old new = (let P : ℕ → Type 0 = λ n. Packs n low old new in subst P count_is so_far) in
    let whole : take (count_in old) (slots_of old) ≡ slots_of old = take_all (count_in old) (slots_of old) (omega (arith, length-slots_of old)) in
    let full : low + sum_by length (slots_of old) ≡ 4096 = ap (λ (l : List (List ℕ)). low + sum_by length l) (sym whole) ∙ all.full in
    let laid_now = laid_packed low old new laid room full all in (
      full,
      record { above = λ slot at there of. omega (arith, all.above slot (omega (arith, all.counts)), of.begun) },
      record { laid = laid_now; number = all.number; zero = all.zero; held = slots_packed low old new all },
    )
