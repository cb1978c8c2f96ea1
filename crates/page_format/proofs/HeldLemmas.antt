-- What a page holds, by its bytes: made, put into, emptied and read.
use Rattle.std.proofs.Common.{◌≡◌, ℕ, suc, ◌+◌, ◌*◌, ◌<◌, ◌≤◌, max, Some, None, true, false, List, [], ◌∷◌, length, get_or, set, take, drop, replicate, refl, sym, ◌∙◌, ap, subst, inl, inr, arith}
use Rattle.std.specs.Prelude.{sum_by, is_some}
use Rattle.std.proofs.lemmas.Bool.{cases_lt}
use Rattle.std.proofs.lemmas.Bool.Decides.{nat_tests}
use Rattle.std.proofs.lemmas.List.{get_or_past, set-get_or, take_all, drop-drop, get_or-replicate, nil_from_length, length-set}
use Rattle.std.proofs.lemmas.List.Sums.{sum_by-append, sum_by-cons, sum_by-take-drop, sum_by-set}
use Rattle.page_format.specs.Pages.{Held, filled, row_in, lowest_empty, used_by, cost_of, with_row, without_row}
use Rattle.page_format.specs.Format.{two_at, four_at, length_of, row_at, IsPage}
use Rattle.page_format.specs.Kept.{count_in, slots_of, IsLaid, IsKept}
use Rattle.page_format.specs.Writes.{PutsFour, Becomes}
use Rattle.page_format.proofs.FieldLemmas.{two_at-above}
use Rattle.page_format.proofs.SlotsLemmas.{length-slots_of, get_or-slots_of}
use Rattle.page_format.proofs.LaidLemmas.{length_of_slot}
use Rattle.page_format.proofs.FormLemmas.{page_of_laid}
use Rattle.page_format.proofs.RowsLemmas.{length-with_row}

-- what is kept of a page says that it is one
pub page_of_kept : (bytes : List ℕ) → IsKept bytes → IsPage (four_at bytes 0) bytes (slots_of bytes)
page_of_kept bytes kept = page_of_laid (four_at bytes 0) bytes kept.laid refl kept.zero

-- ---- a new page

two_at-zeros : (size at : ℕ) (old : List ℕ) → old ≡ replicate size 0 → at + 2 ≤ size → two_at old at ≡ 0
unfolding two_at
two_at-zeros size at old is within =
    let zero_at : (k : ℕ) → k < size → get_or old k 0 ≡ 0 = λ k h. ap (λ (l : List ℕ). get_or l k 0) is ∙ get_or-replicate size k 0 0 h in
    omega (arith, zero_at at (omega arith), zero_at (at + 1) (omega arith))

no_slots : (bytes : List ℕ) → count_in bytes ≡ 0 → slots_of bytes ≡ []
no_slots bytes none = nil_from_length (slots_of bytes) (length-slots_of bytes ∙ none)

kept_empty : (bytes : List ℕ) → length bytes ≡ 4096 → count_in bytes ≡ 0 → two_at bytes 6 ≡ 0 → 1 ≤ four_at bytes 0 → IsKept bytes
kept_empty bytes size none zeros numbered =
    record {
      laid = record {
        whole = size;
        directory = omega (arith, none);
        elsewhere = λ slot at h. absurd (omega (arith, none));
        apart = λ one other at h. absurd (omega (arith, none));
      };
      zero = zeros;
      numbered = numbered;
      room = subst (λ (slots : List (List ℕ)). used_by slots ≤ 4096) (sym (no_slots bytes none)) (omega arith);
    }

pub kept_new : (size number : ℕ) (old new : List ℕ) → old ≡ replicate size 0 → size ≡ 4096 → length new ≡ 4096 → 1 ≤ number → PutsFour 0 number old new
    → IsKept new × (four_at new 0 ≡ number) × (slots_of new ≡ [])
kept_new size number old new is size_is long numbered put =
    let zero_at : (at : ℕ) → 4 ≤ at → at + 2 ≤ size → two_at new at ≡ 0 = λ at h i. two_at-above 0 4 at old new put.only h ∙ two_at-zeros size at old is i in
    let none = zero_at 4 (omega arith) (omega arith) in
    (kept_empty new long none (zero_at 6 (omega arith) (omega arith)) (omega (arith, put.reads)), put.reads, no_slots new none)

-- ---- bytes that are read

pub kept_read : (number : ℕ) (bytes : List ℕ) → 1 ≤ number → four_at bytes 0 ≡ number → two_at bytes 6 ≡ 0 → IsLaid bytes → used_by (slots_of bytes) ≤ 4096 → IsKept bytes
kept_read number bytes from_one numbered zeros laid room =
    record { laid = laid; zero = zeros; numbered = omega arith; room = room }

-- ---- the record in a slot

pub row_in_past : (bytes : List ℕ) (slot : ℕ) → count_in bytes ≤ slot → row_in (slots_of bytes) slot ≡ None
row_in_past bytes slot past = ap filled (get_or_past (slots_of bytes) slot [] (omega (arith, length-slots_of bytes)))

pub row_in_there : (bytes : List ℕ) (slot : ℕ) → slot < count_in bytes → row_in (slots_of bytes) slot ≡ filled (row_at bytes slot)
row_in_there bytes slot there = ap filled (get_or-slots_of bytes slot there)

pub filled_by_length : (row : List ℕ) (n : ℕ) → length row ≡ n → 0 < n → is_some (filled row) ≡ true
filled_by_length [] n is some = absurd (omega (arith, is))
filled_by_length (byte ∷ bytes) n is some = refl

pub row_in_empty : (bytes : List ℕ) (slot : ℕ) → IsLaid bytes → slot < count_in bytes → length_of bytes slot ≡ 0 → get_or (slots_of bytes) slot [] ≡ []
row_in_empty bytes slot laid there none = nil_from_length (get_or (slots_of bytes) slot []) (length_of_slot bytes slot laid there ∙ none)

pub row_in_full : (bytes : List ℕ) (slot : ℕ) → IsLaid bytes → slot < count_in bytes → 0 < length_of bytes slot → is_some (row_in (slots_of bytes) slot) ≡ true
row_in_full bytes slot laid there some = filled_by_length (get_or (slots_of bytes) slot []) (length_of bytes slot) (length_of_slot bytes slot laid there) some

-- emptying a slot that is empty, or not there, leaves the slots as they are
pub nothing_removed : (slot : ℕ) (slots : List (List ℕ)) → get_or slots slot [] ≡ [] → slots ≡ without_row slot slots
nothing_removed slot slots empty = sym (set-get_or slots slot []) ∙ ap (set slots slot) empty

-- ---- what a record takes

sum_rest : (slot : ℕ) (slots : List (List ℕ)) → sum_by length (take slot slots) + sum_by length (drop (suc slot) slots) ≤ sum_by length slots
sum_rest slot slots =
    let next : suc slot ≡ slot + 1 = omega arith in
    let rest : sum_by length (drop (suc slot) slots) ≡ sum_by length (drop 1 (drop slot slots))
    = ap (λ (n : ℕ). sum_by length (drop n slots)) next ∙ ap (sum_by length) (sym (drop-drop 1 slot slots)) in
    omega (arith, rest, sum_by-take-drop length slots slot, sum_by-take-drop length (drop slot slots) 1)

pub used_with : (slot : ℕ) (row : List ℕ) (slots : List (List ℕ)) → slot ≤ length slots → used_by (with_row slot row slots) ≤ 8 + 4 * max (length slots) (slot + 1) + sum_by length slots + length row
used_with slot row slots next =
    omega (
      arith,
      length-with_row slot row slots next,
      sum_by-append length (take slot slots) (row ∷ drop (suc slot) slots),
      sum_by-cons length row (drop (suc slot) slots),
      sum_rest slot slots,
    )

cost_there : (row : List ℕ) (slots : List (List ℕ)) → lowest_empty slots < length slots → cost_of row slots ≡ length row
cost_there row slots there = grind (arith, nat_tests)

cost_new : (row : List ℕ) (slots : List (List ℕ)) → lowest_empty slots ≡ length slots → cost_of row slots ≡ length row + 4
cost_new row slots none = grind (arith, nat_tests)

-- the directory with the slot of a record, and the records without it
pub cost_is : (slot : ℕ) (row : List ℕ) (slots : List (List ℕ)) → slot ≡ lowest_empty slots → slot ≤ length slots
    → used_by slots + cost_of row slots ≡ 8 + 4 * max (length slots) (slot + 1) + sum_by length slots + length row
cost_is slot row slots lowest next =
    elim (cases_lt slot (length slots)) [
      | inl there ↦ omega (arith, cost_there row slots (omega arith))
      | inr past ↦ omega (arith, cost_new row slots (omega arith))
    ]

-- ---- a page after a change

pub kept_again : (slots : List (List ℕ)) (a b : List ℕ) → IsKept a → Becomes slots a b → used_by slots ≤ 4096 → IsKept b
kept_again slots a b kept now room =
    record {
      laid = now.laid;
      zero = now.zero ∙ kept.zero;
      numbered = omega (arith, now.number, kept.numbered);
      room = subst (λ (l : List (List ℕ)). used_by l ≤ 4096) (sym now.held) room;
    }

-- one change after another
pub changed_twice : (slot : ℕ) (row a b c : List ℕ) → Becomes (slots_of a) a b → Becomes (with_row slot row (slots_of b)) b c → Becomes (with_row slot row (slots_of a)) a c
changed_twice slot row a b c moved put =
    record {
      laid = put.laid;
      number = put.number ∙ moved.number;
      zero = put.zero ∙ moved.zero;
      held = put.held ∙ ap (with_row slot row) moved.held;
    }

-- the count is the same where the slots are
pub count_kept : (a b : List ℕ) → slots_of b ≡ slots_of a → count_in b ≡ count_in a
count_kept a b same = sym (length-slots_of b) ∙ ap length same ∙ length-slots_of a

pub used_without : (slot : ℕ) (slots : List (List ℕ)) → slot < length slots → used_by (without_row slot slots) ≤ used_by slots
used_without slot slots there =
    omega (arith, length-set slots slot [], sum_by-set length slots slot [] [] there)

-- what a page holds is its number and its slots
abbrev pub held : ℕ → List (List ℕ) → Held
held number slots = record { number = number; slots = slots }

pub held_is : {one other : ℕ} {slots others : List (List ℕ)} → one ≡ other → slots ≡ others → held one slots ≡ held other others
held_is {one} {other} {slots} {others} same_number same_slots =
    ap (λ (n : ℕ). held n slots) same_number ∙ ap (held other) same_slots

-- ---- what is answered

pub none_past : (bytes : List ℕ) (slot from : ℕ) → from ≡ slot → count_in bytes ≤ from → None ≡ row_in (slots_of bytes) slot
none_past bytes slot from is past = sym (row_in_past bytes slot (omega arith))

row_read : (bytes row : List ℕ) (slot from : ℕ) → from ≡ slot → from < count_in bytes → row ≡ row_at bytes from → filled row ≡ row_in (slots_of bytes) slot
row_read bytes row slot from is there row_is =
    ap filled (row_is ∙ ap (row_at bytes) is) ∙ sym (row_in_there bytes slot (omega arith))

filled_none : (row : List ℕ) → length row < 1 → None ≡ filled row
filled_none [] none = refl
filled_none (byte ∷ bytes) none = absurd (omega arith)

filled_some : (row : List ℕ) → 1 ≤ length row → Some row ≡ filled row
filled_some [] some = absurd (omega arith)
filled_some (byte ∷ bytes) some = refl

pub none_empty : (bytes row : List ℕ) (slot from : ℕ) → from ≡ slot → from < count_in bytes → row ≡ row_at bytes from → length row < 1 → None ≡ row_in (slots_of bytes) slot
none_empty bytes row slot from is there row_is none = filled_none row none ∙ row_read bytes row slot from is there row_is

pub some_row : (bytes row : List ℕ) (slot from : ℕ) → from ≡ slot → from < count_in bytes → row ≡ row_at bytes from → 1 ≤ length row → Some row ≡ row_in (slots_of bytes) slot
some_row bytes row slot from is there row_is some = filled_some row some ∙ row_read bytes row slot from is there row_is

-- nothing is in a slot that is not there, or whose record has no bytes
pub empty_past : (bytes : List ℕ) (slot from : ℕ) → from ≡ slot → count_in bytes ≤ from → get_or (slots_of bytes) slot [] ≡ []
empty_past bytes slot from is past = get_or_past (slots_of bytes) slot [] (omega (arith, length-slots_of bytes))

pub empty_there : (bytes : List ℕ) (slot from : ℕ) → IsLaid bytes → from ≡ slot → from < count_in bytes → length_of bytes from ≡ 0 → get_or (slots_of bytes) slot [] ≡ []
empty_there bytes slot from laid is there none = row_in_empty bytes slot laid (omega arith) (ap (length_of bytes) (sym is) ∙ none)

pub false_empty : (slot : ℕ) (slots : List (List ℕ)) → get_or slots slot [] ≡ [] → false ≡ is_some (row_in slots slot)
false_empty slot slots empty = ap (λ (row : List ℕ). is_some (filled row)) (sym empty)

pub true_full : (bytes : List ℕ) (slot from : ℕ) → IsLaid bytes → from ≡ slot → from < count_in bytes → 0 < length_of bytes from → true ≡ is_some (row_in (slots_of bytes) slot)
true_full bytes slot from laid is there some = sym (row_in_full bytes slot laid (omega arith) (omega (arith, ap (length_of bytes) is)))

-- the bytes that are a page are the whole of what was given
pub chunk_is : (size : ℕ) (bytes chunk : List ℕ) → length bytes ≡ size → chunk ≡ take size bytes → chunk ≡ bytes
chunk_is size bytes chunk long is = is ∙ take_all size bytes (omega arith)

pub page_by_chunk : (number : ℕ) (bytes chunk : List ℕ) (slots : List (List ℕ)) → chunk ≡ bytes → IsPage number bytes slots → IsPage number chunk slots
page_by_chunk number bytes chunk slots is page = let P : List ℕ → Type 0 = λ l. IsPage number l slots in subst P (sym is) page

pub page_of_chunk : (number : ℕ) (bytes chunk : List ℕ) → chunk ≡ bytes → IsLaid chunk → four_at chunk 0 ≡ number → two_at chunk 6 ≡ 0 → IsPage number bytes (slots_of chunk)
page_of_chunk number bytes chunk is laid numbered zeros =
    let P : List ℕ → Type 0 = λ l. IsPage number l (slots_of chunk) in subst P is (page_of_laid number chunk laid numbered zeros)
