-- One record after the other takes its bytes; where all could, they are laid out as they should be.
use Rattle.std.proofs.Common.{◌≡◌, ℕ, ◌+◌, ◌-◌, ◌*◌, ◌<◌, ◌≤◌, Bool, true, false, List, [], length, take, replicate, refl, sym, ◌∙◌, ap, subst, inl, inr, arith}
use Rattle.std.specs.Prelude.{sum_by}
use Rattle.std.proofs.lemmas.Bool.{cases_lt, false≢true}
use Rattle.std.proofs.lemmas.List.{get_or-replicate, get_or_past, length-replicate, take_all}
use Rattle.std.proofs.lemmas.List.Sums.{sum_by_more, count_by-le-length}
use borrow.Author.Count.{below_more}
use Rattle.page_format.specs.Pages.{used_by}
use Rattle.page_format.specs.Claims.{is_taken, taken_of, Takes, Meets}
use Rattle.page_format.specs.Format.{place_of, length_of, IsOf}
use Rattle.page_format.specs.Kept.{count_in, slots_of, IsLaid}
use Rattle.page_format.proofs.Claimed.{IsOwner, Claimed}
use Rattle.page_format.proofs.ClaimLemmas.{taken_of-none}
use Rattle.page_format.proofs.FieldLemmas.{length-row_at}
use Rattle.page_format.proofs.SlotsLemmas.{length-slots_of, get_or-slots_of}

-- no byte is taken and free
never_both : (b : Bool) → b ≡ true → b ≡ false → ⊥
never_both b is_true is_false = false≢true (sym is_false ∙ is_true)

-- ---- at first the header and the directory take theirs

free_at_first : (size at : ℕ) (old : List Bool) → old ≡ replicate size false → is_taken old at ≡ false
free_at_first size at old is =
    ap (λ (l : List Bool). is_taken l at) is ∙ elim (cases_lt at size) [
      | inl within ↦ get_or-replicate size at false false within
      | inr past ↦ get_or_past (replicate size false) at false (omega (arith, length-replicate size false))
    ]

-- they can where they are in the page
pub directory_free : (size n : ℕ) (old : List Bool) → old ≡ replicate size false → size ≡ 4096 → Meets 0 n old → 4096 < n
directory_free size n old is size_is meets =
    elim (cases_lt meets.at size) [
      | inl within ↦ absurd (never_both (is_taken old meets.at) (meets.not_free (omega arith)) (free_at_first size meets.at old is))
      | inr past ↦ omega (arith, meets.not_ended)
    ]

directory_in : (n : ℕ) (old new : List Bool) → 0 < n → Takes 0 n old new → n ≤ 4096
directory_in n old new some takes = let last = (takes.free (n - 1) (omega arith) (omega arith)).0 in omega arith

pub claimed_none : (size n : ℕ) (bytes : List ℕ) (old taken : List Bool) → old ≡ replicate size false → length taken ≡ 4096 → length bytes ≡ 4096 → n ≡ 8 + 4 * count_in bytes
    → Takes 0 n old taken → Claimed 0 bytes taken
claimed_none size n bytes old taken is long whole n_is takes =
    record {
      whole = whole;
      long = long;
      directory = let fits = directory_in n old taken (omega arith) takes in omega arith;
      first = λ at h. takes.taken at (omega arith) (omega arith);
      records = λ slot at h. absurd (omega arith);
      owned = λ at h behind. absurd (never_both (is_taken taken at) h (takes.above at (omega arith) ∙ free_at_first size at old is));
      elsewhere = λ slot at h. absurd (omega arith);
      apart = λ one other at h. absurd (omega arith);
      counted = omega (arith, takes.counted, ap taken_of is ∙ taken_of-none size);
    }

-- ---- each record takes its own

-- a byte of the record is taken now, and one that is taken was or is one of it
now_taken : (i at : ℕ) (bytes : List ℕ) (old new : List Bool) → Takes (place_of bytes i) (length_of bytes i) old new → is_taken old at ≡ true → is_taken new at ≡ true
now_taken i at bytes old new takes was =
    elim (cases_lt at (place_of bytes i)) [
      | inl before ↦ takes.below at before ∙ was
      | inr begun ↦ elim (cases_lt at (place_of bytes i + length_of bytes i)) [
        | inl within ↦ takes.taken at begun within
        | inr behind ↦ takes.above at behind ∙ was
      ]
    ]

was_owned : (i at : ℕ) (bytes : List ℕ) (old new : List Bool) → Claimed i bytes old → is_taken old at ≡ true → 8 + 4 * count_in bytes ≤ at → IsOwner (i + 1) at bytes
was_owned i at bytes old new so_far was behind =
    let owner = so_far.owned at was behind in record { slot = owner.slot; among = omega (arith, owner.among); of = owner.of }

owned_more : (i at : ℕ) (bytes : List ℕ) (old new : List Bool) → Claimed i bytes old → Takes (place_of bytes i) (length_of bytes i) old new → is_taken new at ≡ true → 8 + 4 * count_in bytes ≤ at
    → IsOwner (i + 1) at bytes
owned_more i at bytes old new so_far takes now behind =
    elim (cases_lt at (place_of bytes i)) [
      | inl before ↦ was_owned i at bytes old new so_far (sym (takes.below at before) ∙ now) behind
      | inr begun ↦ elim (cases_lt at (place_of bytes i + length_of bytes i)) [
        | inl within ↦ record { slot = i; among = omega arith; of = record { begun = begun; not_ended = within } }
        | inr past ↦ was_owned i at bytes old new so_far (sym (takes.above at past) ∙ now) behind
      ]
    ]

-- it was free, so that it is not one of the header, of the directory or of a record before
is_free : (i at : ℕ) (bytes : List ℕ) (old new : List Bool) → Takes (place_of bytes i) (length_of bytes i) old new → IsOf bytes i at → (at < 4096) × (is_taken old at ≡ false)
is_free i at bytes old new takes of = takes.free at of.begun of.not_ended

elsewhere_more : (i : ℕ) (bytes : List ℕ) (old new : List Bool) → Claimed i bytes old → Takes (place_of bytes i) (length_of bytes i) old new
    → (at : ℕ) → IsOf bytes i at → (8 + 4 * count_in bytes ≤ at) × (at < 4096)
elsewhere_more i bytes old new so_far takes at of =
    let free = is_free i at bytes old new takes of in
    elim (cases_lt at (8 + 4 * count_in bytes)) [
      | inl before ↦ absurd (never_both (is_taken old at) (so_far.first at before) free.1)
      | inr behind ↦ (behind, free.0)
    ]

apart_more : (i : ℕ) (bytes : List ℕ) (old new : List Bool) → Claimed i bytes old → Takes (place_of bytes i) (length_of bytes i) old new
    → (slot at : ℕ) → slot < i → IsOf bytes slot at → IsOf bytes i at → ⊥
apart_more i bytes old new so_far takes slot at before of_slot of_i =
    never_both (is_taken old at) (so_far.records slot at before of_slot) (is_free i at bytes old new takes of_i).1

-- what holds of pairs below a number and of it with each of them
pairs_more : (i at : ℕ) (bytes : List ℕ) → ((one other : ℕ) → one < i → other < i → IsOf bytes one at → IsOf bytes other at → one ≡ other)
    → ((slot : ℕ) → slot < i → IsOf bytes slot at → IsOf bytes i at → ⊥) → (one : ℕ) → one < i + 1 → (other : ℕ) → other < i + 1 → IsOf bytes one at → IsOf bytes other at → one ≡ other
pairs_more i at bytes below here =
    below_more (λ one. (other : ℕ) → other < i + 1 → IsOf bytes one at → IsOf bytes other at → one ≡ other) i
    (λ one h. below_more (λ other. IsOf bytes one at → IsOf bytes other at → one ≡ other) i (λ other. below one other h) (λ of_one of_i. absurd (here one h of_one of_i)))
    (below_more (λ other. IsOf bytes i at → IsOf bytes other at → i ≡ other) i (λ other h of_i of_other. absurd (here other h of_other of_i)) (λ _ _. refl))

sum_claimed : (i : ℕ) (bytes : List ℕ) → i < count_in bytes → ((at : ℕ) → IsOf bytes i at → at < length bytes)
    → sum_by length (take (i + 1) (slots_of bytes)) ≡ sum_by length (take i (slots_of bytes)) + length_of bytes i
sum_claimed i bytes there inside =
    sum_by_more length (slots_of bytes) i [] (omega (arith, length-slots_of bytes))
    ∙ ap (λ (n : ℕ). sum_by length (take i (slots_of bytes)) + n) (ap length (get_or-slots_of bytes i there) ∙ length-row_at bytes i inside)

pub claimed_more : (i : ℕ) (bytes : List ℕ) (old new : List Bool) → i < count_in bytes → length new ≡ 4096 → Claimed i bytes old
    → Takes (place_of bytes i) (length_of bytes i) old new → Claimed (i + 1) bytes new
claimed_more i bytes old new there long so_far takes =
    let inside = elsewhere_more i bytes old new so_far takes in
    record {
      whole = so_far.whole;
      long = long;
      directory = so_far.directory;
      first = λ at h. now_taken i at bytes old new takes (so_far.first at h);
      records = λ slot at h. below_more (λ k. IsOf bytes k at → is_taken new at ≡ true) i
          (λ k before of. now_taken i at bytes old new takes (so_far.records k at before of)) (λ of. takes.taken at of.begun of.not_ended) slot h;
      owned = λ at. owned_more i at bytes old new so_far takes;
      elsewhere = λ slot at h. below_more (λ k. IsOf bytes k at → (8 + 4 * count_in bytes ≤ at) × (at < 4096)) i (λ k. so_far.elsewhere k at) (inside at) slot h;
      apart = λ one other at h h'. pairs_more i at bytes (λ k j. so_far.apart k j at) (λ k. apart_more i bytes old new so_far takes k at) one h other h';
      counted = omega (arith, takes.counted, so_far.counted, sum_claimed i bytes there (λ at of. let e = inside at of in omega (arith, e.1, so_far.whole)));
    }

pub claimed_next : (i place len : ℕ) (bytes : List ℕ) (old new : List Bool) → i < count_in bytes → length new ≡ 4096 → Claimed i bytes old → place ≡ place_of bytes i
    → len ≡ length_of bytes i → Takes place len old new → Claimed (i + 1) bytes new
claimed_next i place len bytes old new there long so_far place_is len_is takes =
    let P : ℕ → Type 0 = λ n. Takes n len old new in
    let Q : ℕ → Type 0 = λ n. Takes (place_of bytes i) n old new in
    claimed_more i bytes old new there long so_far (subst Q len_is (subst P place_is takes))

-- ---- or it cannot

-- a byte of it is not free, so that it is in the directory or in a record before
pub not_laid : (i place len : ℕ) (bytes : List ℕ) (taken : List Bool) → i < count_in bytes → Claimed i bytes taken → place ≡ place_of bytes i → len ≡ length_of bytes i → Meets place len taken
    → IsLaid bytes → ⊥
not_laid i place len bytes taken there so_far place_is len_is meets laid =
    let of : IsOf bytes i meets.at = record { begun = omega (arith, meets.begun); not_ended = omega (arith, meets.not_ended) } in
    let e = laid.elsewhere i meets.at there of in
    let owner = so_far.owned meets.at (meets.not_free e.1) e.0 in
    let same = laid.apart owner.slot i meets.at (omega (arith, owner.among)) there owner.of of in
    omega (arith, owner.among, same)

-- ---- at the end all have

pub laid_of_claimed : (count : ℕ) (bytes : List ℕ) (taken : List Bool) → count ≡ count_in bytes → Claimed count bytes taken → IsLaid bytes
laid_of_claimed count bytes taken is all =
    record {
      whole = all.whole;
      directory = all.directory;
      elsewhere = λ slot at h. all.elsewhere slot at (omega arith);
      apart = λ one other at h i. all.apart one other at (omega arith) (omega arith);
    }

pub room_of_claimed : (count : ℕ) (bytes : List ℕ) (taken : List Bool) → count ≡ count_in bytes → Claimed count bytes taken → used_by (slots_of bytes) ≤ 4096
room_of_claimed count bytes taken is all =
    let whole : take count (slots_of bytes) ≡ slots_of bytes = take_all count (slots_of bytes) (omega (arith, length-slots_of bytes)) in
    omega (arith, length-slots_of bytes, all.counted, all.long, ap (sum_by length) whole, count_by-le-length (λ (it : Bool). it) taken)
