-- The bytes of one record are taken, or one of them is not free.
use Rattle.std.proofs.Common.{◌≡◌, ℕ, zero, suc, ◌+◌, ◌-◌, ◌<◌, ◌≤◌, Bool, true, false, List, ◌++◌, length, get_or, take, drop, replicate, refl, sym, ◌∙◌, ap, arith, length-take, length-drop}
use Rattle.std.proofs.lemmas.List.{get_or-take, get_or-drop, get_or-replicate, ext_get_or, length-replicate, take-append-drop}
use Rattle.std.proofs.lemmas.List.Sums.{sum_by-append, sum_by-cons}
use Rattle.page_format.proofs.PartLemmas.{get_or-put_mid_below, get_or-put_mid_in, get_or-put_mid_above}
use Rattle.page_format.specs.Claims.{is_taken, taken_of, Takes, Meets}
use borrow.Rule.Slice.PartMut.{put_mid}
use mathlib.Core.Bool.{beq, cond}

is_true : (b : Bool) → beq b true ≡ true → b ≡ true
is_true true h = refl
is_true false h = absurd (cc)

is_false : (b : Bool) → beq b true ≡ false → b ≡ false
is_false true h = absurd (cc)
is_false false h = refl

-- a byte of a part is one of the whole
part_at : (place k at : ℕ) (old : List Bool) → at < k → get_or (take k (drop place old)) at false ≡ is_taken old (place + at)
part_at place k at old within = get_or-take k (drop place old) at false within ∙ get_or-drop place old at false

pub claim_meets : (place len k at : ℕ) (old : List Bool) → k ≡ len → at < length (take k (drop place old)) → ((d : Bool) → beq (get_or (take k (drop place old)) at d) true ≡ true)
    → Meets place len old
claim_meets place len k at old size there found =
    let within : at < k = omega (arith, length-take k (drop place old)) in
    record {
      at = place + at;
      begun = omega arith;
      not_ended = omega arith;
      not_free = λ _. sym (part_at place k at old within) ∙ is_true (get_or (take k (drop place old)) at false) (found false);
    }

-- ---- how many are taken

taken_of-append : (xs ys : List Bool) → taken_of (xs ++ ys) ≡ taken_of xs + taken_of ys
taken_of-append xs ys = sum_by-append (λ it. cond it 1 0) xs ys

taken_of-all : (n : ℕ) → taken_of (replicate n true) ≡ n
taken_of-all zero = refl
taken_of-all (suc n) = omega (arith, sum_by-cons (λ it. cond it 1 0) true (replicate n true), taken_of-all n)

pub taken_of-none : (n : ℕ) → taken_of (replicate n false) ≡ 0
taken_of-none zero = refl
taken_of-none (suc n) = omega (arith, sum_by-cons (λ it. cond it 1 0) false (replicate n false), taken_of-none n)

-- the part, which is free
part_free : (place k : ℕ) (old : List Bool) → place + k ≤ length old → ((at : ℕ) → at < k → is_taken old (place + at) ≡ false) → take k (drop place old) ≡ replicate k false
part_free place k old room free =
    let long : length (take k (drop place old)) ≡ k = omega (arith, length-take k (drop place old), length-drop place old) in
    ext_get_or false (take k (drop place old)) (replicate k false) (long ∙ sym (length-replicate k false))
    (λ at h. part_at place k at old (omega arith) ∙ free at (omega arith) ∙ sym (get_or-replicate k at false false (omega arith)))

-- as many more are taken as the part has bytes
taken_more : (place k : ℕ) (old part : List Bool) → take k (drop place old) ≡ replicate k false → part ≡ replicate k true → taken_of (put_mid place k old part) ≡ taken_of old + k
taken_more place k old part was_free is_part =
    let rest = drop k (drop place old) in
    let new = taken_of-append (take place old) (part ++ rest) in
    let new_rest = taken_of-append part rest in
    let old_is = ap taken_of (sym (take-append-drop place old)) ∙ taken_of-append (take place old) (drop place old) in
    let old_rest = ap taken_of (sym (take-append-drop k (drop place old))) ∙ taken_of-append (take k (drop place old)) rest in
    omega (arith, new, new_rest, old_is, old_rest, ap taken_of was_free ∙ taken_of-none k, ap taken_of is_part ∙ taken_of-all k)

pub claim_takes : (place len k : ℕ) (old part : List Bool) → length old ≡ 4096 → place + len ≤ 4096 → k ≡ len
    → ((at : ℕ) (d : Bool) → 0 ≤ at → at < length (take k (drop place old)) → beq (get_or (take k (drop place old)) at d) true ≡ false)
    → part ≡ replicate (length (take k (drop place old))) true → Takes place len old (put_mid place k old part)
claim_takes place len k old part size room is_len all_false is_part =
    let within : place + k ≤ length old = omega arith in
    let long : length (take k (drop place old)) ≡ k = omega (arith, length-take k (drop place old), length-drop place old) in
    let all : part ≡ replicate k true = is_part ∙ ap (λ (n : ℕ). replicate n true) long in
    let part_long : length part ≡ k = ap length all ∙ length-replicate k true in
    let free : (at : ℕ) → at < k → is_taken old (place + at) ≡ false = λ at h.
    sym (part_at place k at old h) ∙ is_false (get_or (take k (drop place old)) at false) (all_false at false (omega arith) (omega arith)) in
    record {
      free = λ at h i. (omega arith, ap (is_taken old) (omega arith) ∙ free (at - place) (omega arith));
      taken = λ at h i. get_or-put_mid_in place k at old part false within part_long h (omega arith) ∙ ap (λ (l : List Bool). get_or l (at - place) false) all
          ∙ get_or-replicate k (at - place) true false (omega arith);
      below = λ at h. get_or-put_mid_below place k at old part false within h;
      above = λ at h. get_or-put_mid_above place k at old part false within part_long (omega arith);
      counted = taken_more place k old part (part_free place k old within free) all ∙ ap (λ (n : ℕ). taken_of old + n) is_len;
    }
