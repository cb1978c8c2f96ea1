-- What writing an entry, or a record with its entry, leaves.
use Rattle.std.proofs.Common.{◌≡◌, ℕ, ◌+◌, ◌*◌, ◌≤◌, List, ◌++◌, length, take, drop, refl, sym, ◌∙◌, ap, subst, arith, length-take}
use Rattle.std.proofs.lemmas.List.{drop_at, take_at}
use Rattle.page_format.specs.Format.{two_at, place_of, length_of}
use Rattle.page_format.specs.Writes.{ChangesOnly, PutsTwo, PutsEntry, PutsRow}
use Rattle.page_format.proofs.PartLemmas.{length-put_mid, get_or-put_mid_below, get_or-put_mid_above}
use Rattle.page_format.proofs.FieldLemmas.{two_at-below, row_at_is, part_same}
use borrow.Rule.Slice.PartMut.{put_mid}

-- two writes, one behind the other, change no other bytes
both_only : (from mid to : ℕ) (a b c : List ℕ) → from ≤ mid → mid ≤ to → ChangesOnly from mid a b → ChangesOnly mid to b c → ChangesOnly from to a c
both_only from mid to a b c first second one other =
    record {
      size = other.size ∙ one.size;
      below = λ at h. other.below at (omega arith) ∙ one.below at h;
      above = λ at h. other.above at h ∙ one.above at (omega arith);
    }

-- an entry is its place and then its length
pub entry_put : (slot place len p q : ℕ) (a b c : List ℕ) → p ≡ 8 + 4 * slot → q ≡ 10 + 4 * slot → PutsTwo p place a b → PutsTwo q len b c → PutsEntry slot place len a c
unfolding place_of length_of
entry_put slot place len p q a b c p_is q_is first second =
    let starts : two_at c p ≡ place = two_at-below q (q + 2) p b c second.only (omega arith) ∙ first.reads in
    let mid : ChangesOnly p q a b = (let P : ℕ → Type 0 = λ n. ChangesOnly p n a b in subst P (omega arith) first.only) in
    let only = both_only p q (q + 2) a b c (omega arith) (omega arith) mid second.only in
    record {
      starts = ap (two_at c) (sym p_is) ∙ starts;
      counts = ap (two_at c) (sym q_is) ∙ second.reads;
      only = (let P : ℕ → Type 0 = λ n. ChangesOnly n (12 + 4 * slot) a c in let Q : ℕ → Type 0 = λ n. ChangesOnly p n a c in subst P p_is (subst Q (omega arith) only));
    }

-- a copied record changes no other bytes, and stands
pub copied_only : (place k : ℕ) (old row new : List ℕ) → place + length row ≤ length old → k ≡ length row → new ≡ row → ChangesOnly place (place + length row) old (put_mid place k old new)
copied_only place k old row new room size is =
    let long : length new ≡ k = ap length is ∙ sym size in
    record {
      size = length-put_mid place k old new (omega arith) long;
      below = λ at h. get_or-put_mid_below place k at old new 0 (omega arith) h;
      above = λ at h. get_or-put_mid_above place k at old new 0 (omega arith) long (omega arith);
    }

pub copied_stands : (place k : ℕ) (old row new : List ℕ) → place + length row ≤ length old → k ≡ length row → new ≡ row → take (length row) (drop place (put_mid place k old new)) ≡ row
copied_stands place k old row new room size is =
    let long : length (take place old) ≡ place = omega (arith, length-take place old) in
    ap (take (length row)) (drop_at (take place old) (new ++ drop k (drop place old)) place long)
    ∙ take_at new (drop k (drop place old)) (length row) (ap length is) ∙ is

-- then its entry is put before it
pub row_put : (slot place : ℕ) (row a b c : List ℕ) → 12 + 4 * slot ≤ place → ChangesOnly place (place + length row) a b → take (length row) (drop place b) ≡ row
    → PutsEntry slot place (length row) b c → PutsRow slot place row a c
row_put slot place row a b c behind copied stands entry =
    let same = part_same (length row) place b c entry.only.size (λ at h _. entry.only.above at (omega arith)) in
    record {
      starts = entry.starts;
      counts = entry.counts;
      stands = sym (row_at_is c slot place (length row) (length row) (sym entry.starts) (sym entry.counts) refl) ∙ (same ∙ stands);
      size = entry.only.size ∙ copied.size;
      front = λ at h. entry.only.below at h ∙ copied.below at (omega arith);
      between = λ at h i. entry.only.above at h ∙ copied.below at i;
      behind = λ at h. entry.only.above at (omega arith) ∙ copied.above at h;
    }
