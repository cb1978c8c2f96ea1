-- The owners that reach one, found one after the other.
use Rattle.std.proofs.Common.{◌≡◌, ℕ, ◌+◌, ◌<◌, ◌≤◌, List, [], ◌∷◌, ◌++◌, length, take, get_or, Bool, true, false, ◌||◌, ◌==◌, refl, sym, ap, subst, ◌∙◌, inl}
use Rattle.std.proofs.Common.{inr, ◌⊎◌, arith, eqb-true, eq-eqb, zero, suc}
use Rattle.std.proofs.lemmas.Bool.{or_cases, or_left, or_right}
use Rattle.std.proofs.lemmas.List.{take_more, take-take}
use Rattle.row_locks.specs.Queues.{Locks, owners, among, waits_for}
use Rattle.row_locks.specs.Cycles.{AreDistinct}
use Rattle.row_locks.specs.Inside.{Adds}
use Rattle.row_locks.proofs.ListLemmas.{no, among-append, not_more}
use Rattle.row_locks.proofs.QueueLemmas.{has_wait}

-- what holds while the owners are found: who waits for one of the first is found
pub record IsReaching (E : ℕ → ℕ → Bool) (last : ℕ) (reached : List ℕ) (done : ℕ) : Type 0 where
  pub goes_on : (a : ℕ) → among a reached ≡ true → (E a last ≡ true) ⊎ (b : ℕ) × (E a b ≡ true) × (among b reached ≡ true)
  pub direct : (a : ℕ) → E a last ≡ true → among a reached ≡ true
  pub closed : (a b : ℕ) → E a b ≡ true → among b (take done reached) ≡ true → among a reached ≡ true

pub reaching_more : (E : ℕ → ℕ → Bool) (last : ℕ) (old new : List ℕ) (i : ℕ) (d : ℕ) → i < length old → IsReaching E last old i → Adds (λ a. E a (get_or old i d)) old new
    → IsReaching E last new (i + 1)
reaching_more E last old new i d lt so_far adds =
    let next = get_or old i d in
    let kept : (a : ℕ) → among a old ≡ true → among a new ≡ true = λ a m. adds.exact a ∙ or_left (among a old) (E a next) m in
    let front : take (i + 1) new ≡ take i old ++ next ∷ [] =
    sym (take-take (i + 1) (length old) new (omega (arith, lt))) ∙ ap (take (i + 1)) adds.front ∙ take_more old i d lt in
    let itself : among next old ≡ true = stands old i d lt in
    record {
      goes_on = λ a m. elim (or_cases (among a old) (E a next) (sym (adds.exact a) ∙ m)) [
        | inl before ↦ elim (so_far.goes_on a before) [ inl e ↦ inl e | inr to ↦ inr (to.0, to.1, kept to.0 to.2) ]
        | inr e ↦ inr (next, e, kept next itself)
      ];
      direct = λ a e. kept a (so_far.direct a e);
      closed = λ a b e m. elim (or_cases (among b (take i old)) ((next == b) || false) (sym (among-append b (take i old) (next ∷ [])) ∙ sym (ap (among b) front) ∙ m)) [
        | inl before ↦ kept a (so_far.closed a b e before)
        | inr this ↦ elim (or_cases (next == b) false this) [
          | inl same ↦ adds.exact a ∙ or_right (among a old) (E a next) (subst (λ x. E a x ≡ true) (sym (eqb-true next b same)) e)
          | inr none ↦ no none
        ]
      ];
    }
  where
    stands : (xs : List ℕ) (i d : ℕ) → i < length xs → among (get_or xs i d) xs ≡ true
    stands [] i d lt = absurd (omega (arith, lt))
    stands (x ∷ xs) zero d lt = or_left (x == x) (among x xs) (eq-eqb x x refl)
    stands (x ∷ xs) (suc i) d lt = or_right (x == get_or xs i d) (among (get_or xs i d) xs) (stands xs i d (omega (arith, lt)))

-- Not more are found than wait.
pub reached_wait : (locks : Locks) (last : ℕ) (reached : List ℕ) (i : ℕ) → AreDistinct reached → IsReaching (waits_for locks) last reached i → length reached ≤ length (owners locks.waits)
reached_wait locks last reached i distinct so_far = not_more reached (owners locks.waits) distinct (λ a m. elim (so_far.goes_on a m) [
  | inl e ↦ has_wait locks a last e
  | inr to ↦ has_wait locks a to.0 to.1
])
