-- Lists of owners: who is among them, and that none is twice.
use Rattle.std.proofs.Common.{◌≡◌, ℕ, zero, suc, ◌+◌, ◌<◌, ◌≤◌, List, [], ◌∷◌, ◌++◌, length, Bool, true, false, not, ◌||◌, ◌==◌, filter, refl, sym, ap, subst}
use Rattle.std.proofs.Common.{◌∙◌, inl, inr, arith, eqb-true, ne_eqb, eq-eqb}
use Rattle.std.proofs.lemmas.Bool.{cases_Bool, cases_eq, or_cases, or_parts, or_from, or_left, or_right, both_ways, false_from_ne_true, eqb-false, cond-true, cond-false}
use Rattle.std.proofs.lemmas.List.Folds.{list_any-append}
use Rattle.row_locks.specs.Queues.{among}
use Rattle.row_locks.specs.Cycles.{AreDistinct}

pub no : {P : Type 0} → false ≡ true → P
no h = absurd (both_ways true (sym h) refl)

-- two tests that hold together are one
pub same_tests : (a b : Bool) → (a ≡ true → b ≡ true) → (b ≡ true → a ≡ true) → a ≡ b
same_tests true b f g = sym (f refl)
same_tests false true f g = g refl
same_tests false false f g = refl

pub other_turned : (a b : ℕ) → (a == b) ≡ false → (b == a) ≡ false
other_turned a b h = ne_eqb b a (λ e. eqb-false a b h (sym e))

pub among-append : (a : ℕ) (xs ys : List ℕ) → among a (xs ++ ys) ≡ (among a xs || among a ys)
among-append a xs ys = list_any-append (λ b. b == a) xs ys

-- An owner that is among some stands at a place.
pub split_at : (a : ℕ) (xs : List ℕ) → among a xs ≡ true → (us : List ℕ) × (vs : List ℕ) × (xs ≡ us ++ a ∷ vs)
split_at a [] h = no h
split_at a (x ∷ xs) h = elim (or_cases (x == a) (among a xs) h) [
  | inl here ↦ ([], xs, ap (λ b. b ∷ xs) (eqb-true x a here))
  | inr later ↦ let rest = split_at a xs later in (x ∷ rest.0, rest.1, ap (λ l. x ∷ l) rest.2)
]

-- None of the first is among the second.
abbrev pub AreApart : List ℕ → List ℕ → Type 0
AreApart xs ys = (a : ℕ) → among a xs ≡ true → among a ys ≡ false

pub apart_turned : (xs ys : List ℕ) → AreApart xs ys → AreApart ys xs
apart_turned xs ys apart a there = false_from_ne_true (among a xs) (λ here. both_ways (among a ys) (apart a here) there)

pub distinct_parts : (xs ys : List ℕ) → AreDistinct (xs ++ ys) → AreDistinct xs × AreDistinct ys × AreApart xs ys
distinct_parts [] ys d = (tt, d, λ a h. no h)
distinct_parts (x ∷ xs) ys d =
    let rest = distinct_parts xs ys d.1 in
    let none = or_parts (among x xs) (among x ys) (sym (among-append x xs ys) ∙ d.0) in (
      (none.0, rest.0),
      rest.1,
      λ a h. elim (or_cases (x == a) (among a xs) h) [
        | inl here ↦ subst (λ b. among b ys ≡ false) (eqb-true x a here) none.1
        | inr later ↦ rest.2 a later
      ],
    )

pub distinct_joined : (xs ys : List ℕ) → AreDistinct xs → AreDistinct ys → AreApart xs ys → AreDistinct (xs ++ ys)
distinct_joined [] ys d e apart = e
distinct_joined (x ∷ xs) ys d e apart = (
  among-append x xs ys ∙ or_from (among x xs) (among x ys) d.0 (apart x (or_left (x == x) (among x xs) (eq-eqb x x refl))),
  distinct_joined xs ys d.1 e (λ a h. apart a (or_right (x == a) (among a xs) h)),
)

pub distinct_swapped : (xs ys : List ℕ) → AreDistinct (xs ++ ys) → AreDistinct (ys ++ xs)
distinct_swapped xs ys d = let parts = distinct_parts xs ys d in distinct_joined ys xs parts.1 parts.0 (apart_turned xs ys parts.2)

-- Of distinct ones, those before one are distinct and not it.
pub distinct_front : (us vs : List ℕ) (a : ℕ) → AreDistinct (us ++ a ∷ vs) → AreDistinct (a ∷ us)
distinct_front us vs a d =
    let parts = distinct_parts us (a ∷ vs) d in
    (apart_turned us (a ∷ vs) parts.2 a (or_left (a == a) (among a vs) (eq-eqb a a refl)), parts.0)

-- one more that is not among them
pub distinct_push : (xs : List ℕ) (a : ℕ) → AreDistinct xs → among a xs ≡ false → AreDistinct (xs ++ a ∷ [])
distinct_push xs a d free = distinct_swapped (a ∷ []) xs (free, d)

-- one less
pub distinct_without : (us vs : List ℕ) (a : ℕ) → AreDistinct (us ++ a ∷ vs) → AreDistinct (us ++ vs)
distinct_without us vs a d =
    let parts = distinct_parts us (a ∷ vs) d in
    distinct_joined us vs parts.0 parts.1.1 (λ b h. (or_parts (a == b) (among b vs) (parts.2 b h)).1)

-- all but one owner
without : ℕ → List ℕ → List ℕ
without a xs = filter (λ b. not (b == a)) xs

without-cons_same : (a x : ℕ) (xs : List ℕ) → (x == a) ≡ true → without a (x ∷ xs) ≡ without a xs
unfolding without
without-cons_same a x xs h = cond-false (not (x == a)) (x ∷ without a xs) (without a xs) (ap not h)

without-cons_other : (a x : ℕ) (xs : List ℕ) → (x == a) ≡ false → without a (x ∷ xs) ≡ x ∷ without a xs
unfolding without
without-cons_other a x xs h = cond-true (not (x == a)) (x ∷ without a xs) (without a xs) (ap not h)

length_without_le : (a : ℕ) (xs : List ℕ) → length (without a xs) ≤ length xs
length_without_le a [] = unfold without in omega arith
length_without_le a (x ∷ xs) = elim (cases_Bool (x == a)) [
  | inl same ↦ omega (arith, ap length (without-cons_same a x xs same), length_without_le a xs)
  | inr other ↦ omega (arith, ap length (without-cons_other a x xs other), length_without_le a xs)
]

length_without : (a : ℕ) (xs : List ℕ) → among a xs ≡ true → length (without a xs) + 1 ≤ length xs
length_without a [] h = no h
length_without a (x ∷ xs) h = elim (cases_Bool (x == a)) [
  | inl same ↦ omega (arith, ap length (without-cons_same a x xs same), length_without_le a xs)
  | inr other ↦
      let later : among a xs ≡ true = elim (or_cases (x == a) (among a xs) h) [
        | inl here ↦ absurd (both_ways (x == a) other here)
        | inr there ↦ there
      ] in
      omega (arith, ap length (without-cons_other a x xs other), length_without a xs later)
]

among_without : (a b : ℕ) (xs : List ℕ) → among b xs ≡ true → (b == a) ≡ false → among b (without a xs) ≡ true
among_without a b [] h other = no h
among_without a b (x ∷ xs) h other = elim (cases_Bool (x == a)) [
  | inl same ↦
      let later : among b xs ≡ true = elim (or_cases (x == b) (among b xs) h) [
        | inl here ↦ absurd (both_ways (b == a) other (subst (λ c. (c == a) ≡ true) (eqb-true x b here) same))
        | inr there ↦ there
      ] in
      ap (among b) (without-cons_same a x xs same) ∙ among_without a b xs later other
  | inr differs ↦ ap (among b) (without-cons_other a x xs differs) ∙ elim (or_cases (x == b) (among b xs) h) [
    | inl here ↦ or_left (x == b) (among b (without a xs)) here
    | inr there ↦ or_right (x == b) (among b (without a xs)) (among_without a b xs there other)
  ]
]

-- Distinct owners that are all among others are not more than those.
pub not_more : (xs ys : List ℕ) → AreDistinct xs → ((a : ℕ) → among a xs ≡ true → among a ys ≡ true) → length xs ≤ length ys
not_more [] ys d all = omega arith
not_more (x ∷ xs) ys d all =
    let mine : among x ys ≡ true = all x (or_left (x == x) (among x xs) (eq-eqb x x refl)) in
    let rest : length xs ≤ length (without x ys) = not_more xs (without x ys) d.1 (λ a h.
    among_without x a ys (all a (or_right (x == a) (among a xs) h))
    (ne_eqb a x (λ e. both_ways (among x xs) d.0 (subst (λ b. among b xs ≡ true) e h)))) in
    omega (arith, rest, length_without x ys mine)

-- the numbers below one
numbers : ℕ → List ℕ
numbers zero = []
numbers (suc n) = n ∷ numbers n

among_numbers : (n a : ℕ) → a < n → among a (numbers n) ≡ true
unfolding numbers
among_numbers zero a h = absurd (omega (arith, h))
among_numbers (suc n) a h = elim (cases_eq n a) [
  | inl same ↦ or_left (n == a) (among a (numbers n)) (eq-eqb n a same)
  | inr other ↦ or_right (n == a) (among a (numbers n)) (among_numbers n a (omega (arith, h, other)))
]

length_numbers : (n : ℕ) → length (numbers n) ≡ n
unfolding numbers
length_numbers zero = refl
length_numbers (suc n) = ap suc (length_numbers n)

-- Distinct numbers below one are not more than it.
pub not_more_below : (n : ℕ) (xs : List ℕ) → AreDistinct xs → ((a : ℕ) → among a xs ≡ true → a < n) → length xs ≤ n
not_more_below n xs d below = omega (arith, not_more xs (numbers n) d (λ a h. among_numbers n a (below a h)), length_numbers n)
