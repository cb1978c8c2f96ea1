-- With whom the way back goes on.
use Rattle.std.proofs.Common.{◌≡◌, ℕ, ◌≤◌, min, List, [], ◌∷◌, ◌++◌, take, get_or, filter, position, Option, Some, None, MatchOption, Bool, true, false, ◌||◌}
use Rattle.std.proofs.Common.{◌&&◌, ◌==◌, refl, sym, ap, ◌∙◌, inl, inr, ◌⊎◌, arith, eqb-true, eq-eqb}
use Rattle.std.specs.List.{list_any}
use Rattle.std.proofs.lemmas.Bool.{cases_lt, cases_Bool, or_cases, or_left, or_right, both_ways, false_from_ne_true, cond-true, cond-false}
use Rattle.std.proofs.lemmas.List.Folds.{list_any-append}
use Rattle.std.proofs.lemmas.List.Quantifiers.{position-Some}
use Rattle.row_locks.specs.declared.lock.Request.{Request}
use Rattle.row_locks.specs.Modes.{are_in_conflict}
use Rattle.row_locks.specs.Queues.{Locks, owners, among, first, in_way, waits_for, holder_of}
use Rattle.row_locks.specs.Cycles.{AreDistinct}
use Rattle.row_locks.specs.Inside.{lesser, least_of, Reach, IsNext}
use Rattle.row_locks.proofs.ListLemmas.{no}
use Rattle.row_locks.proofs.QueueLemmas.{among-in_way, in_way-append, no_wait, waited_at, has_wait}
use Rattle.std.proofs.lemmas.List.Elements.{filter-append}
use Rattle.row_locks.proofs.MarkLemmas.{no_place}

-- The least of a number and these is one of them, and none is less.
pub record IsLeastOf (m : ℕ) (xs : List ℕ) (r : ℕ) : Type 0 where
  pub within : (r ≡ m) ⊎ (among r xs ≡ true)
  pub first_least : r ≤ m
  pub least : (a : ℕ) → among a xs ≡ true → r ≤ a

least_of_some : (m r : ℕ) (xs : List ℕ) → least_of (Some m) xs ≡ Some r → IsLeastOf m xs r
least_of_some m r [] h =
    let same : r ≡ m = cc in
    record { within = inl same; first_least = omega (arith, same); least = λ a in'. no in' }
least_of_some m r (x ∷ xs) h =
    let rest = least_of_some (min m x) r xs h in
    record {
      within = elim rest.within [
        | inl low ↦ elim (cases_min m x) [
          | inl is ↦ inl (low ∙ is)
          | inr is ↦ inr (or_left (x == r) (among r xs) (eq-eqb x r (sym (low ∙ is))))
        ]
        | inr later ↦ inr (or_right (x == r) (among r xs) later)
      ];
      first_least = omega (arith, rest.first_least);
      least = λ a in'. elim (or_cases (x == a) (among a xs) in') [
        | inl this ↦ omega (arith, rest.first_least, eqb-true x a this)
        | inr later ↦ rest.least a later
      ];
    }
  where
    cases_min : (m x : ℕ) → (min m x ≡ m) ⊎ (min m x ≡ x)
    cases_min m x = elim (cases_lt m x) [ inl lt ↦ inl (omega (arith, lt)) | inr le ↦ inr (omega (arith, le)) ]

least_of_not_none : (m : ℕ) (xs : List ℕ) → least_of (Some m) xs ≡ None → ⊥
least_of_not_none m [] h = cc
least_of_not_none m (x ∷ xs) h = least_of_not_none (min m x) xs h

-- those that pass a test
pub among-filter : (p : ℕ → Bool) (a : ℕ) (xs : List ℕ) → among a xs ≡ true → p a ≡ true → among a (filter p xs) ≡ true
among-filter p a [] h passes = no h
among-filter p a (x ∷ xs) h passes = elim (or_cases (x == a) (among a xs) h) [
  | inl this ↦
      let ok : p x ≡ true = ap p (eqb-true x a this) ∙ passes in
      ap (among a) (cond-true (p x) (x ∷ filter p xs) (filter p xs) ok) ∙ or_left (x == a) (among a (filter p xs)) this
  | inr later ↦ elim (cases_Bool (p x)) [
    | inl ok ↦ ap (among a) (cond-true (p x) (x ∷ filter p xs) (filter p xs) ok) ∙ or_right (x == a) (among a (filter p xs)) (among-filter p a xs later passes)
    | inr fails ↦ ap (among a) (cond-false (p x) (x ∷ filter p xs) (filter p xs) fails) ∙ among-filter p a xs later passes
  ]
]

pub from_filter : (p : ℕ → Bool) (a : ℕ) (xs : List ℕ) → among a (filter p xs) ≡ true → (among a xs ≡ true) × (p a ≡ true)
from_filter p a [] h = no h
from_filter p a (x ∷ xs) h = elim (cases_Bool (p x)) [
  | inl ok ↦ elim (or_cases (x == a) (among a (filter p xs)) (sym (ap (among a) (cond-true (p x) (x ∷ filter p xs) (filter p xs) ok)) ∙ h)) [
    | inl this ↦ (or_left (x == a) (among a xs) this, ap p (sym (eqb-true x a this)) ∙ ok)
    | inr later ↦ let rest = from_filter p a xs later in (or_right (x == a) (among a xs) rest.0, rest.1)
  ]
  | inr fails ↦ let rest = from_filter p a xs (sym (ap (among a) (cond-false (p x) (x ∷ filter p xs) (filter p xs) fails)) ∙ h) in (or_right (x == a) (among a xs) rest.0, rest.1)
]

empty : (xs : List ℕ) → least_of None xs ≡ None → xs ≡ []
empty [] h = refl
empty (x ∷ xs) h = absurd (least_of_not_none x xs h)

-- Where no least one is found, none passes.
pub least_none : (p : ℕ → Bool) (xs : List ℕ) → least_of None (filter p xs) ≡ None → (a : ℕ) → among a xs ≡ true → p a ≡ false
least_none p xs h a in' = false_from_ne_true (p a) (λ passes. no (ap (among a) (sym (empty (filter p xs) h)) ∙ among-filter p a xs in' passes))

-- The least one that is found passes, and none that passes is less.
pub least_some : (p : ℕ → Bool) (xs : List ℕ) (r : ℕ) → least_of None (filter p xs) ≡ Some r → (among r xs ≡ true) × (p r ≡ true) × ((a : ℕ) → among a xs ≡ true → p a ≡ true → r ≤ a)
least_some p xs r h = let found = of_all (filter p xs) r h in
    let parts = from_filter p r xs found.0 in
    (parts.0, parts.1, λ a in' passes. found.1 a (among-filter p a xs in' passes))
  where
    of_all : (ys : List ℕ) (r : ℕ) → least_of None ys ≡ Some r → (among r ys ≡ true) × ((a : ℕ) → among a ys ≡ true → r ≤ a)
    of_all [] r h = absurd (none_some h)
      where
        none_some : None ≡ Some r → ⊥
        none_some q = cc
    of_all (y ∷ ys) r h =
        let found = least_of_some y r ys h in (
          elim found.within [ inl is ↦ or_left (y == r) (among r ys) (eq-eqb y r (sym is)) | inr later ↦ or_right (y == r) (among r ys) later ],
          λ a in'. elim (or_cases (y == a) (among a ys) in') [ inl this ↦ omega (arith, found.first_least, eqb-true y a this) | inr later ↦ found.least a later ],
        )

-- For whom an owner waits, asked of the requests before its wait.
pub waits_at : (locks : Locks) (a k : ℕ) (x : Request) → AreDistinct (owners locks.waits) → position (λ (it : Request). it.owner == a) locks.waits ≡ Some k → x ≡ get_or locks.waits k x
    → (b : ℕ) → waits_for locks a b ≡ among b (in_way (locks.granted ++ take k locks.waits) x)
waits_at locks a k x once found at b =
    let here = position-Some (λ (it : Request). it.owner == a) locks.waits k x found in
    ap (among b) (waited_at a k locks.granted locks.waits x once here.0 (eqb-true (get_or locks.waits k x).owner a here.1) ∙ ap (in_way (locks.granted ++ take k locks.waits)) (sym at))

-- Whether an owner is in the way, asked of the locks and then of the waits.
asked : (b : ℕ) (us vs : List Request) (x : Request) → among b (in_way (us ++ vs) x)
    ≡ (list_any (λ other. (other.owner == b) && are_in_conflict other x) us || list_any (λ other. (other.owner == b) && are_in_conflict other x) vs)
asked b us vs x = among-in_way b (us ++ vs) x ∙ list_any-append (λ other. (other.owner == b) && are_in_conflict other x) us vs

pub asked_first : (b : ℕ) (us vs : List Request) (x : Request) (r : Bool) → r ≡ list_any (λ other. (other.owner == b) && are_in_conflict other x) us → r ≡ true → r ≡ among b (in_way (us ++ vs) x)
asked_first b us vs x r is hit = hit ∙ sym (asked b us vs x ∙ ap (λ y. y || list_any (λ other. (other.owner == b) && are_in_conflict other x) vs) (sym is ∙ hit))

pub asked_second : (b : ℕ) (us vs : List Request) (x : Request) (q r : Bool) → q ≡ list_any (λ other. (other.owner == b) && are_in_conflict other x) us → q ≡ false
    → r ≡ list_any (λ other. (other.owner == b) && are_in_conflict other x) vs → r ≡ among b (in_way (us ++ vs) x)
asked_second b us vs x q r is miss then = then ∙ sym (asked b us vs x ∙ ap (λ y. y || list_any (λ other. (other.owner == b) && are_in_conflict other x) vs) (sym is ∙ miss))

-- Who reaches the last owner has a wait.
pub reached_has_place : (locks : Locks) (reached : List ℕ) (last a : ℕ) → Reach (waits_for locks) reached last → among a reached ≡ true
    → position (λ (it : Request). it.owner == a) locks.waits ≡ None → ⊥
reached_has_place locks reached last a reach here none =
    both_ways (among a (owners locks.waits)) (no_place a locks.waits none) (elim (reach.goes_on a here) [
      | inl e ↦ has_wait locks a last e
      | inr to ↦ has_wait locks a to.0 to.1
    ])

-- Who reaches the last owner, and does not wait for it, waits for another that reaches it.
pub goes_on_with : (E : ℕ → ℕ → Bool) (reached ways : List ℕ) (last a : ℕ) → Reach E reached last → among a reached ≡ true → E a last ≡ false → ((b : ℕ) → E a b ≡ among b ways)
    → least_of None (filter (λ b. among b reached) ways) ≡ None → ⊥
goes_on_with E reached ways last a reach here not_last is none = elim (reach.goes_on a here) [
  | inl e ↦ both_ways (E a last) not_last e
  | inr to ↦ both_ways (among to.0 reached) (least_none (λ b. among b reached) ways none to.0 (sym (is to.0) ∙ to.1)) to.2
]

pub is_next : (E : ℕ → ℕ → Bool) (reached ways : List ℕ) (last a b : ℕ) → E a last ≡ false → ((c : ℕ) → E a c ≡ among c ways)
    → least_of None (filter (λ c. among c reached) ways) ≡ Some b → IsNext E reached last a b
is_next E reached ways last a b not_last is found =
    let least = least_some (λ c. among c reached) ways b found in
    record {
      not_last = not_last;
      waits_for = is b ∙ least.0;
      reaches = least.1;
      least = λ c e m. least.2 c (sym (is c) ∙ e) m;
    }

pub least_of-append : (best : Option ℕ) (xs ys : List ℕ) → least_of best (xs ++ ys) ≡ least_of (least_of best xs) ys
least_of-append best [] ys = refl
least_of-append best (x ∷ xs) ys = least_of-append (Some (lesser best x)) xs ys

-- the least of those in the way, found in the locks and then in the waits
pub least_in_both : (reached : List ℕ) (us vs : List Request) (it : Request)
    → least_of (least_of None (filter (λ a. among a reached) (in_way us it))) (filter (λ a. among a reached) (in_way vs it))
    ≡ least_of None (filter (λ a. among a reached) (in_way (us ++ vs) it))
least_in_both reached us vs it =
    let p = λ (a : ℕ). among a reached in
    sym (ap (λ l. least_of None (filter p l)) (in_way-append us vs it)
    ∙ ap (least_of None) (filter-append p (in_way us it) (in_way vs it))
    ∙ least_of-append None (filter p (in_way us it)) (filter p (in_way vs it)))

-- What the search for the least finds is the next one.
pub next_found : (E : ℕ → ℕ → Bool) (reached ways : List ℕ) (last a : ℕ) (r : Option ℕ) → Reach E reached last → among a reached ≡ true → E a last ≡ false → ((b : ℕ) → E a b ≡ among b ways)
    → r ≡ least_of None (filter (λ b. among b reached) ways) → MatchOption r (E a last ≡ true) (λ b. IsNext E reached last a b)
next_found E reached ways last a None reach here not_last is found = absurd (goes_on_with E reached ways last a reach here not_last is (sym found))
next_found E reached ways last a (Some b) reach here not_last is found = is_next E reached ways last a b not_last is (sym found)

-- the first for whom an owner waits
pub holder_none : (locks : Locks) (a : ℕ) → position (λ (it : Request). it.owner == a) locks.waits ≡ None → None ≡ holder_of locks a
holder_none locks a none = ap first (sym (no_wait a locks.granted locks.waits (no_place a locks.waits none)))

pub holder_at : (locks : Locks) (a k : ℕ) (x : Request) → AreDistinct (owners locks.waits) → position (λ (it : Request). it.owner == a) locks.waits ≡ Some k → x ≡ get_or locks.waits k x
    → first (in_way (locks.granted ++ take k locks.waits) x) ≡ holder_of locks a
holder_at locks a k x once found at =
    let here = position-Some (λ (it : Request). it.owner == a) locks.waits k x found in
    ap first (ap (in_way (locks.granted ++ take k locks.waits)) at ∙ sym (waited_at a k locks.granted locks.waits x once here.0 (eqb-true (get_or locks.waits k x).owner a here.1)))
