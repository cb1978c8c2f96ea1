-- For whom owners wait, when requests come and go.
use Rattle.std.proofs.Common.{◌≡◌, ℕ, suc, zero, ◌<◌, List, [], ◌∷◌, ◌++◌, length, get_or, take, filter, is_none, Bool, true, false, not, if◌then◌else◌, ◌&&◌}
use Rattle.std.proofs.Common.{◌||◌, ◌==◌, refl, sym, ap, subst, ◌∙◌, inl, inr, ◌⊎◌, arith, eq-eqb, ne_eqb, append_assoc, append-nil}
use Rattle.std.specs.List.{list_any}
use Rattle.std.proofs.lemmas.Bool.{cases_Bool, or_cases, or_parts, or_left, or_right, both_ways, and_parts, and_from, cond-true, cond-false}
use Rattle.std.proofs.lemmas.List.Folds.{list_any-append}
use Rattle.std.proofs.lemmas.List.Elements.{filter-append}
use Rattle.std.proofs.lemmas.List.{map-append}
use Rattle.row_locks.specs.declared.lock.Request.{Request}
use Rattle.row_locks.specs.Modes.{are_in_conflict}
use Rattle.row_locks.specs.Queues.{Locks, queue, owners, among, first, in_way, waited_for, waits_for, with_wait, is_free}
use Rattle.row_locks.specs.Cycles.{AreDistinct}
use Rattle.row_locks.proofs.ListLemmas.{no, among-append}

-- an owner for each
pub length_owners : (waits : List Request) → length (owners waits) ≡ length waits
length_owners [] = refl
length_owners (it ∷ rest) = ap suc (length_owners rest)

-- Who is in the way of a request, asked of each request before it.
pub among-in_way : (b : ℕ) (before : List Request) (it : Request) → among b (in_way before it) ≡ list_any (λ other. (other.owner == b) && are_in_conflict other it) before
among-in_way b [] it = refl
among-in_way b (other ∷ before) it = elim (cases_Bool (are_in_conflict other it)) [
  | inl hit ↦
      ap (λ (l : List Request). among b (owners l)) (cond-true (are_in_conflict other it) (other ∷ filter (λ o. are_in_conflict o it) before) (filter (λ o. are_in_conflict o it) before) hit)
      ∙ ap (λ x. (other.owner == b) || x) (among-in_way b before it)
      ∙ ap (λ x. x || list_any (λ o. (o.owner == b) && are_in_conflict o it) before) (sym (with_hit (other.owner == b) (are_in_conflict other it) hit))
  | inr differs ↦
      ap (λ (l : List Request). among b (owners l)) (cond-false (are_in_conflict other it) (other ∷ filter (λ o. are_in_conflict o it) before) (filter (λ o. are_in_conflict o it) before) differs)
      ∙ among-in_way b before it
      ∙ ap (λ x. x || list_any (λ o. (o.owner == b) && are_in_conflict o it) before) (sym (with_no (other.owner == b) (are_in_conflict other it) differs))
]
  where
    with_hit : (x y : Bool) → y ≡ true → (x && y) ≡ x
    with_hit true y h = h
    with_hit false y h = refl

    with_no : (x y : Bool) → y ≡ false → (x && y) ≡ false
    with_no true y h = h
    with_no false y h = refl

pub in_way-append : (us vs : List Request) (it : Request) → in_way (us ++ vs) it ≡ in_way us it ++ in_way vs it
in_way-append us vs it =
    ap owners (filter-append (λ other. are_in_conflict other it) us vs)
    ∙ map-append (λ (r : Request). r.owner) (filter (λ other. are_in_conflict other it) us) (filter (λ other. are_in_conflict other it) vs)

-- Nobody is in the way of a request where none before it is in conflict with it.
pub is_free-any : (before : List Request) (it : Request) → is_free before it ≡ not (list_any (λ other. are_in_conflict other it) before)
is_free-any [] it = refl
is_free-any (other ∷ before) it = elim (cases_Bool (are_in_conflict other it)) [
  | inl hit ↦
      ap (λ (l : List Request). is_none (first (owners l))) (cond-true (are_in_conflict other it) (other ∷ filter (λ o. are_in_conflict o it) before) (filter (λ o. are_in_conflict o it) before) hit)
      ∙ ap (λ x. not (x || list_any (λ o. are_in_conflict o it) before)) (sym hit)
  | inr differs ↦
      ap (λ (l : List Request). is_none (first (owners l)))
      (cond-false (are_in_conflict other it) (other ∷ filter (λ o. are_in_conflict o it) before) (filter (λ o. are_in_conflict o it) before) differs)
      ∙ is_free-any before it
      ∙ ap (λ x. not (x || list_any (λ o. are_in_conflict o it) before)) (sym differs)
]

pub waited_for-append : (a : ℕ) (before us vs : List Request) → waited_for a before (us ++ vs) ≡ waited_for a before us ++ waited_for a (before ++ us) vs
waited_for-append a before [] vs = ap (λ (l : List Request). waited_for a l vs) (sym (append-nil before))
waited_for-append a before (it ∷ us) vs =
    let own : List ℕ = if it.owner == a then in_way before it else [] in
    ap (λ l. own ++ l) (waited_for-append a (before ++ it ∷ []) us vs
    ∙ ap (λ (l : List Request). waited_for a (before ++ it ∷ []) us ++ waited_for a l vs) (append_assoc before (it ∷ []) us))
    ∙ sym (append_assoc own (waited_for a (before ++ it ∷ []) us) (waited_for a (before ++ it ∷ us) vs))

-- for whom an owner waits by one wait
abbrev pub by_wait : ℕ → List Request → Request → List ℕ
by_wait a before it = if it.owner == a then in_way before it else []

pub among-by_wait : (a b : ℕ) (before : List Request) (it : Request)
    → among b (by_wait a before it) ≡ ((it.owner == a) && list_any (λ other. (other.owner == b) && are_in_conflict other it) before)
among-by_wait a b before it = elim (cases_Bool (it.owner == a)) [
  | inl mine ↦
      ap (among b) (cond-true (it.owner == a) (in_way before it) [] mine) ∙ among-in_way b before it
      ∙ ap (λ x. x && list_any (λ other. (other.owner == b) && are_in_conflict other it) before) (sym mine)
  | inr other ↦
      ap (among b) (cond-false (it.owner == a) (in_way before it) [] other)
      ∙ ap (λ x. x && list_any (λ other. (other.owner == b) && are_in_conflict other it) before) (sym other)
]

-- one wait and the rest
pub among-waited_for : (a b : ℕ) (before : List Request) (it : Request) (rest : List Request) → among b (waited_for a before (it ∷ rest))
    ≡ (((it.owner == a) && list_any (λ other. (other.owner == b) && are_in_conflict other it) before) || among b (waited_for a (before ++ it ∷ []) rest))
among-waited_for a b before it rest =
    among-append b (by_wait a before it) (waited_for a (before ++ it ∷ []) rest)
    ∙ ap (λ x. x || among b (waited_for a (before ++ it ∷ []) rest)) (among-by_wait a b before it)

-- Who has no wait waits for nobody.
pub no_wait : (a : ℕ) (before waits : List Request) → among a (owners waits) ≡ false → waited_for a before waits ≡ []
no_wait a before [] h = refl
no_wait a before (it ∷ rest) h =
    let parts = or_parts (it.owner == a) (among a (owners rest)) h in
    ap (λ l. l ++ waited_for a (before ++ it ∷ []) rest) (cond-false (it.owner == a) (in_way before it) [] parts.0) ∙ no_wait a (before ++ it ∷ []) rest parts.1

-- Who waits for somebody has a wait.
pub has_wait : (locks : Locks) (a b : ℕ) → waits_for locks a b ≡ true → among a (owners locks.waits) ≡ true
has_wait locks a b h = elim (cases_Bool (among a (owners locks.waits))) [
  | inl hit ↦ hit
  | inr none ↦ no (ap (among b) (sym (no_wait a locks.granted locks.waits none)) ∙ h)
]

-- the owner of a wait has a wait
pub among_at : (k : ℕ) (waits : List Request) (d : Request) → k < length waits → among (get_or waits k d).owner (owners waits) ≡ true
among_at k [] d lt = absurd (omega (arith, lt))
among_at zero (it ∷ rest) d lt = or_left (it.owner == it.owner) (among it.owner (owners rest)) (eq-eqb it.owner it.owner refl)
among_at (suc k) (it ∷ rest) d lt = or_right (it.owner == (get_or rest k d).owner) (among (get_or rest k d).owner (owners rest)) (among_at k rest d (omega (arith, lt)))

-- Who waits waits once: by the wait at its place.
pub waited_at : (a k : ℕ) (before waits : List Request) (d : Request) → AreDistinct (owners waits) → k < length waits → (get_or waits k d).owner ≡ a
    → waited_for a before waits ≡ in_way (before ++ take k waits) (get_or waits k d)
waited_at a k before [] d once lt mine = absurd (omega (arith, lt))
waited_at a zero before (it ∷ rest) d once lt mine =
    let none : among a (owners rest) ≡ false = subst (λ x. among x (owners rest) ≡ false) mine once.0 in
    ap (λ l. l ++ waited_for a (before ++ it ∷ []) rest) (cond-true (it.owner == a) (in_way before it) [] (eq-eqb it.owner a mine))
    ∙ ap (λ l. in_way before it ++ l) (no_wait a (before ++ it ∷ []) rest none)
    ∙ append-nil (in_way before it)
    ∙ ap (λ (l : List Request). in_way l it) (sym (append-nil before))
waited_at a (suc k) before (it ∷ rest) d once lt mine =
    let lt' : k < length rest = omega (arith, lt) in
    let other : (it.owner == a) ≡ false = ne_eqb it.owner a (λ e.
    both_ways (among it.owner (owners rest)) once.0 (subst (λ x. among x (owners rest) ≡ true) (mine ∙ sym e) (among_at k rest d lt'))) in
    ap (λ l. l ++ waited_for a (before ++ it ∷ []) rest) (cond-false (it.owner == a) (in_way before it) [] other)
    ∙ waited_at a k (before ++ it ∷ []) rest d once.1 lt' mine
    ∙ ap (λ (l : List Request). in_way l (get_or rest k d)) (append_assoc before (it ∷ []) (take k rest))

-- A wait more adds only for whom its owner waits.
pub waits_for-with_wait : (it : Request) (locks : Locks) (a b : ℕ) → waits_for (with_wait it locks) a b ≡ (waits_for locks a b || ((it.owner == a) && among b (in_way (queue locks) it)))
waits_for-with_wait it locks a b =
    ap (among b) (waited_for-append a locks.granted locks.waits (it ∷ []))
    ∙ among-append b (waited_for a locks.granted locks.waits) (waited_for a (queue locks) (it ∷ []))
    ∙ ap (λ x. waits_for locks a b || x) (
    ap (among b) (append-nil (by_wait a (queue locks) it)) ∙ among-by_wait a b (queue locks) it
    ∙ ap (λ x. (it.owner == a) && x) (sym (among-in_way b (queue locks) it)))

-- what is among the first is among the second
abbrev pub IsWithin : List Request → List Request → Type 0
IsWithin us vs = (p : Request → Bool) → list_any p us ≡ true → list_any p vs ≡ true

-- the same but for one
abbrev pub IsWithinBut : Request → List Request → List Request → Type 0
IsWithinBut it us vs = (p : Request → Bool) → list_any p us ≡ true → (list_any p vs ≡ true) ⊎ (p it ≡ true)

pub within_but_push : (it next : Request) (us vs : List Request) → IsWithinBut it us vs → IsWithinBut it (us ++ next ∷ []) (vs ++ next ∷ [])
within_but_push it next us vs within p h =
    let to : list_any p (vs ++ next ∷ []) ≡ (list_any p vs || (p next || false)) = list_any-append p vs (next ∷ []) in
    elim (or_cases (list_any p us) (p next || false) (sym (list_any-append p us (next ∷ [])) ∙ h)) [
      | inl early ↦ elim (within p early) [
        | inl there ↦ inl (to ∙ or_left (list_any p vs) (p next || false) there)
        | inr this ↦ inr this
      ]
      | inr late ↦ inl (to ∙ or_right (list_any p vs) (p next || false) late)
    ]

pub within_push : (next : Request) (us vs : List Request) → IsWithin us vs → IsWithin (us ++ next ∷ []) (vs ++ next ∷ [])
within_push next us vs within p h =
    let to : list_any p (vs ++ next ∷ []) ≡ (list_any p vs || (p next || false)) = list_any-append p vs (next ∷ []) in
    elim (or_cases (list_any p us) (p next || false) (sym (list_any-append p us (next ∷ [])) ∙ h)) [
      | inl early ↦ to ∙ or_left (list_any p vs) (p next || false) (within p early)
      | inr late ↦ to ∙ or_right (list_any p vs) (p next || false) late
    ]

pub within_more : (us vs : List Request) → IsWithin us (us ++ vs)
within_more us vs p h = list_any-append p us vs ∙ or_left (list_any p us) (list_any p vs) h

-- One that is in conflict with none of these waits, as one of this owner, adds nothing by standing before them.
pub waited_for-but : (it : Request) (a b : ℕ) (us vs waits : List Request) → list_any (λ wait. (it.owner == b) && are_in_conflict it wait) waits ≡ false → IsWithinBut it us vs
    → among b (waited_for a us waits) ≡ true → among b (waited_for a vs waits) ≡ true
waited_for-but it a b us vs [] apart within h = h
waited_for-but it a b us vs (wait ∷ rest) apart within h =
    let none = or_parts ((it.owner == b) && are_in_conflict it wait) (list_any (λ w. (it.owner == b) && are_in_conflict it w) rest) apart in
    let in' = λ (before : List Request). list_any (λ other. (other.owner == b) && are_in_conflict other wait) before in
    among-waited_for a b vs wait rest
    ∙ elim (or_cases ((wait.owner == a) && in' us) (among b (waited_for a (us ++ wait ∷ []) rest)) (sym (among-waited_for a b us wait rest) ∙ h)) [
      | inl here ↦
          let parts = and_parts (wait.owner == a) (in' us) here in
          let there : in' vs ≡ true = elim (within (λ other. (other.owner == b) && are_in_conflict other wait) parts.1) [
            | inl hit ↦ hit
            | inr this ↦ absurd (both_ways ((it.owner == b) && are_in_conflict it wait) none.0 this)
          ] in
          or_left ((wait.owner == a) && in' vs) (among b (waited_for a (vs ++ wait ∷ []) rest)) (and_from (wait.owner == a) (in' vs) parts.0 there)
      | inr later ↦
          or_right ((wait.owner == a) && in' vs) (among b (waited_for a (vs ++ wait ∷ []) rest))
          (waited_for-but it a b (us ++ wait ∷ []) (vs ++ wait ∷ []) rest none.1 (within_but_push it wait us vs within) later)
    ]

-- More before the waits, and more waits, take nothing away.
pub waited_for-within : (a b : ℕ) (us vs waits : List Request) → IsWithin us vs → among b (waited_for a us waits) ≡ true → among b (waited_for a vs waits) ≡ true
waited_for-within a b us vs [] within h = h
waited_for-within a b us vs (wait ∷ rest) within h =
    let in' = λ (before : List Request). list_any (λ other. (other.owner == b) && are_in_conflict other wait) before in
    among-waited_for a b vs wait rest
    ∙ elim (or_cases ((wait.owner == a) && in' us) (among b (waited_for a (us ++ wait ∷ []) rest)) (sym (among-waited_for a b us wait rest) ∙ h)) [
      | inl here ↦
          let parts = and_parts (wait.owner == a) (in' us) here in
          or_left ((wait.owner == a) && in' vs) (among b (waited_for a (vs ++ wait ∷ []) rest))
          (and_from (wait.owner == a) (in' vs) parts.0 (within (λ other. (other.owner == b) && are_in_conflict other wait) parts.1))
      | inr later ↦
          or_right ((wait.owner == a) && in' vs) (among b (waited_for a (vs ++ wait ∷ []) rest))
          (waited_for-within a b (us ++ wait ∷ []) (vs ++ wait ∷ []) rest (within_push wait us vs within) later)
    ]
