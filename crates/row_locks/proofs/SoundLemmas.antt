-- What always holds stays so when a lock is granted or a wait is noted.
use Rattle.std.proofs.Common.{◌≡◌, ℕ, ◌<◌, ◌^◌, List, [], ◌∷◌, ◌++◌, Option, None, is_none, true, false, not, ◌&&◌, ◌||◌, ◌==◌, refl, sym, ap, subst, ◌∙◌, inl}
use Rattle.std.proofs.Common.{inr, ◌↔◌, eqb-true, eq-eqb, append_assoc, append-nil}
use Rattle.std.specs.List.{list_any}
use Rattle.std.proofs.lemmas.Bool.{cases_Bool, or_cases, or_from, or_left, both_ways, false_from_ne_true, and_parts, and_left, not-false, cond-true, cond-false}
use Rattle.std.proofs.lemmas.List.Folds.{list_any-append}
use Rattle.std.proofs.lemmas.List.{map-append}
use Rattle.row_locks.specs.declared.lock.Request.{Request}
use Rattle.row_locks.specs.Modes.{are_in_conflict}
use Rattle.row_locks.specs.Queues.{Locks, queue, owners, among, first, in_way, waited_for, holder_of, waits_for, with_lock, with_wait, is_free}
use Rattle.row_locks.specs.Cycles.{AreDistinct, IsCycle, NoneBegins}
use Rattle.row_locks.specs.Answers.{AreBlocked, IsSound}
use Rattle.row_locks.specs.Inside.{FitNumbers}
use Rattle.row_locks.proofs.ListLemmas.{no, distinct_push, other_turned}
use Rattle.row_locks.proofs.WayLemmas.{IsMoreFrom, no_cycle_with_wait, no_cycle_with_lock}
use Rattle.row_locks.proofs.ConflictLemmas.{of_two_owners}
use Rattle.row_locks.proofs.QueueLemmas.{among-in_way, is_free-any, no_wait, waits_for-with_wait, IsWithin, IsWithinBut, within_push, within_more, waited_for-but}

-- Somebody is still in the way where more stands before.
pub blocked_by_more : (us vs : List Request) (it : Request) → IsWithin us vs → is_free us it ≡ false → is_free vs it ≡ false
blocked_by_more us vs it within h =
    let here = not-false (list_any (λ other. are_in_conflict other it) us) (sym (is_free-any us it) ∙ h) in
    is_free-any vs it ∙ ap not (within (λ other. are_in_conflict other it) here)

pub blocked_within : (us vs waits : List Request) → IsWithin us vs → AreBlocked us waits → AreBlocked vs waits
blocked_within us vs [] within h = tt
blocked_within us vs (it ∷ rest) within h =
    (blocked_by_more us vs it within h.0, blocked_within (us ++ it ∷ []) (vs ++ it ∷ []) rest (within_push it us vs within) h.1)

pub blocked_push : (before waits : List Request) (it : Request) → AreBlocked before waits → is_free (before ++ waits) it ≡ false → AreBlocked before (waits ++ it ∷ [])
blocked_push before [] it h late = (subst (λ l. is_free l it ≡ false) (append-nil before) late, tt)
blocked_push before (wait ∷ rest) it h late =
    (h.0, blocked_push (before ++ wait ∷ []) rest it h.1 (subst (λ l. is_free l it ≡ false) (sym (append_assoc before (wait ∷ []) rest)) late))

-- one more, but for itself
pub within_but_this : (it : Request) (us : List Request) → IsWithinBut it (us ++ it ∷ []) us
within_but_this it us p h = elim (or_cases (list_any p us) (p it || false) (sym (list_any-append p us (it ∷ [])) ∙ h)) [
  | inl here ↦ inl here
  | inr this ↦ inr (elim (or_cases (p it) false this) [ inl it_is ↦ it_is | inr none ↦ no none ])
]

not_of : (it : Request) (b : ℕ) (waits : List Request) → (it.owner == b) ≡ false → list_any (λ wait. (it.owner == b) && are_in_conflict it wait) waits ≡ false
not_of it b [] h = refl
not_of it b (wait ∷ rest) h =
    or_from ((it.owner == b) && are_in_conflict it wait) (list_any (λ w. (it.owner == b) && are_in_conflict it w) rest)
    (and_left (it.owner == b) (are_in_conflict it wait) h) (not_of it b rest h)

-- who has no wait waits for nobody
pub idle_without : (locks : Locks) (a : ℕ) → among a (owners locks.waits) ≡ false → (b : ℕ) → waits_for locks a b ≡ false
idle_without locks a free b = ap (among b) (no_wait a locks.granted locks.waits free)

-- A grant to an owner that waits for nobody keeps what holds.
pub sound_with_lock : (it : Request) (locks : Locks) → IsSound locks → among it.owner (owners locks.waits) ≡ false → IsSound (with_lock it locks)
sound_with_lock it locks sound free = record {
  no_cycle = no_cycle_with_lock (waits_for (with_lock it locks)) (waits_for locks) it.owner
      (λ a b h other. waited_for-but it a b (locks.granted ++ it ∷ []) locks.granted locks.waits (not_of it b locks.waits (other_turned b it.owner other)) (within_but_this it locks.granted) h)
      (idle_without (with_lock it locks) it.owner free) sound.no_cycle;
  once = sound.once;
  blocked = blocked_within locks.granted (locks.granted ++ it ∷ []) locks.waits (within_more locks.granted (it ∷ [])) sound.blocked;
}

-- a request is in the way of none of its owner's own
not_in_own_way : (before : List Request) (it : Request) → list_any (λ other. (other.owner == it.owner) && are_in_conflict other it) before ≡ false
not_in_own_way [] it = refl
not_in_own_way (other ∷ before) it =
    let mine = other.owner == it.owner in
    or_from (mine && are_in_conflict other it) (list_any (λ o. (o.owner == it.owner) && are_in_conflict o it) before)
    (elim (cases_Bool mine) [
      | inl same ↦ false_from_ne_true (mine && are_in_conflict other it) (λ h. both_ways (are_in_conflict other it) (of_two_owners other it same) (and_parts mine (are_in_conflict other it) h).1)
      | inr differs ↦ and_left mine (are_in_conflict other it) differs
    ])
    (not_in_own_way before it)

-- What a wait more adds, where its owner waited for nobody.
pub more_with_wait : (it : Request) (locks : Locks) → among it.owner (owners locks.waits) ≡ false → IsMoreFrom (waits_for (with_wait it locks)) (waits_for locks) it.owner
more_with_wait it locks free =
    let idle = idle_without locks it.owner free in
    record {
      kept = λ a b h. waits_for-with_wait it locks a b ∙ or_left (waits_for locks a b) ((it.owner == a) && among b (in_way (queue locks) it)) h;
      only = λ a b h other. elim (or_cases (waits_for locks a b) ((it.owner == a) && among b (in_way (queue locks) it)) (sym (waits_for-with_wait it locks a b) ∙ h)) [
        | inl old ↦ old
        | inr new ↦ absurd (both_ways (it.owner == a) (other_turned a it.owner other) (and_parts (it.owner == a) (among b (in_way (queue locks) it)) new).0)
      ];
      was_idle = idle;
      not_itself = waits_for-with_wait it locks it.owner it.owner
          ∙ or_from (waits_for locks it.owner it.owner) ((it.owner == it.owner) && among it.owner (in_way (queue locks) it)) (idle it.owner)
          (false_from_ne_true ((it.owner == it.owner) && among it.owner (in_way (queue locks) it)) (λ h.
          both_ways (among it.owner (in_way (queue locks) it)) (among-in_way it.owner (queue locks) it ∙ not_in_own_way (queue locks) it)
          (and_parts (it.owner == it.owner) (among it.owner (in_way (queue locks) it)) h).1));
    }

-- for whom the owner of a wait more waits
pub waits_for_by_it : (it : Request) (locks : Locks) → among it.owner (owners locks.waits) ≡ false → (b : ℕ) → waits_for (with_wait it locks) it.owner b ≡ among b (in_way (queue locks) it)
waits_for_by_it it locks free b =
    waits_for-with_wait it locks it.owner b
    ∙ ap (λ x. x || ((it.owner == it.owner) && among b (in_way (queue locks) it))) (idle_without locks it.owner free b)
    ∙ ap (λ x. x && among b (in_way (queue locks) it)) (eq-eqb it.owner it.owner refl)

-- A wait that closes no cycle keeps what holds.
pub sound_with_wait : (it : Request) (locks : Locks) → IsSound locks → among it.owner (owners locks.waits) ≡ false → is_free (queue locks) it ≡ false
    → NoneBegins (waits_for (with_wait it locks)) it.owner → IsSound (with_wait it locks)
sound_with_wait it locks sound free blocked none = record {
  no_cycle = no_cycle_with_wait (waits_for (with_wait it locks)) (waits_for locks) it.owner (more_with_wait it locks free).only sound.no_cycle none;
  once = subst AreDistinct (sym (map-append (λ (r : Request). r.owner) locks.waits (it ∷ []))) (distinct_push (owners locks.waits) it.owner sound.once free);
  blocked = blocked_push locks.granted locks.waits it sound.blocked blocked;
}

-- Who has a wait has somebody in its way.
somebody : (a : ℕ) (before waits : List Request) → AreBlocked before waits → among a (owners waits) ≡ true → is_none (first (waited_for a before waits)) ≡ false
somebody a before [] blocked h = no h
somebody a before (it ∷ rest) blocked h =
    let later = waited_for a (before ++ it ∷ []) rest in
    elim (cases_Bool (it.owner == a)) [
      | inl mine ↦ ap (λ l. is_none (first (l ++ later))) (cond-true (it.owner == a) (in_way before it) [] mine) ∙ front (in_way before it) later blocked.0
      | inr other ↦
          let rest_has : among a (owners rest) ≡ true = elim (or_cases (it.owner == a) (among a (owners rest)) h) [
            | inl here ↦ absurd (both_ways (it.owner == a) other here)
            | inr there ↦ there
          ] in
          ap (λ l. is_none (first (l ++ later))) (cond-false (it.owner == a) (in_way before it) [] other) ∙ somebody a (before ++ it ∷ []) rest blocked.1 rest_has
    ]
  where
    front : (xs ys : List ℕ) → is_none (first xs) ≡ false → is_none (first (xs ++ ys)) ≡ false
    front [] ys h = absurd (both_ways true h refl)
    front (x ∷ xs) ys h = refl

-- Who waits for nobody has no wait.
pub free_of_holder : (locks : Locks) (a : ℕ) → IsSound locks → holder_of locks a ≡ None → among a (owners locks.waits) ≡ false
free_of_holder locks a sound h = false_from_ne_true (among a (owners locks.waits)) (λ has.
    both_ways (is_none (holder_of locks a)) (somebody a locks.granted locks.waits sound.blocked has) (ap is_none h))

-- the owners fit their type
pub fits_among : (a : ℕ) (waits : List Request) → FitNumbers waits → among a (owners waits) ≡ true → a < 2 ^ 32
fits_among a [] fit h = no h
fits_among a (it ∷ rest) fit h = elim (or_cases (it.owner == a) (among a (owners rest)) h) [
  | inl here ↦ subst (λ x. x < 2 ^ 32) (eqb-true it.owner a here) fit.0
  | inr later ↦ fits_among a rest fit.1 later
]

pub fits_push : (waits : List Request) (it : Request) → FitNumbers waits → it.owner < 2 ^ 32 → FitNumbers (waits ++ it ∷ [])
fits_push [] it fit this = (this, tt)
fits_push (wait ∷ rest) it fit this = (fit.0, fits_push rest it fit.1 this)

-- An empty table is sound.
pub sound_empty : IsSound (record { granted = []; waits = [] })
sound_empty = record { no_cycle = none; once = tt; blocked = tt }
  where
    none : (cycle : List ℕ) → IsCycle (waits_for (record { granted = []; waits = [] })) cycle → ⊥
    none [] h = h
    none (a ∷ []) h = no h.1
    none (a ∷ b ∷ rest) h = no h.1.0

-- Who waits for nobody has no wait, and the other way round.
pub idle_iff : (locks : Locks) (a : ℕ) (r : Option ℕ) → IsSound locks → r ≡ holder_of locks a → (r ≡ None) ↔ (among a (owners locks.waits) ≡ false)
idle_iff locks a r sound is = (λ none. free_of_holder locks a sound (sym is ∙ none), λ free. is ∙ ap first (no_wait a locks.granted locks.waits free))
