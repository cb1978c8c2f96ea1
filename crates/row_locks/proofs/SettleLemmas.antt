-- What a release leaves.
use Rattle.std.proofs.Common.{◌≡◌, ℕ, ◌+◌, ◌-◌, ◌<◌, ◌≤◌, ◌^◌, List, [], ◌∷◌, ◌++◌, length, filter, Bool, true, false, not, ◌&&◌, ◌||◌, ◌==◌, refl, sym, ap}
use Rattle.std.proofs.Common.{subst, ◌∙◌, inl, inr, arith, eqb-true, append_assoc, append-nil, length-append}
use Rattle.std.specs.List.{list_any}
use Rattle.std.proofs.lemmas.Bool.{cases_Bool, or_cases, or_parts, or_from, or_left, or_right, both_ways, false_from_ne_true, and_parts, and_from, not-true, cond-true, cond-false}
use Rattle.std.proofs.lemmas.List.Folds.{list_any-append}
use Rattle.std.proofs.lemmas.List.{map-append}
use Rattle.row_locks.specs.declared.lock.Request.{Request}
use Rattle.row_locks.specs.Modes.{are_in_conflict}
use Rattle.row_locks.specs.Queues.{Locks, owners, among, waited_for, waits_for, is_free, others, settled, released}
use Rattle.row_locks.specs.Cycles.{AreDistinct}
use Rattle.row_locks.specs.Answers.{AreBlocked, IsSound}
use Rattle.row_locks.specs.Inside.{FitNumbers}
use Rattle.row_locks.proofs.ListLemmas.{among-append, distinct_without, not_more_below}
use Rattle.row_locks.proofs.WayLemmas.{no_cycle_within}
use Rattle.row_locks.proofs.ConflictLemmas.{conflict_turned}
use Rattle.row_locks.proofs.QueueLemmas.{length_owners, is_free-any, among-waited_for, waited_for-append, IsWithin, within_push, within_more, waited_for-but, waited_for-within}
use Rattle.row_locks.proofs.SoundLemmas.{blocked_within, blocked_push, within_but_this, fits_among, fits_push}

-- one step: the first wait is granted, or it stays
pub settled-free : (granted stay rest : List Request) (it : Request) → is_free (granted ++ stay) it ≡ true → settled granted stay (it ∷ rest) ≡ settled (granted ++ it ∷ []) stay rest
settled-free granted stay rest it h = cond-true (is_free (granted ++ stay) it) (settled (granted ++ it ∷ []) stay rest) (settled granted (stay ++ it ∷ []) rest) h

pub settled-blocked : (granted stay rest : List Request) (it : Request) → is_free (granted ++ stay) it ≡ false → settled granted stay (it ∷ rest) ≡ settled granted (stay ++ it ∷ []) rest
settled-blocked granted stay rest it h = cond-false (is_free (granted ++ stay) it) (settled (granted ++ it ∷ []) stay rest) (settled granted (stay ++ it ∷ []) rest) h

-- in conflict with none of these, in either order
none_turned : (it : Request) (b : ℕ) (waits : List Request) → list_any (λ wait. are_in_conflict wait it) waits ≡ false → list_any (λ wait. (it.owner == b) && are_in_conflict it wait) waits ≡ false
none_turned it b [] h = refl
none_turned it b (wait ∷ rest) h =
    let parts = or_parts (are_in_conflict wait it) (list_any (λ w. are_in_conflict w it) rest) h in
    or_from ((it.owner == b) && are_in_conflict it wait) (list_any (λ w. (it.owner == b) && are_in_conflict it w) rest)
    (false_from_ne_true ((it.owner == b) && are_in_conflict it wait) (λ m.
    both_ways (are_in_conflict wait it) parts.0 (conflict_turned wait it ∙ (and_parts (it.owner == b) (are_in_conflict it wait) m).1)))
    (none_turned it b rest parts.1)

-- the one granted stands before those that stay, or behind them: the same
moved_within : (granted stay : List Request) (it : Request) → IsWithin ((granted ++ it ∷ []) ++ stay) ((granted ++ stay) ++ it ∷ [])
moved_within granted stay it p h =
    let to : list_any p ((granted ++ stay) ++ it ∷ []) ≡ (list_any p (granted ++ stay) || (p it || false)) = list_any-append p (granted ++ stay) (it ∷ []) in
    let front : list_any p (granted ++ stay) ≡ (list_any p granted || list_any p stay) = list_any-append p granted stay in
    elim (or_cases (list_any p (granted ++ it ∷ [])) (list_any p stay) (sym (list_any-append p (granted ++ it ∷ []) stay) ∙ h)) [
      | inl early ↦ elim (or_cases (list_any p granted) (p it || false) (sym (list_any-append p granted (it ∷ [])) ∙ early)) [
        | inl held ↦ to ∙ or_left (list_any p (granted ++ stay)) (p it || false) (front ∙ or_left (list_any p granted) (list_any p stay) held)
        | inr this ↦ to ∙ or_right (list_any p (granted ++ stay)) (p it || false) this
      ]
      | inr late ↦ to ∙ or_left (list_any p (granted ++ stay)) (p it || false) (front ∙ or_right (list_any p granted) (list_any p stay) late)
    ]

-- A grant where nobody is in the way makes nobody wait for more.
grant_within : (a b : ℕ) (granted stay rest : List Request) (it : Request) → is_free (granted ++ stay) it ≡ true
    → among b (waited_for a (granted ++ it ∷ []) (stay ++ rest)) ≡ true → among b (waited_for a granted (stay ++ it ∷ rest)) ≡ true
grant_within a b granted stay rest it free h =
    let none = not-true (list_any (λ other. are_in_conflict other it) (granted ++ stay)) (sym (is_free-any (granted ++ stay) it) ∙ free) in
    let apart = (or_parts (list_any (λ o. are_in_conflict o it) granted) (list_any (λ o. are_in_conflict o it) stay) (sym (list_any-append (λ o. are_in_conflict o it) granted stay) ∙ none)).1 in
    let early = among b (waited_for a granted stay) in
    let late = among b (waited_for a (granted ++ stay) (it ∷ rest)) in
    let own = (it.owner == a) && list_any (λ other. (other.owner == b) && are_in_conflict other it) (granted ++ stay) in
    ap (among b) (waited_for-append a granted stay (it ∷ rest)) ∙ among-append b (waited_for a granted stay) (waited_for a (granted ++ stay) (it ∷ rest))
    ∙ elim (or_cases (among b (waited_for a (granted ++ it ∷ []) stay)) (among b (waited_for a ((granted ++ it ∷ []) ++ stay) rest))
    (sym (among-append b (waited_for a (granted ++ it ∷ []) stay) (waited_for a ((granted ++ it ∷ []) ++ stay) rest))
    ∙ sym (ap (among b) (waited_for-append a (granted ++ it ∷ []) stay rest)) ∙ h)) [
      | inl first ↦ or_left early late (waited_for-but it a b (granted ++ it ∷ []) granted stay (none_turned it b stay apart) (within_but_this it granted) first)
      | inr second ↦ or_right early late (among-waited_for a b (granted ++ stay) it rest
          ∙ or_right own (among b (waited_for a ((granted ++ stay) ++ it ∷ []) rest))
          (waited_for-within a b ((granted ++ it ∷ []) ++ stay) ((granted ++ stay) ++ it ∷ []) rest (moved_within granted stay it) second))
    ]

settled_within : (a b : ℕ) (granted stay rest : List Request) → waits_for (settled granted stay rest) a b ≡ true → among b (waited_for a granted (stay ++ rest)) ≡ true
settled_within a b granted stay [] h = ap (λ l. among b (waited_for a granted l)) (append-nil stay) ∙ h
settled_within a b granted stay (it ∷ rest) h = elim (cases_Bool (is_free (granted ++ stay) it)) [
  | inl free ↦ grant_within a b granted stay rest it free
      (settled_within a b (granted ++ it ∷ []) stay rest (subst (λ (l : Locks). waits_for l a b ≡ true) (settled-free granted stay rest it free) h))
  | inr blocked ↦ ap (λ l. among b (waited_for a granted l)) (sym (append_assoc stay (it ∷ []) rest))
      ∙ settled_within a b granted (stay ++ it ∷ []) rest (subst (λ (l : Locks). waits_for l a b ≡ true) (settled-blocked granted stay rest it blocked) h)
]

settled_blocked : (granted stay rest : List Request) → AreBlocked granted stay → AreBlocked (settled granted stay rest).granted (settled granted stay rest).waits
settled_blocked granted stay [] h = h
settled_blocked granted stay (it ∷ rest) h = elim (cases_Bool (is_free (granted ++ stay) it)) [
  | inl free ↦ subst (λ (l : Locks). AreBlocked l.granted l.waits) (sym (settled-free granted stay rest it free))
      (settled_blocked (granted ++ it ∷ []) stay rest (blocked_within granted (granted ++ it ∷ []) stay (within_more granted (it ∷ [])) h))
  | inr blocked ↦ subst (λ (l : Locks). AreBlocked l.granted l.waits) (sym (settled-blocked granted stay rest it blocked))
      (settled_blocked granted (stay ++ it ∷ []) rest (blocked_push granted stay it h blocked))
]

owners-append : (us vs : List Request) → owners (us ++ vs) ≡ owners us ++ owners vs
owners-append us vs = map-append (λ (r : Request). r.owner) us vs

settled_once : (granted stay rest : List Request) → AreDistinct (owners (stay ++ rest)) → AreDistinct (owners (settled granted stay rest).waits)
settled_once granted stay [] d = subst (λ l. AreDistinct (owners l)) (append-nil stay) d
settled_once granted stay (it ∷ rest) d = elim (cases_Bool (is_free (granted ++ stay) it)) [
  | inl free ↦ subst (λ (l : Locks). AreDistinct (owners l.waits)) (sym (settled-free granted stay rest it free))
      (settled_once (granted ++ it ∷ []) stay rest (subst AreDistinct (sym (owners-append stay rest))
      (distinct_without (owners stay) (owners rest) it.owner (subst AreDistinct (owners-append stay (it ∷ rest)) d))))
  | inr blocked ↦ subst (λ (l : Locks). AreDistinct (owners l.waits)) (sym (settled-blocked granted stay rest it blocked))
      (settled_once granted (stay ++ it ∷ []) rest (subst (λ l. AreDistinct (owners l)) (sym (append_assoc stay (it ∷ []) rest)) d))
]

pub settled_fits : (granted stay rest : List Request) → FitNumbers stay → FitNumbers rest → FitNumbers (settled granted stay rest).waits
settled_fits granted stay [] fit more = fit
settled_fits granted stay (it ∷ rest) fit more = elim (cases_Bool (is_free (granted ++ stay) it)) [
  | inl free ↦ subst (λ (l : Locks). FitNumbers l.waits) (sym (settled-free granted stay rest it free)) (settled_fits (granted ++ it ∷ []) stay rest fit more.1)
  | inr blocked ↦ subst (λ (l : Locks). FitNumbers l.waits) (sym (settled-blocked granted stay rest it blocked))
      (settled_fits granted (stay ++ it ∷ []) rest (fits_push stay it fit more.0) more.1)
]

-- No request is lost.
pub length_settled : (granted stay rest : List Request) → length (settled granted stay rest).granted + length (settled granted stay rest).waits ≡ length granted + (length stay + length rest)
length_settled granted stay [] = omega arith
length_settled granted stay (it ∷ rest) = elim (cases_Bool (is_free (granted ++ stay) it)) [
  | inl free ↦ ap (λ (l : Locks). length l.granted + length l.waits) (settled-free granted stay rest it free)
      ∙ omega (arith, length_settled (granted ++ it ∷ []) stay rest, length-append granted (it ∷ []))
  | inr blocked ↦ ap (λ (l : Locks). length l.granted + length l.waits) (settled-blocked granted stay rest it blocked)
      ∙ omega (arith, length_settled granted (stay ++ it ∷ []) rest, length-append stay (it ∷ []))
]

settled_more : (granted stay rest : List Request) → length granted ≤ length (settled granted stay rest).granted
settled_more granted stay [] = omega arith
settled_more granted stay (it ∷ rest) = elim (cases_Bool (is_free (granted ++ stay) it)) [
  | inl free ↦ omega (arith, settled_more (granted ++ it ∷ []) stay rest, length-append granted (it ∷ []), ap (λ (l : Locks). length l.granted) (settled-free granted stay rest it free))
  | inr blocked ↦ omega (arith, settled_more granted (stay ++ it ∷ []) rest, ap (λ (l : Locks). length l.granted) (settled-blocked granted stay rest it blocked))
]

-- those that pass a test
kept_within : (p : Request → Bool) (us : List Request) → IsWithin (filter p us) us
kept_within p [] q h = h
kept_within p (it ∷ us) q h = elim (cases_Bool (p it)) [
  | inl passes ↦ elim (or_cases (q it) (list_any q (filter p us)) (sym (ap (list_any q) (cond-true (p it) (it ∷ filter p us) (filter p us) passes)) ∙ h)) [
    | inl this ↦ or_left (q it) (list_any q us) this
    | inr later ↦ or_right (q it) (list_any q us) (kept_within p us q later)
  ]
  | inr fails ↦ or_right (q it) (list_any q us) (kept_within p us q (sym (ap (list_any q) (cond-false (p it) (it ∷ filter p us) (filter p us) fails)) ∙ h))
]

within_then_push : (next : Request) (us vs : List Request) → IsWithin us vs → IsWithin us (vs ++ next ∷ [])
within_then_push next us vs within p h = within_more vs (next ∷ []) p (within p h)

kept_waits_within : (p : Request → Bool) (a b : ℕ) (us vs waits : List Request) → IsWithin us vs → among b (waited_for a us (filter p waits)) ≡ true → among b (waited_for a vs waits) ≡ true
kept_waits_within p a b us vs [] within h = h
kept_waits_within p a b us vs (it ∷ rest) within h =
    let own = λ (before : List Request). (it.owner == a) && list_any (λ other. (other.owner == b) && are_in_conflict other it) before in
    let rest_of = λ (before : List Request). among b (waited_for a (before ++ it ∷ []) rest) in
    among-waited_for a b vs it rest ∙ elim (cases_Bool (p it)) [
      | inl passes ↦
          let kept : among b (waited_for a us (it ∷ filter p rest)) ≡ true = sym (ap (λ l. among b (waited_for a us l)) (cond-true (p it) (it ∷ filter p rest) (filter p rest) passes)) ∙ h in
          elim (or_cases (own us) (among b (waited_for a (us ++ it ∷ []) (filter p rest))) (sym (among-waited_for a b us it (filter p rest)) ∙ kept)) [
            | inl here ↦
                let parts = and_parts (it.owner == a) (list_any (λ other. (other.owner == b) && are_in_conflict other it) us) here in
                or_left (own vs) (rest_of vs) (and_from (it.owner == a) (list_any (λ other. (other.owner == b) && are_in_conflict other it) vs)
                parts.0 (within (λ other. (other.owner == b) && are_in_conflict other it) parts.1))
            | inr later ↦ or_right (own vs) (rest_of vs) (kept_waits_within p a b (us ++ it ∷ []) (vs ++ it ∷ []) rest (within_push it us vs within) later)
          ]
      | inr fails ↦
          let kept : among b (waited_for a us (filter p rest)) ≡ true = sym (ap (λ l. among b (waited_for a us l)) (cond-false (p it) (it ∷ filter p rest) (filter p rest) fails)) ∙ h in
          or_right (own vs) (rest_of vs) (kept_waits_within p a b us (vs ++ it ∷ []) rest (within_then_push it us vs within) kept)
    ]

kept_among : (p : Request → Bool) (a : ℕ) (waits : List Request) → among a (owners (filter p waits)) ≡ true → among a (owners waits) ≡ true
kept_among p a [] h = h
kept_among p a (it ∷ rest) h = elim (cases_Bool (p it)) [
  | inl passes ↦ elim (or_cases (it.owner == a) (among a (owners (filter p rest))) (sym (ap (λ l. among a (owners l)) (cond-true (p it) (it ∷ filter p rest) (filter p rest) passes)) ∙ h)) [
    | inl this ↦ or_left (it.owner == a) (among a (owners rest)) this
    | inr later ↦ or_right (it.owner == a) (among a (owners rest)) (kept_among p a rest later)
  ]
  | inr fails ↦ or_right (it.owner == a) (among a (owners rest)) (kept_among p a rest (sym (ap (λ l. among a (owners l)) (cond-false (p it) (it ∷ filter p rest) (filter p rest) fails)) ∙ h))
]

kept_once : (p : Request → Bool) (waits : List Request) → AreDistinct (owners waits) → AreDistinct (owners (filter p waits))
kept_once p [] d = tt
kept_once p (it ∷ rest) d = elim (cases_Bool (p it)) [
  | inl passes ↦ subst (λ l. AreDistinct (owners l)) (sym (cond-true (p it) (it ∷ filter p rest) (filter p rest) passes))
      (false_from_ne_true (among it.owner (owners (filter p rest))) (λ h. both_ways (among it.owner (owners rest)) d.0 (kept_among p it.owner rest h)), kept_once p rest d.1)
  | inr fails ↦ subst (λ l. AreDistinct (owners l)) (sym (cond-false (p it) (it ∷ filter p rest) (filter p rest) fails)) (kept_once p rest d.1)
]

pub kept_fits : (p : Request → Bool) (waits : List Request) → FitNumbers waits → FitNumbers (filter p waits)
kept_fits p [] fit = tt
kept_fits p (it ∷ rest) fit = elim (cases_Bool (p it)) [
  | inl passes ↦ subst FitNumbers (sym (cond-true (p it) (it ∷ filter p rest) (filter p rest) passes)) (fit.0, kept_fits p rest fit.1)
  | inr fails ↦ subst FitNumbers (sym (cond-false (p it) (it ∷ filter p rest) (filter p rest) fails)) (kept_fits p rest fit.1)
]

-- A release keeps what holds.
pub sound_released : (a : ℕ) (locks : Locks) → IsSound locks → IsSound (released a locks)
sound_released a locks sound =
    let p = λ (it : Request). not (it.owner == a) in
    record {
      no_cycle = no_cycle_within (waits_for (released a locks)) (waits_for locks)
          (λ x y h. kept_waits_within p x y (others a locks.granted) locks.granted locks.waits (kept_within p locks.granted) (settled_within x y (others a locks.granted) [] (others a locks.waits) h))
          sound.no_cycle;
      once = settled_once (others a locks.granted) [] (others a locks.waits) (kept_once p locks.waits sound.once);
      blocked = settled_blocked (others a locks.granted) [] (others a locks.waits) tt;
    }

-- an owner has none among those of others
not_among_others : (a : ℕ) (waits : List Request) → among a (owners (others a waits)) ≡ false
not_among_others a [] = refl
not_among_others a (it ∷ rest) = elim (cases_Bool (it.owner == a)) [
  | inl mine ↦ ap (λ l. among a (owners l)) (cond-false (not (it.owner == a)) (it ∷ others a rest) (others a rest) (ap not mine)) ∙ not_among_others a rest
  | inr other ↦ ap (λ l. among a (owners l)) (cond-true (not (it.owner == a)) (it ∷ others a rest) (others a rest) (ap not other))
      ∙ or_from (it.owner == a) (among a (owners (others a rest))) other (not_among_others a rest)
]

-- The waits of others are fewer than there are numbers of owners.
pub few_waits : (a : ℕ) (waits : List Request) → a < 2 ^ 32 → FitNumbers waits → AreDistinct (owners waits) → length (others a waits) < 2 ^ 32
few_waits a waits fit fits once =
    let p = λ (it : Request). not (it.owner == a) in
    let most = not_more_below (2 ^ 32) (a ∷ owners (others a waits)) (not_among_others a waits, kept_once p waits once)
    (λ b h. elim (or_cases (a == b) (among b (owners (others a waits))) h) [
      | inl same ↦ subst (λ x. x < 2 ^ 32) (eqb-true a b same) fit
      | inr other ↦ fits_among b (others a waits) (kept_fits p waits fits) other
    ]) in
    omega (arith, most, length_owners (others a waits))

-- What a release leaves: the granted locks and the waits, where there were so many waits of others.
pub record IsLeft (a : ℕ) (locks : Locks) (before : ℕ) (granted waits : List Request) : Type 0 where
  pub made : record { granted = granted; waits = waits } ≡ released a locks
  pub fewer : length waits ≤ before
  pub few : before < 2 ^ 32
  pub count : length (others a locks.granted) + (before - length waits) ≡ length granted
  pub sound : IsSound (record { granted = granted; waits = waits })
  pub fits : FitNumbers waits

-- Both kinds of locks of the owner are taken away, and then the waits are settled.
pub left_behind : (a : ℕ) (locks : Locks) (granted waits new_granted new_waits : List Request) → a < 2 ^ 32 → IsSound locks → FitNumbers locks.waits
    → granted ≡ others a locks.granted → waits ≡ others a locks.waits → record { granted = new_granted; waits = new_waits } ≡ settled granted [] waits
    → IsLeft a locks (length waits) new_granted new_waits
left_behind a locks granted waits new_granted new_waits number sound fits is_granted is_waits is_settled =
    let new : Locks = record { granted = new_granted; waits = new_waits } in
    let made : new ≡ released a locks = is_settled ∙ ap (λ (l : List Request). settled l [] waits) is_granted ∙ ap (λ (l : List Request). settled (others a locks.granted) [] l) is_waits in
    let all = ap (λ (l : Locks). length l.granted + length l.waits) made ∙ length_settled (others a locks.granted) [] (others a locks.waits) in
    let more : length (others a locks.granted) ≤ length new_granted =
    subst (λ (l : Locks). length (others a locks.granted) ≤ length l.granted) (sym made) (settled_more (others a locks.granted) [] (others a locks.waits)) in
    record {
      made = made;
      fewer = omega (arith, all, more, ap length is_waits);
      few = omega (arith, few_waits a locks.waits number fits sound.once, ap length is_waits);
      count = omega (arith, all, more, ap length is_waits);
      sound = subst IsSound (sym made) (sound_released a locks sound);
      fits = subst (λ (l : Locks). FitNumbers l.waits) (sym made) (settled_fits (others a locks.granted) [] (others a locks.waits) tt (kept_fits (λ it. not (it.owner == a)) locks.waits fits));
    }
