-- What is found in lists of requests.
use Rattle.std.proofs.Common.{◌≡◌, ℕ, suc, zero, ◌+◌, ◌<◌, List, [], ◌∷◌, length, drop, get_or, filter, Option, Some, Bool, true, false, refl, sym, ap, ◌∙◌, inl, inr, arith}
use Rattle.std.proofs.lemmas.Bool.{cases_Bool, cond-true, cond-false}
use Rattle.std.proofs.lemmas.List.{drop_more}
use Rattle.row_locks.specs.declared.lock.Request.{Request}
use Rattle.row_locks.specs.Modes.{are_in_conflict}
use Rattle.row_locks.specs.Queues.{owners, among, in_way}
use Rattle.row_locks.specs.Inside.{flags, least_of}

-- who is in the way of a request, of those from a place on
pub in_way_hit : (before : List Request) (it : Request) (k : ℕ) (d : Request) → k < length before → are_in_conflict (get_or before k d) it ≡ true
    → in_way (drop k before) it ≡ (get_or before k d).owner ∷ in_way (drop (k + 1) before) it
in_way_hit before it k d lt hit =
    let other = get_or before k d in
    ap (λ (l : List Request). in_way l it) (drop_more before k d lt)
    ∙ ap owners (cond-true (are_in_conflict other it) (other ∷ filter (λ o. are_in_conflict o it) (drop (k + 1) before)) (filter (λ o. are_in_conflict o it) (drop (k + 1) before)) hit)

pub in_way_miss : (before : List Request) (it : Request) (k : ℕ) (d : Request) → k < length before → are_in_conflict (get_or before k d) it ≡ false
    → in_way (drop k before) it ≡ in_way (drop (k + 1) before) it
in_way_miss before it k d lt miss =
    let other = get_or before k d in
    ap (λ (l : List Request). in_way l it) (drop_more before k d lt)
    ∙ ap owners (cond-false (are_in_conflict other it) (other ∷ filter (λ o. are_in_conflict o it) (drop (k + 1) before)) (filter (λ o. are_in_conflict o it) (drop (k + 1) before)) miss)

-- the mark of a request
pub marked_at : (reached : List ℕ) (before : List Request) (k : ℕ) (d : Request) (b : Bool) → k < length before → get_or (flags reached before) k b ≡ among (get_or before k d).owner reached
marked_at reached [] k d b lt = absurd (omega (arith, lt))
marked_at reached (it ∷ before) zero d b lt = refl
marked_at reached (it ∷ before) (suc k) d b lt = marked_at reached before k d b (omega (arith, lt))

-- one step of the search for the least: a request that is in the way and marked, or one that is not
pub least_hit : (reached : List ℕ) (before : List Request) (it : Request) (k : ℕ) (d : Request) (best : Option ℕ) (next : ℕ) → k < length before
    → among (get_or before k d).owner reached ≡ true → are_in_conflict (get_or before k d) it ≡ true → least_of best ((get_or before k d).owner ∷ []) ≡ Some next
    → least_of (Some next) (filter (λ a. among a reached) (in_way (drop (k + 1) before) it)) ≡ least_of best (filter (λ a. among a reached) (in_way (drop k before) it))
least_hit reached before it k d best next lt marked hit is =
    let a = (get_or before k d).owner in
    let rest = in_way (drop (k + 1) before) it in
    let p = λ (b : ℕ). among b reached in
    sym (ap (λ l. least_of best (filter p l)) (in_way_hit before it k d lt hit)
    ∙ ap (least_of best) (cond-true (p a) (a ∷ filter p rest) (filter p rest) marked)
    ∙ ap (λ o. least_of o (filter p rest)) is)

pub least_miss : (reached : List ℕ) (before : List Request) (it : Request) (k : ℕ) (d : Request) (best : Option ℕ) → k < length before
    → are_in_conflict (get_or before k d) it ≡ false
    → least_of best (filter (λ a. among a reached) (in_way (drop (k + 1) before) it)) ≡ least_of best (filter (λ a. among a reached) (in_way (drop k before) it))
least_miss reached before it k d best lt miss = sym (ap (λ l. least_of best (filter (λ a. among a reached) l)) (in_way_miss before it k d lt miss))

-- one that is not marked does not count, whether it is in the way or not
pub least_unmarked : (reached : List ℕ) (before : List Request) (it : Request) (k : ℕ) (d : Request) (best : Option ℕ) → k < length before
    → among (get_or before k d).owner reached ≡ false
    → least_of best (filter (λ a. among a reached) (in_way (drop (k + 1) before) it)) ≡ least_of best (filter (λ a. among a reached) (in_way (drop k before) it))
least_unmarked reached before it k d best lt unmarked = elim (cases_Bool (are_in_conflict (get_or before k d) it)) [
  | inl hit ↦
      let a = (get_or before k d).owner in
      let rest = in_way (drop (k + 1) before) it in
      let p = λ (b : ℕ). among b reached in
      sym (ap (λ l. least_of best (filter p l)) (in_way_hit before it k d lt hit)
      ∙ ap (least_of best) (cond-false (p a) (a ∷ filter p rest) (filter p rest) unmarked))
  | inr miss ↦ least_miss reached before it k d best lt miss
]
