-- How the owners that reach one are found.
use Rattle.std.proofs.Common.{◌≡◌, ℕ, suc, zero, ◌+◌, ◌<◌, ◌≤◌, List, [], ◌∷◌, ◌++◌, length, take, drop, get_or, set, position, Some, None, Bool, true, false}
use Rattle.std.proofs.Common.{ltb, ◌||◌, ◌&&◌, ◌==◌, refl, sym, ap, subst, ◌∙◌, inl, inr, arith, eqb-true, eq-eqb, ne_eqb, length-take, add-one}
use Rattle.std.specs.List.{list_any, position_or_len}
use Rattle.std.proofs.lemmas.Bool.{ltb-false, cases_Bool, or_cases, or_parts, or_from, or_left, or_right, both_ways, and_parts, and_left, cond-true}
use Rattle.std.proofs.lemmas.List.{map_more, take_more, take-take, take-append-le, drop-append-le, length-take-le}
use Rattle.std.proofs.lemmas.List.Folds.{list_any-append, list_any_none}
use Rattle.std.proofs.lemmas.List.Quantifiers.{position-Some}
use Rattle.std.proofs.lemmas.List.Sums.{fails_before_first}
use Rattle.row_locks.specs.declared.lock.Request.{Request}
use Rattle.row_locks.specs.Modes.{are_in_conflict}
use Rattle.row_locks.specs.Queues.{owners, among, waits_for}
use Rattle.row_locks.specs.Cycles.{AreDistinct}
use Rattle.row_locks.specs.Inside.{is_behind, is_behind_any, flags, AreMarks, Adds}
use Rattle.row_locks.proofs.ListLemmas.{no, other_turned, among-append, distinct_push}
use Rattle.row_locks.proofs.QueueLemmas.{among_at, among-waited_for}

-- where a list of tests is extended by one that adds nothing
or_nothing : (x y : Bool) → (y ≡ true → x ≡ true) → (x || y) ≡ x
or_nothing true y h = refl
or_nothing false true h = sym (h refl)
or_nothing false false h = refl

or_assoc : (x y z : Bool) → ((x || y) || z) ≡ (x || (y || z))
or_assoc true y z = refl
or_assoc false y z = refl

-- Adding what is the same.
pub adds_same : (P Q : ℕ → Bool) (old new : List ℕ) → ((a : ℕ) → P a ≡ Q a) → Adds P old new → Adds Q old new
adds_same P Q old new same adds = record { front = adds.front; exact = λ a. adds.exact a ∙ ap (λ x. among a old || x) (same a) }

pub front_le : (old new : List ℕ) → take (length old) new ≡ old → length old ≤ length new
front_le old new front = omega (arith, ap length front, length-take (length old) new)

-- Adding, and adding more.
pub adds_then : (P Q : ℕ → Bool) (a b c : List ℕ) → Adds P a b → Adds Q b c → Adds (λ x. P x || Q x) a c
adds_then P Q a b c first second = record {
  front = sym (take-take (length a) (length b) c (front_le a b first.front)) ∙ ap (take (length a)) second.front ∙ first.front;
  exact = λ x. second.exact x ∙ ap (λ t. t || Q x) (first.exact x) ∙ or_assoc (among x a) (P x) (Q x);
}

pub is_behind-push : (other it : Request) (waits : List Request) (a : ℕ) → is_behind other (waits ++ it ∷ []) a ≡ (is_behind other waits a || ((it.owner == a) && are_in_conflict other it))
is_behind-push other it waits a =
    list_any-append (λ w. (w.owner == a) && are_in_conflict other w) waits (it ∷ [])
    ∙ ap (λ x. is_behind other waits a || x) (or_nothing ((it.owner == a) && are_in_conflict other it) false (λ h. no h))

-- the waits from a place to another, and one more
pub span_more : (from k : ℕ) (waits : List Request) (d : Request) → from ≤ k → k < length waits → drop from (take (k + 1) waits) ≡ drop from (take k waits) ++ get_or waits k d ∷ []
span_more from k waits d le lt =
    ap (drop from) (take_more waits k d lt) ∙ drop-append-le from (take k waits) (get_or waits k d ∷ []) (omega (arith, length-take-le k waits (omega arith), le))

-- what holds of the waits from a place to another holds with one more
behind_more : (other : Request) (from k : ℕ) (waits : List Request) (d : Request) (a : ℕ) → from ≤ k → k < length waits
    → is_behind other (drop from (take (k + 1) waits)) a ≡ (is_behind other (drop from (take k waits)) a || (((get_or waits k d).owner == a) && are_in_conflict other (get_or waits k d)))
behind_more other from k waits d a le lt =
    ap (λ (l : List Request). is_behind other l a) (span_more from k waits d le lt) ∙ is_behind-push other (get_or waits k d) (drop from (take k waits)) a

-- one wait more that is in conflict, and is marked now
pub adds_hit : (other : Request) (from k : ℕ) (waits : List Request) (d : Request) (old new : List ℕ) → from ≤ k → k < length waits → are_in_conflict other (get_or waits k d) ≡ true
    → Adds (is_behind other (drop from (take k waits))) old new → Adds (is_behind other (drop from (take (k + 1) waits))) old (new ++ (get_or waits k d).owner ∷ [])
adds_hit other from k waits d old new le lt hit adds =
    let o = (get_or waits k d).owner in
    record {
      front = take-append-le (length old) new (o ∷ []) (front_le old new adds.front) ∙ adds.front;
      exact = λ a.
          among-append a new (o ∷ [])
          ∙ ap (λ x. x || ((o == a) || false)) (adds.exact a)
          ∙ or_assoc (among a old) (is_behind other (drop from (take k waits)) a) ((o == a) || false)
          ∙ ap (λ x. among a old || x) (
          ap (λ x. is_behind other (drop from (take k waits)) a || x) (or_and (o == a) (are_in_conflict other (get_or waits k d)) hit)
          ∙ sym (behind_more other from k waits d a le lt));
    }
  where
    or_and : (x y : Bool) → y ≡ true → (x || false) ≡ (x && y)
    or_and true y h = sym h
    or_and false y h = refl

-- one wait more that adds nothing: it is not in conflict, or its owner is marked
pub adds_miss : (other : Request) (from k : ℕ) (waits : List Request) (d : Request) (old new : List ℕ) → from ≤ k → k < length waits
    → (are_in_conflict other (get_or waits k d) ≡ true → among (get_or waits k d).owner new ≡ true)
    → Adds (is_behind other (drop from (take k waits))) old new → Adds (is_behind other (drop from (take (k + 1) waits))) old new
adds_miss other from k waits d old new le lt marked adds =
    let it = get_or waits k d in
    record {
      front = adds.front;
      exact = λ a.
          let more = (it.owner == a) && are_in_conflict other it in
          sym (or_nothing (among a new) more (λ h.
          let parts = and_parts (it.owner == a) (are_in_conflict other it) h in
          subst (λ x. among x new ≡ true) (eqb-true it.owner a parts.0) (marked parts.1)))
          ∙ ap (λ x. x || more) (adds.exact a)
          ∙ or_assoc (among a old) (is_behind other (drop from (take k waits)) a) more
          ∙ ap (λ x. among a old || x) (sym (behind_more other from k waits d a le lt));
    }

-- a mark that is not of these owners
flags_other : (reached : List ℕ) (o : ℕ) (waits : List Request) → among o (owners waits) ≡ false → flags (reached ++ o ∷ []) waits ≡ flags reached waits
flags_other reached o [] h = refl
flags_other reached o (it ∷ rest) h =
    let parts = or_parts (it.owner == o) (among o (owners rest)) h in
    ap (λ b. b ∷ flags (reached ++ o ∷ []) rest)
    (among-append it.owner reached (o ∷ []) ∙ or_nothing (among it.owner reached) ((o == it.owner) || false) (λ m. elim (or_cases (o == it.owner) false m) [
      | inl same ↦ absurd (both_ways (o == it.owner) (other_turned it.owner o parts.0) same)
      | inr none ↦ no none
    ]))
    ∙ ap (λ l. among it.owner reached ∷ l) (flags_other reached o rest parts.1)

-- the mark of one wait
pub flags-push : (reached : List ℕ) (waits : List Request) (k : ℕ) (d : Request) → AreDistinct (owners waits) → k < length waits
    → set (flags reached waits) k true ≡ flags (reached ++ (get_or waits k d).owner ∷ []) waits
flags-push reached [] k d once lt = absurd (omega (arith, lt))
flags-push reached (it ∷ rest) zero d once lt =
    ap (λ b. b ∷ flags reached rest) (sym (among-append it.owner reached (it.owner ∷ [])
    ∙ or_right (among it.owner reached) ((it.owner == it.owner) || false) (or_left (it.owner == it.owner) false (eq-eqb it.owner it.owner refl))))
    ∙ ap (λ l. among it.owner (reached ++ it.owner ∷ []) ∷ l) (sym (flags_other reached it.owner rest once.0))
flags-push reached (it ∷ rest) (suc k) d once lt =
    let o = (get_or rest k d).owner in
    let lt' : k < length rest = omega (arith, lt) in
    ap (λ l. among it.owner reached ∷ l) (flags-push reached rest k d once.1 lt')
    ∙ ap (λ b. b ∷ flags (reached ++ o ∷ []) rest) (sym (among-append it.owner reached (o ∷ [])
    ∙ or_nothing (among it.owner reached) ((o == it.owner) || false) (λ m. elim (or_cases (o == it.owner) false m) [
      | inl same ↦ absurd (both_ways (among it.owner (owners rest)) once.0 (subst (λ x. among x (owners rest) ≡ true) (eqb-true o it.owner same) (among_at k rest d lt')))
      | inr none ↦ no none
    ])))

pub marks_hit : (waits : List Request) (reached : List ℕ) (waiting : List Bool) (k : ℕ) (d : Request) → AreDistinct (owners waits) → k < length waits
    → among (get_or waits k d).owner reached ≡ false
    → AreMarks waits reached waiting → AreMarks waits (reached ++ (get_or waits k d).owner ∷ []) (set waiting k true)
marks_hit waits reached waiting k d once lt free marks = record {
  distinct = distinct_push reached (get_or waits k d).owner marks.distinct free;
  told = ap (λ l. set l k true) marks.told ∙ flags-push reached waits k d once lt;
}

-- one lock more of an owner, or of another
pub behind_any_more : (b : ℕ) (granted waits : List Request) (k : ℕ) (d : Request) (a : ℕ) → k < length granted
    → is_behind_any b (take (k + 1) granted) waits a ≡ (is_behind_any b (take k granted) waits a || (((get_or granted k d).owner == b) && is_behind (get_or granted k d) waits a))
behind_any_more b granted waits k d a lt =
    ap (list_any (λ lock. (lock.owner == b) && is_behind lock waits a)) (take_more granted k d lt)
    ∙ list_any-append (λ lock. (lock.owner == b) && is_behind lock waits a) (take k granted) (get_or granted k d ∷ [])
    ∙ ap (λ x. is_behind_any b (take k granted) waits a || x) (or_nothing (((get_or granted k d).owner == b) && is_behind (get_or granted k d) waits a) false (λ h. no h))

-- an owner waits for another by one of its waits
abbrev pub by_waits : List Request → ℕ → ℕ → Bool
by_waits [] a b = false
by_waits (it ∷ rest) a b = ((it.owner == b) && is_behind it rest a) || by_waits rest a b

-- One wait more behind locks.
behind_any-cons : (b : ℕ) (granted : List Request) (it : Request) (rest : List Request) (a : ℕ)
    → is_behind_any b granted (it ∷ rest) a ≡ (((it.owner == a) && list_any (λ other. (other.owner == b) && are_in_conflict other it) granted) || is_behind_any b granted rest a)
behind_any-cons b [] it rest a = sym (or_nothing ((it.owner == a) && false) false (λ h. no h) ∙ none (it.owner == a))
  where
    none : (x : Bool) → (x && false) ≡ false
    none true = refl
    none false = refl
behind_any-cons b (lock ∷ granted) it rest a =
    ap (λ x. ((lock.owner == b) && (((it.owner == a) && are_in_conflict lock it) || is_behind lock rest a)) || x) (behind_any-cons b granted it rest a)
    ∙ shuffle (lock.owner == b) (it.owner == a) (are_in_conflict lock it) (is_behind lock rest a)
    (list_any (λ other. (other.owner == b) && are_in_conflict other it) granted) (is_behind_any b granted rest a)
  where
    swap : (c r s t : Bool) → ((c || r) || (s || t)) ≡ ((c || s) || (r || t))
    swap true r s t = refl
    swap false true true t = refl
    swap false true false t = refl
    swap false false s t = refl

    shuffle : (x y c r s t : Bool) → ((x && ((y && c) || r)) || ((y && s) || t)) ≡ ((y && ((x && c) || s)) || ((x && r) || t))
    shuffle true true c r s t = swap c r s t
    shuffle true false c r s t = refl
    shuffle false true c r s t = refl
    shuffle false false c r s t = refl

-- For whom owners wait, asked of each request that others wait for.
pub waits_for-behind : (granted waits : List Request) (a b : ℕ) → waits_for (record { granted = granted; waits = waits }) a b ≡ (is_behind_any b granted waits a || by_waits waits a b)
waits_for-behind granted [] a b = sym (nothing granted)
  where
    nothing : (granted : List Request) → (is_behind_any b granted [] a || false) ≡ false
    nothing [] = refl
    nothing (lock ∷ rest) =
        let here = or_from ((lock.owner == b) && false) (is_behind_any b rest [] a) (none (lock.owner == b)) (or_parts (is_behind_any b rest [] a) false (nothing rest)).0 in
        or_from (((lock.owner == b) && false) || is_behind_any b rest [] a) false here refl
      where
        none : (x : Bool) → (x && false) ≡ false
        none true = refl
        none false = refl
waits_for-behind granted (it ∷ rest) a b =
    let own = (it.owner == a) && list_any (λ other. (other.owner == b) && are_in_conflict other it) granted in
    among-waited_for a b granted it rest
    ∙ ap (λ x. own || x) (waits_for-behind (granted ++ it ∷ []) rest a b
    ∙ ap (λ x. x || by_waits rest a b) (list_any-append (λ lock. (lock.owner == b) && is_behind lock rest a) granted (it ∷ [])))
    ∙ regroup own (is_behind_any b granted rest a) ((it.owner == b) && is_behind it rest a) (by_waits rest a b)
    ∙ ap (λ x. x || (((it.owner == b) && is_behind it rest a) || by_waits rest a b)) (sym (behind_any-cons b granted it rest a))
  where
    regroup : (x y z t : Bool) → (x || ((y || (z || false)) || t)) ≡ ((x || y) || (z || t))
    regroup true y z t = refl
    regroup false true z t = refl
    regroup false false true t = refl
    regroup false false false t = refl

-- Who has no wait, nobody waits for by a wait.
pub by_waits_none : (waits : List Request) (a b : ℕ) → among b (owners waits) ≡ false → by_waits waits a b ≡ false
by_waits_none [] a b h = refl
by_waits_none (it ∷ rest) a b h =
    let parts = or_parts (it.owner == b) (among b (owners rest)) h in
    or_from ((it.owner == b) && is_behind it rest a) (by_waits rest a b) (and_left (it.owner == b) (is_behind it rest a) parts.0) (by_waits_none rest a b parts.1)

-- Whoever waits for one by a wait waits behind its one wait.
pub by_waits_at : (waits : List Request) (a b k : ℕ) (d : Request) → AreDistinct (owners waits) → k < length waits → (get_or waits k d).owner ≡ b
    → by_waits waits a b ≡ is_behind (get_or waits k d) (drop (k + 1) waits) a
by_waits_at [] a b k d once lt mine = absurd (omega (arith, lt))
by_waits_at (it ∷ rest) a b zero d once lt mine =
    let none : among b (owners rest) ≡ false = subst (λ x. among x (owners rest) ≡ false) mine once.0 in
    ap (λ x. (x && is_behind it rest a) || by_waits rest a b) (eq-eqb it.owner b mine)
    ∙ ap (λ x. is_behind it rest a || x) (by_waits_none rest a b none)
    ∙ or_nothing (is_behind it rest a) false (λ h. no h)
by_waits_at (it ∷ rest) a b (suc k) d once lt mine =
    let lt' : k < length rest = omega (arith, lt) in
    let other : (it.owner == b) ≡ false = ne_eqb it.owner b (λ e.
    both_ways (among it.owner (owners rest)) once.0 (subst (λ x. among x (owners rest) ≡ true) (mine ∙ sym e) (among_at k rest d lt'))) in
    ap (λ x. (x && is_behind it rest a) || by_waits rest a b) other ∙ by_waits_at rest a b k d once.1 lt' mine
    ∙ ap (λ (l : List Request). is_behind (get_or rest k d) l a) (dropped k it rest)
  where
    dropped : (k : ℕ) (it : Request) (rest : List Request) → drop (k + 1) rest ≡ drop (suc k + 1) (it ∷ rest)
    dropped k it rest = rw (add-one, add-one) refl

-- What holds behind a number of waits from a place on, and behind one more: of a wait that is marked now.
pub step_hit : (other : Request) (from k : ℕ) (waits : List Request) (x : Request) (old reached new : List ℕ) (waiting told : List Bool) → AreDistinct (owners waits) → from ≤ k → k < length waits
    → x ≡ get_or waits k x → among (get_or waits k x).owner reached ≡ false → are_in_conflict other x ≡ true → new ≡ reached ++ x.owner ∷ [] → told ≡ set waiting k true
    → AreMarks waits reached waiting → Adds (is_behind other (drop from (take k waits))) old reached
    → AreMarks waits new told × Adds (is_behind other (drop from (take (k + 1) waits))) old new
step_hit other from k waits x old reached new waiting told once le lt at free hit is_new is_told marks adds =
    let o = ap (λ (r : Request). reached ++ r.owner ∷ []) at in
    let here : are_in_conflict other (get_or waits k x) ≡ true = ap (are_in_conflict other) (sym at) ∙ hit in (
      subst (λ l. AreMarks waits l told) (sym (is_new ∙ o)) (subst (AreMarks waits (reached ++ (get_or waits k x).owner ∷ [])) (sym is_told) (marks_hit waits reached waiting k x once lt free marks)),
      subst (Adds (is_behind other (drop from (take (k + 1) waits))) old) (sym (is_new ∙ o)) (adds_hit other from k waits x old reached le lt here adds),
    )

-- where a test finds nothing, none passes
none_found : (p : Request → Bool) (waits : List Request) → position p waits ≡ None → list_any p waits ≡ false
none_found p waits h =
    let past : length waits ≤ position_or_len p waits = elim (cases_Bool (ltb (position_or_len p waits) (length waits))) [
      | inl within ↦ absurd (some_none (sym (cond-true (ltb (position_or_len p waits) (length waits)) (Some (position_or_len p waits)) None within) ∙ h))
      | inr beyond ↦ ltb-false (position_or_len p waits) (length waits) beyond
    ] in
    list_any_none p waits (λ k d lt. fails_before_first p waits k d (omega (arith, lt, past)))
  where
    some_none : {n : ℕ} → Some n ≡ None → ⊥
    some_none q = cc

-- where no wait of an owner is found, it has none
pub no_place : (b : ℕ) (waits : List Request) → position (λ (it : Request). it.owner == b) waits ≡ None → among b (owners waits) ≡ false
no_place b waits none = sym (any_owner b waits) ∙ none_found (λ (it : Request). it.owner == b) waits none
  where
    any_owner : (b : ℕ) (waits : List Request) → list_any (λ (it : Request). it.owner == b) waits ≡ among b (owners waits)
    any_owner b [] = refl
    any_owner b (it ∷ rest) = ap (λ x. (it.owner == b) || x) (any_owner b rest)

-- who waits for an owner that has a wait
pub adds_waits : (b : ℕ) (granted waits : List Request) (k : ℕ) (x : Request) (old new newer : List ℕ) → AreDistinct (owners waits)
    → position (λ (it : Request). it.owner == b) waits ≡ Some k → x ≡ get_or waits k x
    → Adds (is_behind_any b granted waits) old new → Adds (is_behind x (drop (k + 1) waits)) new newer → Adds (λ a. waits_for (record { granted = granted; waits = waits }) a b) old newer
adds_waits b granted waits k x old new newer once found at adds more =
    let here = position-Some (λ (it : Request). it.owner == b) waits k x found in
    let mine : (get_or waits k x).owner ≡ b = eqb-true (get_or waits k x).owner b here.1 in
    adds_same (λ a. is_behind_any b granted waits a || is_behind x (drop (k + 1) waits) a) (λ a. waits_for (record { granted = granted; waits = waits }) a b) old newer
    (λ a.
    ap (λ y. is_behind_any b granted waits a || y) (ap (λ (r : Request). is_behind r (drop (k + 1) waits) a) at ∙ sym (by_waits_at waits a b k x once here.0 mine))
    ∙ sym (waits_for-behind granted waits a b))
    (adds_then (is_behind_any b granted waits) (is_behind x (drop (k + 1) waits)) old new newer adds more)

-- who waits for an owner that has no wait
pub adds_no_waits : (b : ℕ) (granted waits : List Request) (old new : List ℕ) → position (λ (it : Request). it.owner == b) waits ≡ None
    → Adds (is_behind_any b granted waits) old new → Adds (λ a. waits_for (record { granted = granted; waits = waits }) a b) old new
adds_no_waits b granted waits old new none adds =
    let free = no_place b waits none in
    adds_same (is_behind_any b granted waits) (λ a. waits_for (record { granted = granted; waits = waits }) a b) old new
    (λ a.
    sym (or_nothing (is_behind_any b granted waits a) (by_waits waits a b) (λ h. no (sym (by_waits_none waits a b free) ∙ h)))
    ∙ sym (waits_for-behind granted waits a b)) adds

-- one mark more
pub flags_more : (reached : List ℕ) (requests : List Request) (k : ℕ) (x : Request) (found new : List Bool) (b : Bool) → k < length requests → x ≡ get_or requests k x
    → found ≡ flags reached (take k requests) → b ≡ among x.owner reached → new ≡ found ++ b ∷ [] → new ≡ flags reached (take (k + 1) requests)
flags_more reached requests k x found new b lt at so_far is added =
    added ∙ ap (λ l. l ++ b ∷ []) so_far ∙ ap (λ y. flags reached (take k requests) ++ y ∷ []) (is ∙ ap (λ (r : Request). among r.owner reached) at)
    ∙ sym (map_more (λ (r : Request). among r.owner reached) requests k x lt)
