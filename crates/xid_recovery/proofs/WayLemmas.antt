-- How a gist goes on its way to a log when an xid is decided.
use Rattle.std.proofs.Common.{◌≡◌, ◌⊎◌, inl, inr, ℕ, zero, suc, ◌<◌, ◌≤◌, List, [], ◌∷◌, Option, Some, None, Bool, true, false, cond, refl, sym, ap, subst, ◌∙◌, arith, length, get_or}
use Rattle.std.specs.Prelude.{◌≢◌, ◌==◌, ◌&&◌, not, Contains, All, is_some, nat_lt, slice_get}
use Rattle.std.specs.List.{list_any}
use Rattle.std.specs.BTreeSet.{BTreeSet}
use Rattle.std.proofs.lemmas.Bool.Decides.{eqb_tells}
use Rattle.std.proofs.lemmas.Option.{slice_get_within}
use Rattle.std.proofs.lemmas.List.Elements.{All-filter}
use Rattle.row_format.specs.declared.change.Transaction.{Transaction}
use Rattle.log_tables.specs.declared.gist.Prepared.{Prepared}
use Rattle.log_tables.specs.declared.gist.Gist.{Gist}
use Rattle.log_tables.specs.Changes.{all_apply}
use Rattle.log_tables.specs.Gists.{prepared_with, is_prepared, without_xid, after_commit, after_rollback}
use Rattle.log_tables.proofs.PartLemmas.{cond_true, cond_false}
use Rattle.recovery_rules.specs.Places.{IsDistinct, IsNew, share_at}
use Rattle.recovery_rules.specs.Trails.{Trails, NonePrepared}
use Rattle.recovery_rules.specs.Recovery.{Suits}
use Rattle.recovery_rules.proofs.TrailsLemmas.{left_over, Trails-after_commit, Trails-after_rollback, next-first, next-applies}
use Rattle.engine_api.specs.States.{Kind, EngineState, begun_state, resolved, resolved_state, dropped_state}
use Rattle.engine_api.specs.Live.{allows, IsLeft, has_under}
use Rattle.xid_recovery.specs.Pairs.{has}
use Rattle.xid_recovery.specs.Running.{Fits, Aims, IsEnd, IsOnWay, HasPrepared, IsWithout}
use Rattle.xid_recovery.proofs.XidLemmas.{is_prepared-without}

-- what is found

first_is : {X : Type 0} (y : X) (ys : List X) (x : X) → y ≡ x → Contains (y ∷ ys) x
first_is y ys x q = (0, omega arith, q)

later_is : {X : Type 0} (y : X) (ys : List X) (x : X) → Contains ys x → Contains (y ∷ ys) x
later_is y ys x h = let lt = h.1 in (suc h.0, omega (arith, lt), h.2)

uncons : {X : Type 0} (y : X) (ys : List X) (x : X) → Contains (y ∷ ys) x → (y ≡ x) ⊎ Contains ys x
uncons y ys x (zero, lt, is) = inl is
uncons y ys x (suc k, lt, is) = inr (k, omega (arith, lt), is)

same_some : {X : Type 0} {a b : X} → Some a ≡ Some b → a ≡ b
same_some q = cc

none_some : {X : Type 0} {a : X} → None ≡ Some a → ⊥
none_some q = cc

true_false : true ≡ false → ⊥
true_false q = cc

-- what is found under an xid is prepared, and has it
pub found_is : (xid : ℕ) (ps : List Prepared) (p : Prepared) → prepared_with xid ps ≡ Some p → Contains ps p × (p.xid ≡ xid)
found_is xid [] p e = absurd (none_some e)
found_is xid (q ∷ ps) p e = elim (eqb_tells q.xid xid) [
  | inl same ↦
      let it : q ≡ p = same_some (sym (cond_true (q.xid == xid) (Some q) (prepared_with xid ps) same.0) ∙ e) in
      (first_is q ps p it, sym (ap (λ (r : Prepared). r.xid) it) ∙ same.1)
  | inr other ↦
      let rest = found_is xid ps p (sym (cond_false (q.xid == xid) (Some q) (prepared_with xid ps) other.0) ∙ e) in
      (later_is q ps p rest.0, rest.1)
]

-- where nothing is found, nothing is prepared under the xid
pub not_found : (xid : ℕ) (ps : List Prepared) (p : Prepared) → prepared_with xid ps ≡ None → Contains ps p → p.xid ≢ xid
not_found xid [] p e h = let lt = h.1 in absurd (omega (arith, lt))
not_found xid (q ∷ ps) p e h = elim (eqb_tells q.xid xid) [
  | inl same ↦ absurd (none_some (sym e ∙ cond_true (q.xid == xid) (Some q) (prepared_with xid ps) same.0))
  | inr other ↦ elim (uncons q ps p h) [
    | inl here ↦ λ s. other.1 (ap (λ (r : Prepared). r.xid) here ∙ s)
    | inr later ↦ not_found xid ps p (sym (cond_false (q.xid == xid) (Some q) (prepared_with xid ps) other.0) ∙ e) later
  ]
]

-- what is prepared under an xid is found
some_found : (xid : ℕ) (ps : List Prepared) → is_prepared xid ps ≡ true → (p : Prepared) × (prepared_with xid ps ≡ Some p)
some_found xid ps h = of (prepared_with xid ps) refl h
  where
    of : (o : Option Prepared) → prepared_with xid ps ≡ o → is_some o ≡ true → (p : Prepared) × (prepared_with xid ps ≡ Some p)
    of None e q = absurd (let z = q in cc)
    of (Some p) e q = (p, e)

pub none_of : (xid : ℕ) (ps : List Prepared) → is_prepared xid ps ≡ false → prepared_with xid ps ≡ None
none_of xid ps h = of (prepared_with xid ps) refl h
  where
    of : (o : Option Prepared) → prepared_with xid ps ≡ o → is_some o ≡ false → prepared_with xid ps ≡ None
    of None e q = e
    of (Some p) e q = absurd (let z = q in cc)

-- a decided xid

resolved_is : (o : Option Prepared) (number : ℕ) (gist : Gist) (x xid : ℕ) → ((p : Prepared) → o ≡ Some p → p.xid ≡ xid) → (o ≡ None → is_prepared xid gist.prepared ≡ false)
    → is_prepared x (resolved o number gist).prepared ≡ (not (x == xid) && is_prepared x gist.prepared)
resolved_is None number gist x xid its none = elim (eqb_tells x xid) [
  | inl same ↦ ap (λ y. is_prepared y gist.prepared) same.1 ∙ none refl ∙ ap (λ b. not b && is_prepared x gist.prepared) (sym same.0)
  | inr other ↦ ap (λ b. not b && is_prepared x gist.prepared) (sym other.0)
]
resolved_is (Some p) number gist x xid its none =
    ap (is_prepared x) (both (nat_lt gist.last number && all_apply p.changes gist.tables)) ∙ ap (λ y. is_prepared x (without_xid y gist.prepared)) (its p refl)
    ∙ is_prepared-without x xid gist.prepared
  where
    both : (b : Bool) → (cond b (after_commit p number gist) (after_rollback p.xid gist)).prepared ≡ without_xid p.xid gist.prepared
    both true = refl
    both false = refl

-- After a commit by xid the xids that are prepared are the same, but for it.
pub is_prepared-resolved : (xid number : ℕ) (gist : Gist) (x : ℕ) → is_prepared x (resolved (prepared_with xid gist.prepared) number gist).prepared ≡ (not (x == xid) && is_prepared x gist.prepared)
is_prepared-resolved xid number gist x = resolved_is (prepared_with xid gist.prepared) number gist x xid (λ p e. (found_is xid gist.prepared p e).1) (λ e. ap is_some e)

-- The xid whose turn it is goes out of the set.
pub HasPrepared-resolved : (left new : BTreeSet ℕ) (xid number : ℕ) (state : EngineState) → HasPrepared left state.gist → IsWithout xid left new → HasPrepared new (resolved_state xid number state).gist
HasPrepared-resolved left new xid number state has without x = without x ∙ ap (λ b. not (x == xid) && b) (has x) ∙ sym (is_prepared-resolved xid number state.gist x)

pub HasPrepared-dropped : (left new : BTreeSet ℕ) (xid : ℕ) (state : EngineState) → HasPrepared left state.gist → IsWithout xid left new → HasPrepared new (dropped_state xid state).gist
HasPrepared-dropped left new xid state has without x = without x ∙ ap (λ b. not (x == xid) && b) (has x) ∙ sym (is_prepared-without x xid state.gist.prepared)

-- an engine that has just begun has left what it has prepared
pub left_of : (xid : ℕ) (state : EngineState) → state ≡ begun_state state.gist → is_prepared xid state.gist.prepared ≡ true → IsLeft xid state
left_of xid state begun is = (is, ap (λ (s : EngineState). list_any (has_under xid) s.pending) begun)

-- the way to a log

-- A transaction of the log has its turn: its share is committed, where it is prepared.
resolve_found : (e : List ℕ) (log : List Transaction) (gist : Gist) (k : ℕ) (it : Transaction) (o : Option Prepared)
    → IsDistinct log → slice_get log k ≡ Some it → Trails e log gist → NonePrepared log gist k
    → prepared_with it.xid gist.prepared ≡ o → Trails e log (resolved o (suc k) gist) × NonePrepared log (resolved o (suc k) gist) (suc k)
resolve_found e log gist k it None distinct at trails none found = (
  trails,
  record {
    unlike = λ j other p there lt has. elim (eqb_tells j k) [
      | inl same ↦ λ q. not_found it.xid gist.prepared p found has (q ∙ ap (λ (t : Transaction). t.xid) (same_some (sym there ∙ ap (slice_get log) same.1 ∙ at)))
      | inr apart ↦ none.unlike j other p there (below j k lt apart.1) has
    ];
  },
)
  where
    below : (j k : ℕ) → j < suc k → j ≢ k → j < k
    below j k lt apart = omega arith
resolve_found e log gist k it (Some p) distinct at trails none found =
    let here = found_is it.xid gist.prepared p found in
    let owed = trails.no_stray k it p at here.0 here.1 in
    let next = next-first e log gist k it trails at owed.later none in
    let applies = ap (λ (q : Prepared). all_apply q.changes gist.tables) owed.is ∙ next-applies e log gist k it trails next in
    let committed : resolved (Some p) (suc k) gist ≡ after_commit (share_at e log k it) (suc k) gist =
    cond_true (nat_lt gist.last (suc k) && all_apply p.changes gist.tables) (after_commit p (suc k) gist) (after_rollback p.xid gist) (both (nat_lt gist.last (suc k)) (all_apply p.changes gist.tables) (less gist.last k owed.later) applies)
    ∙ ap (λ q. after_commit q (suc k) gist) owed.is in (
      subst (Trails e log) (sym committed) (Trails-after_commit e log gist k it distinct trails next),
      subst (λ g. NonePrepared log g (suc k)) (sym committed) (record {
        unlike = λ j other q there lt has. elim (eqb_tells j k) [
          | inl same ↦ λ s. (left_over it.xid gist.prepared q has).1 (s ∙ ap (λ (t : Transaction). t.xid) (same_some (sym there ∙ ap (slice_get log) same.1 ∙ at)))
          | inr apart ↦ none.unlike j other q there (below j k lt apart.1) (left_over it.xid gist.prepared q has).0
        ];
      }),
    )
  where
    below : (j k : ℕ) → j < suc k → j ≢ k → j < k
    below j k lt apart = omega arith

    both : (a b : Bool) → a ≡ true → b ≡ true → (a && b) ≡ true
    both a b p q = ap (λ x. x && b) p ∙ q

    less : (a b : ℕ) → a ≤ b → nat_lt a (suc b) ≡ true
    less a b h = grind arith

at_place : (log : List Transaction) (k : ℕ) → k < length log → (it : Transaction) × (slice_get log k ≡ Some it)
at_place [] k h = absurd (omega (arith, h))
at_place (t ∷ log) zero h = (t, refl)
at_place (t ∷ log) (suc k) h = at_place log k (omega (arith, h))

read_pair : (pairs : List (ℕ × ℕ)) (k : ℕ) (pair d : ℕ × ℕ) → slice_get pairs k ≡ Some pair → get_or pairs k d ≡ pair
read_pair [] k pair d e = absurd (none_some e)
read_pair (p ∷ pairs) zero pair d e = same_some e
read_pair (p ∷ pairs) (suc k) pair d e = read_pair pairs k pair d e

-- Of what is prepared none comes newly when an xid is decided.
suits_resolved : (P : Prepared → Type 0) (o : Option Prepared) (number : ℕ) (gist : Gist) → All P gist.prepared → All P (resolved o number gist).prepared
suits_resolved P None number gist h = h
suits_resolved P (Some p) number gist h = both (nat_lt gist.last number && all_apply p.changes gist.tables)
  where
    both : (b : Bool) → All P (cond b (after_commit p number gist) (after_rollback p.xid gist)).prepared
    both true = All-filter (λ it. not (it.xid == p.xid)) P gist.prepared h
    both false = All-filter (λ it. not (it.xid == p.xid)) P gist.prepared h

-- The pair at a place has its turn.
pub on_way-resolved : (kind : Kind) (aim : Option (List Transaction)) (pairs : List (ℕ × ℕ)) (k : ℕ) (pair d : ℕ × ℕ) (state : EngineState)
    → Fits aim pairs → k < length pairs → get_or pairs k d ≡ pair → IsOnWay kind aim k state.gist → IsOnWay kind aim (suc k) (resolved_state pair.0 pair.1 state).gist
on_way-resolved kind None pairs k pair d state fits lt is way = tt
on_way-resolved kind (Some log) pairs k pair d state fits lt is way =
    let many = fits.1.as_many in
    let it = at_place log k (omega (arith, lt, many)) in
    let pair_is : (it.0.xid, suc k) ≡ pair = sym (read_pair pairs k (it.0.xid, suc k) d (fits.1.pair k it.0 it.1)) ∙ is in
    let found = prepared_with it.0.xid state.gist.prepared in
    let next = resolve_found kind.name log state.gist k it.0 found fits.0 it.1 way.0.trails way.1 refl in
    let suits = suits_resolved (λ (p : Prepared). Suits kind.name (allows kind.flags) p.changes) found (suc k) state.gist way.0.suits in
    subst (λ (q : ℕ × ℕ). IsOnWay kind (Some log) (suc k) (resolved (prepared_with q.0 state.gist.prepared) q.1 state.gist)) pair_is (record { trails = next.0; suits = suits }, next.1)

-- What is prepared behind the end of the log is rolled back.
pub on_way-dropped : (kind : Kind) (aim : Option (List Transaction)) (place xid : ℕ) (state : EngineState)
    → IsEnd aim place → is_prepared xid state.gist.prepared ≡ true → IsOnWay kind aim place state.gist → IsOnWay kind aim place (dropped_state xid state).gist
on_way-dropped kind None place xid state end is way = tt
on_way-dropped kind (Some log) place xid state end is way = (
  record {
    trails = Trails-after_rollback kind.name log state.gist xid new way.0.trails;
    suits = All-filter (λ it. not (it.xid == xid)) (λ (p : Prepared). Suits kind.name (allows kind.flags) p.changes) state.gist.prepared way.0.suits;
  },
  record { unlike = λ j other p there lt has. way.1.unlike j other p there lt (left_over xid state.gist.prepared p has).0 },
)
  where
    new : IsNew xid log
    new = record {
      unlike = λ j other there same.
          let p = some_found xid state.gist.prepared is in
          let here = found_is xid state.gist.prepared p.0 p.1 in
          let inside : j < length log = slice_get_within log j other there in
          way.1.unlike j other p.0 there (omega (arith, inside, end)) here.0 (here.1 ∙ sym same);
    }

-- on the way is aimed
pub aims_on_way : (kind : Kind) (aim : Option (List Transaction)) (place : ℕ) (gist : Gist) → IsOnWay kind aim place gist → Aims kind aim gist
aims_on_way kind None place gist way = tt
aims_on_way kind (Some log) place gist way = way.0

pub on_way_at_first : (kind : Kind) (aim : Option (List Transaction)) (gist : Gist) → Aims kind aim gist → IsOnWay kind aim 0 gist
on_way_at_first kind None gist aims = tt
on_way_at_first kind (Some log) gist aims = (aims, record { unlike = λ j other p there lt has. absurd (omega (arith, lt)) })

pub is_end : (aim : Option (List Transaction)) (pairs : List (ℕ × ℕ)) (place : ℕ) → Fits aim pairs → length pairs ≤ place → IsEnd aim place
is_end None pairs place fits le = tt
is_end (Some log) pairs place fits le = let many = fits.1.as_many in omega (arith, le, many)
