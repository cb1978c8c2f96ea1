-- What a transaction has pending is found by its place, and taken out there.
use Rattle.std.proofs.Common.{◌≡◌, ℕ, zero, suc, ◌<◌, List, [], ◌∷◌, ◌++◌, length, get_or, set, take, drop, Option, Some, None, Bool, true, false, position, refl, sym, ap, subst, ◌∙◌, arith, inl, inr}
use Rattle.std.specs.Prelude.{cond, not, find, slice_get}
use Rattle.std.specs.List.{remove, position_or_len}
use Rattle.std.proofs.lemmas.List.{get_or-set_same, take-set, drop-set-lt}
use Rattle.std.proofs.lemmas.Bool.{cases_Bool, cond-true, cond-false, eqb-true, ltb-false}
use Rattle.std.proofs.lemmas.List.Folds.{find_at}
use Rattle.std.proofs.lemmas.List.Quantifiers.{position-Some}
use Rattle.std.proofs.lemmas.Option.{cond_some, slice_get_past, slice_get_read}
use Rattle.row_format.specs.declared.change.Change.{Change}
use Rattle.engine_api.specs.States.{Pending, is_by, pending_of, without_txn, changes_of, xid_of, changes_by, xid_by}
use Rattle.live_tables.specs.Opens.{AreDistinct}

some_none : {X : Type 0} (x : X) → Some x ≡ None → ⊥
some_none x e = cc

no_place : {X : Type 0} (b : Bool) (x : X) → None ≡ cond b (Some x) None → b ≡ false
no_place true x e = absurd (some_none x (sym e))
no_place false x e = refl

-- Where no place is found, nothing is found.
pub found_nowhere : {X : Type 0} (p : X → Bool) (xs : List X) → None ≡ position p xs → find p xs ≡ None
found_nowhere p xs is =
    let past = ltb-false (position_or_len p xs) (length xs) (no_place _ (position_or_len p xs) is) in
    find_at p xs ∙ slice_get_past xs (position_or_len p xs) past

-- What stands at the place is found.
pub found_there : {X : Type 0} (p : X → Bool) (xs : List X) (i : ℕ) (x : X) → Some i ≡ position p xs → x ≡ get_or xs i x → find p xs ≡ Some x
found_there p xs i x is at =
    let within = (position-Some p xs i x (sym is)).0 in
    let same = (cond_some _ (position_or_len p xs) i (sym is)).1 in
    find_at p xs ∙ ap (slice_get xs) same ∙ slice_get_read xs (length xs) i x refl within at

-- What was found passes the test.
pub found_passes : {X : Type 0} (p : X → Bool) (xs : List X) (x : X) → find p xs ≡ Some x → p x ≡ true
found_passes p [] x is = absurd (some_none x (sym is))
found_passes p (y ∷ ys) x is = elim (cases_Bool (p y)) [
  | inl passes ↦ subst (λ z. p z ≡ true) (inner y x (sym (cond-true (p y) (Some y) (find p ys) passes) ∙ is)) passes
  | inr other ↦ found_passes p ys x (sym (cond-false (p y) (Some y) (find p ys) other) ∙ is)
]
  where
    inner : {X : Type 0} (a b : X) → Some a ≡ Some b → a ≡ b
    inner a b e = cc

-- A list that has nothing of a transaction is what all others have pending.
pub without_nothing : (t : ℕ) (xs : List Pending) → pending_of t xs ≡ None → without_txn t xs ≡ xs
without_nothing t [] is = refl
without_nothing t (x ∷ xs) is = elim (cases_Bool (is_by t x)) [
  | inl passes ↦ absurd (some_none x (sym (cond-true (is_by t x) (Some x) (pending_of t xs) passes) ∙ is))
  | inr other ↦
      cond-true (not (is_by t x)) (x ∷ without_txn t xs) (without_txn t xs) (ap not other)
      ∙ ap (λ (rest : List Pending). x ∷ rest) (without_nothing t xs (sym (cond-false (is_by t x) (Some x) (pending_of t xs) other) ∙ is))
]

removed_first : (t : ℕ) (xs : List Pending) (i : ℕ) (d : Pending) → AreDistinct xs → i < length xs → is_by t (get_or xs i d) ≡ true → ((k : ℕ) → k < i → is_by t (get_or xs k d) ≡ false)
    → remove xs i ≡ without_txn t xs
removed_first t [] i d distinct within here before = absurd (omega arith)
removed_first t (x ∷ xs) zero d distinct within here before =
    let free : pending_of t xs ≡ None = subst (λ n. pending_of n xs ≡ None) (eqb-true x.txn t here) distinct.0 in
    sym (cond-false (not (is_by t x)) (x ∷ without_txn t xs) (without_txn t xs) (ap not here) ∙ without_nothing t xs free)
removed_first t (x ∷ xs) (suc i) d distinct within here before =
    let other = before 0 (omega arith) in
    ap (λ (rest : List Pending). x ∷ rest) (removed_first t xs i d distinct.1 (omega arith) here (λ k h. before (suc k) (omega arith)))
    ∙ sym (cond-true (not (is_by t x)) (x ∷ without_txn t xs) (without_txn t xs) (ap not other))

-- The list with the place of a transaction taken out is what all others have pending.
pub without_place : (t : ℕ) (xs : List Pending) (i : ℕ) (d : Pending) → AreDistinct xs → Some i ≡ position (is_by t) xs → remove xs i ≡ without_txn t xs
without_place t xs i d distinct is =
    let at = position-Some (is_by t) xs i d (sym is) in
    removed_first t xs i d distinct at.0 at.1 at.2

removed-set : (xs : List Pending) (i : ℕ) (x : Pending) → remove (set xs i x) i ≡ remove xs i
removed-set xs i x = ap (λ (l : List Pending). l ++ drop (suc i) (set xs i x)) (take-set xs i x) ∙ ap (λ (l : List Pending). take i xs ++ l) (drop-set-lt (suc i) xs i x (omega arith))

-- Where nothing of a transaction is pending, its first change comes to stand last.
pub first_added : (t : ℕ) (xs : List Pending) (c : Change) → None ≡ position (is_by t) xs
    → xs ++ (record { txn = t; under = None; changes = c ∷ [] }) ∷ [] ≡ without_txn t xs ++ (record { txn = t; under = None; changes = changes_by t xs ++ c ∷ [] }) ∷ []
first_added t xs c is =
    let nothing = found_nowhere (is_by t) xs is in
    ap (λ (l : List Pending). l ++ (record { txn = t; under = None; changes = c ∷ [] }) ∷ []) (sym (without_nothing t xs nothing))
    ∙ ap (λ (o : Option Pending). without_txn t xs ++ (record { txn = t; under = None; changes = changes_of o ++ c ∷ [] }) ∷ []) (sym nothing)

-- What is pending comes to stand last, with one change more.
pub next_added : (t : ℕ) (xs : List Pending) (i : ℕ) (old : Pending) (changes : List Change) (c : Change) (left : List Pending) (out : Pending) → AreDistinct xs → xid_by t xs ≡ None
    → Some i ≡ position (is_by t) xs → old ≡ get_or xs i old → changes ≡ old.changes ++ c ∷ []
    → left ≡ remove (set xs i (record { txn = old.txn; under = old.under; changes = changes })) i → out ≡ get_or (set xs i (record { txn = old.txn; under = old.under; changes = changes })) i out
    → left ++ out ∷ [] ≡ without_txn t xs ++ (record { txn = t; under = None; changes = changes_by t xs ++ c ∷ [] }) ∷ []
next_added t xs i old changes c left out distinct unprepared is at more removed taken =
    let new : Pending = record { txn = old.txn; under = old.under; changes = changes } in
    let within : i < length xs = (position-Some (is_by t) xs i old (sym is)).0 in
    let found = found_there (is_by t) xs i old is at in
    let same : old.txn ≡ t = eqb-true old.txn t (found_passes (is_by t) xs old found) in
    let under : old.under ≡ None = sym (ap xid_of found) ∙ unprepared in
    let all : changes ≡ changes_by t xs ++ c ∷ [] = more ∙ ap (λ (o : Option Pending). changes_of o ++ c ∷ []) (sym found) in
    ap (λ (l : List Pending). l ++ out ∷ []) (removed ∙ removed-set xs i new ∙ without_place t xs i old distinct is)
    ∙ ap (λ (o : Pending). without_txn t xs ++ o ∷ []) (taken ∙ get_or-set_same xs i new out within)
    ∙ ap (λ (n : ℕ). without_txn t xs ++ (record { txn = n; under = old.under; changes = changes }) ∷ []) same
    ∙ ap (λ (o : Option ℕ). without_txn t xs ++ (record { txn = t; under = o; changes = changes }) ∷ []) under
    ∙ ap (λ (l : List Change). without_txn t xs ++ (record { txn = t; under = None; changes = l }) ∷ []) all
