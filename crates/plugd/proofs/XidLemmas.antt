-- Which xids are used, new, and given.
use Rattle.std.proofs.Common.{◌≡◌, ◌⊎◌, inl, inr, ◌≤◌, ℕ, max, List, [], ◌∷◌, ◌++◌, sym, subst, arith}
use Rattle.std.specs.Prelude.{Contains}
use Rattle.std.proofs.Math.Logic.{⊎_elim}
use Rattle.std.proofs.lemmas.List.{append-nil, map-append, append_assoc}
use Rattle.std.proofs.lemmas.List.Elements.{Contains-push, Contains-push_cases, Contains-append_left, Contains-append_right, Contains-append_cases}
use Rattle.row_format.specs.declared.change.Transaction.{Transaction}
use Rattle.plugd.specs.Xids.{xids_of, greatest, IsNextXid, AreGiven, AreDistinct}

-- nothing holds no element
pub contains_nil : {X : Type 0} (x : X) → Contains [] x → ⊥
contains_nil x h = omega (arith, h.1)

-- one element alone
contains_one : (x y : ℕ) → Contains (x ∷ []) y → x ≡ y
contains_one x y h = ⊎_elim (λ none. absurd (omega (arith, none.1))) (λ same. same) (Contains-push_cases [] x y h)

-- the first element, or one behind it
pub contains_cases : (x : ℕ) (xs : List ℕ) (y : ℕ) → Contains (x ∷ xs) y → (x ≡ y) ⊎ Contains xs y
contains_cases x xs y h = ⊎_elim (λ one. inl (contains_one x y one)) (λ rest. inr rest) (Contains-append_cases (x ∷ []) xs y h)

pub contains_head : (x : ℕ) (xs : List ℕ) → Contains (x ∷ xs) x
contains_head x xs = Contains-append_left (x ∷ []) xs x (Contains-push [] x)

pub contains_tail : (x : ℕ) (xs : List ℕ) (y : ℕ) → Contains xs y → Contains (x ∷ xs) y
contains_tail x xs y h = Contains-append_right (x ∷ []) xs y h

-- none is above the greatest
pub below_greatest : (used : List ℕ) (x : ℕ) → Contains used x → x ≤ greatest used
below_greatest [] x h = absurd (omega (arith, h.1))
below_greatest (y ∷ ys) x h =
    ⊎_elim
    (λ (same : y ≡ x). omega arith)
    (λ (rest : Contains ys x). let below = below_greatest ys x rest in omega arith)
    (contains_cases y ys x h)

-- the next xid was not used
pub next_is_new : (used : List ℕ) (x : ℕ) → IsNextXid used x → Contains used x → ⊥
next_is_new used x next h =
    ⊎_elim (λ above. let below = below_greatest used x h in omega (arith, above.1)) (λ least. least.1.unused h) next

pub greatest-push : (used : List ℕ) (x : ℕ) → greatest (used ++ x ∷ []) ≡ max (greatest used) x
greatest-push [] x = omega arith
greatest-push (y ∷ ys) x = let rest = greatest-push ys x in omega arith

pub xids_of-append : (xs ys : List Transaction) → xids_of (xs ++ ys) ≡ xids_of xs ++ xids_of ys
xids_of-append xs ys = map-append (λ (t : Transaction). t.xid) xs ys

-- one more xid is given
pub given_push : (used given : List ℕ) (x : ℕ) → AreGiven used given → IsNextXid (used ++ given) x → AreGiven used (given ++ x ∷ [])
given_push used [] x is next = (subst (λ (l : List ℕ). IsNextXid l x) (append-nil used) next, tt)
given_push used (y ∷ ys) x is next =
    (is.0, given_push (used ++ y ∷ []) ys x is.1 (subst (λ (l : List ℕ). IsNextXid l x) (sym (append_assoc used (y ∷ []) ys)) next))

-- a new xid behind distinct ones
distinct_push : (xs : List ℕ) (x : ℕ) → AreDistinct xs → (Contains xs x → ⊥) → AreDistinct (xs ++ x ∷ [])
distinct_push [] x is new = ((λ h. omega (arith, h.1)), tt)
distinct_push (y ∷ ys) x is new = (
  (λ h. ⊎_elim
      (λ (rest : Contains ys y). is.0 rest)
      (λ (same : x ≡ y). new (subst (λ (z : ℕ). Contains (y ∷ ys) z) (sym same) (contains_head y ys)))
      (Contains-push_cases ys x y h)),
  distinct_push ys x is.1 (λ h. new (contains_tail y ys x h)),
)

-- xids given after distinct ones are distinct from them
pub given_distinct : (used given : List ℕ) → AreDistinct used → AreGiven used given → AreDistinct (used ++ given)
given_distinct used [] is given = subst (λ (l : List ℕ). AreDistinct l) (sym (append-nil used)) is
given_distinct used (x ∷ xs) is given =
    subst (λ (l : List ℕ). AreDistinct l) (append_assoc used (x ∷ []) xs)
    (given_distinct (used ++ x ∷ []) xs (distinct_push used x is (next_is_new used x given.0)) given.1)

-- the front of distinct ones is distinct
pub distinct_front : (xs ys : List ℕ) → AreDistinct (xs ++ ys) → AreDistinct xs
distinct_front [] ys is = tt
distinct_front (x ∷ xs) ys is = ((λ h. is.0 (Contains-append_left xs ys x h)), distinct_front xs ys is.1)
