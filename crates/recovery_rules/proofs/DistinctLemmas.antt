-- That no two places have one xid, told of the list of xids.
use Rattle.std.proofs.Common.{◌≡◌, ℕ, zero, suc, List, [], ◌∷◌, Some, None, refl, sym, ap, subst, ◌∙◌, arith}
use Rattle.std.specs.Prelude.{◌↔◌, slice_get, Contains}
use Rattle.row_format.specs.declared.change.Transaction.{Transaction}
use Rattle.recovery_rules.specs.Places.{IsDistinct, xids_of, AreDistinct}

none : {X : Type 0} {a : X} → None ≡ Some a → ⊥
none q = cc

same : {X : Type 0} {a b : X} → Some a ≡ Some b → a ≡ b
same q = cc

-- an xid of the list is one of a transaction
pub at_xid : (log : List Transaction) (xid : ℕ) → Contains (xids_of log) xid → (place : ℕ) × (it : Transaction) × (slice_get log place ≡ Some it) × (it.xid ≡ xid)
at_xid [] xid h = let lt = h.1 in absurd (omega (arith, lt))
at_xid (t ∷ log) xid (zero, lt, q) = (0, t, refl, q)
at_xid (t ∷ log) xid (suc k, lt, q) = let later = at_xid log xid (k, omega (arith, lt), q) in (suc later.0, later.1, later.2, later.3)

-- the xid of a transaction is one of the list
pub xid_at : (log : List Transaction) (place : ℕ) (it : Transaction) → slice_get log place ≡ Some it → Contains (xids_of log) it.xid
xid_at [] place it at = absurd (none at)
xid_at (t ∷ log) zero it at = (0, omega arith, ap (λ (x : Transaction). x.xid) (same at))
xid_at (t ∷ log) (suc place) it at = let later = xid_at log place it at in let lt = later.1 in (suc later.0, omega (arith, lt), later.2)

distinct_rest : (t : Transaction) (log : List Transaction) → IsDistinct (t ∷ log) → IsDistinct log
distinct_rest t log d = record { same_place = λ i j a b p q e. one_less i j (d.same_place (suc i) (suc j) a b p q e) }
  where
    one_less : (i j : ℕ) → suc i ≡ suc j → i ≡ j
    one_less i j q = omega arith

to_list : (log : List Transaction) → IsDistinct log → AreDistinct (xids_of log)
to_list [] d = tt
to_list (t ∷ log) d = (
  (λ h. let there = at_xid log t.xid h in apart there.0 (d.same_place 0 (suc there.0) t there.1 refl there.2 (sym there.3))),
  to_list log (distinct_rest t log d),
)
  where
    apart : (k : ℕ) → 0 ≡ suc k → ⊥
    apart k q = omega arith

by_place : (log : List Transaction) → AreDistinct (xids_of log) → (i j : ℕ) (a b : Transaction) → slice_get log i ≡ Some a → slice_get log j ≡ Some b → a.xid ≡ b.xid → i ≡ j
by_place [] d i j a b p q e = absurd (none p)
by_place (t ∷ log) d zero zero a b p q e = refl
by_place (t ∷ log) d zero (suc j) a b p q e = absurd (d.0 (subst (Contains (xids_of log)) (sym e ∙ sym (ap (λ (x : Transaction). x.xid) (same p))) (xid_at log j b q)))
by_place (t ∷ log) d (suc i) zero a b p q e = absurd (d.0 (subst (Contains (xids_of log)) (e ∙ sym (ap (λ (x : Transaction). x.xid) (same q))) (xid_at log i a p)))
by_place (t ∷ log) d (suc i) (suc j) a b p q e = ap suc (by_place log d.1 i j a b p q e)

pub IsDistinct-xids : (log : List Transaction) → IsDistinct log ↔ AreDistinct (xids_of log)
IsDistinct-xids log = (to_list log, λ d. record { same_place = by_place log d })
