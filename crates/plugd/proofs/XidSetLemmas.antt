-- How a set of xids keeps what it knows.
use Rattle.std.proofs.Common.{◌≡◌, ◌⊎◌, inl, inr, ◌≤◌, ◌<◌, ◌+◌, ℕ, max, List, [], ◌∷◌, ◌++◌, Result, Ok, Err, IfOk, sym, ap, subst, ◌∙◌, arith}
use Rattle.std.specs.Prelude.{Contains, OnErr}
use Rattle.std.proofs.Math.Logic.{⊎_elim}
use Rattle.std.proofs.lemmas.List.Elements.{Contains-push, Contains-push_cases, Contains-append_left}
use Rattle.plugd.specs.declared.xids.XidRange.{XidRange}
use Rattle.plugd.specs.declared.xids.XidSet.{XidSet}
use Rattle.plugd.specs.Xids.{last_xid, IsNextXid, IsLeastUnused}
use Rattle.plugd.specs.XidSet.{IsIn, IsInOne, HasXid, HasUpTo, IsLeastFree, Knows}
use Rattle.plugd.proofs.XidLemmas.{greatest-push, contains_nil}

-- the ranges held before, and the one that was pushed
in_one_push : (rs : List XidRange) (r : XidRange) (x : ℕ) → IsInOne rs x ⊎ IsIn r x → IsInOne (rs ++ r ∷ []) x
in_one_push rs r x h =
    ⊎_elim
    (λ (old : IsInOne rs x). (old.0, (Contains-append_left rs (r ∷ []) old.0 old.1.0, old.1.1)))
    (λ (new : IsIn r x). (r, (Contains-push rs r, new)))
    h

in_one_push_cases : (rs : List XidRange) (r : XidRange) (x : ℕ) → IsInOne (rs ++ r ∷ []) x → IsInOne rs x ⊎ IsIn r x
in_one_push_cases rs r x h =
    ⊎_elim
    (λ (old : Contains rs h.0). inl (h.0, (old, h.1.1)))
    (λ (same : r ≡ h.0). inr (subst (λ (s : XidRange). IsIn s x) (sym same) h.1.1))
    (Contains-push_cases rs r h.0 h.1.0)

-- no range holds a number at first
pub knows_none : (set : XidSet) → set.past.items ≡ [] → set.current.first ≡ 1 → set.current.last ≡ 0 → set.greatest ≡ 0 → Knows set []
knows_none set none first last most = record {
  holds_only = λ x h. ⊎_elim
      (λ (past : IsInOne set.past.items x). absurd (contains_nil past.0 (subst (λ (l : List XidRange). Contains l past.0) none past.1.0)))
      (λ (now : IsIn set.current x). absurd (omega arith))
      h;
  holds_all = λ x h. absurd (contains_nil x h);
  greatest_is = most;
  current_in_order = omega arith;
}

-- a set with the same ranges knows the same
pub knows_same : (a b : XidSet) (used : List ℕ) → b.past.items ≡ a.past.items → b.current ≡ a.current → b.greatest ≡ a.greatest → Knows a used → Knows b used
knows_same a b used items current most k = record {
  holds_only = λ x h. k.holds_only x
      (subst (λ (l : List XidRange). IsInOne l x ⊎ IsIn a.current x) items
      (subst (λ (r : XidRange). IsInOne b.past.items x ⊎ IsIn r x) current h));
  holds_all = λ x h.
      subst (λ (l : List XidRange). IsInOne l x ⊎ IsIn b.current x) (sym items)
      (subst (λ (r : XidRange). IsInOne a.past.items x ⊎ IsIn r x) (sym current) (k.holds_all x h));
  greatest_is = most ∙ k.greatest_is;
  current_in_order = subst (λ (r : XidRange). r.first ≤ r.last + 1) (sym current) k.current_in_order;
}

-- a set that holds one number more
knows_more : (a b : XidSet) (used : List ℕ) (x : ℕ) → Knows a used → ((y : ℕ) → HasXid b y → HasXid a y ⊎ (x ≡ y)) → ((y : ℕ) → HasXid a y ⊎ (x ≡ y) → HasXid b y) → b.greatest ≡ max a.greatest x
    → b.current.first ≤ b.current.last + 1 → Knows b (used ++ x ∷ [])
knows_more a b used x k only all most ordered = record {
  holds_only = λ y h. ⊎_elim
      (λ (old : HasXid a y). Contains-append_left used (x ∷ []) y (k.holds_only y old))
      (λ (new : x ≡ y). subst (λ (z : ℕ). Contains (used ++ x ∷ []) z) new (Contains-push used x))
      (only y h);
  holds_all = λ y h. all y (⊎_elim
      (λ (old : Contains used y). inl (k.holds_all y old))
      (λ (new : x ≡ y). inr new)
      (Contains-push_cases used x y h));
  greatest_is = most ∙ (ap (λ (g : ℕ). max g x) k.greatest_is ∙ sym (greatest-push used x));
  current_in_order = ordered;
}

-- what holds, holds where there is an error
pub on_err : {T E : Type 0} (r : Result T E) (P : Type 0) → P → OnErr r P
on_err (Ok x) P p = tt
on_err (Err e) P p = p

-- a number up to the next one is in the range, or is the next
within_next : (range : XidRange) (past : Type 0) (y x : ℕ) → range.first ≤ y → y ≤ x → x ≡ range.last + 1 → (past ⊎ IsIn range y) ⊎ (x ≡ y)
within_next range past y x first last next =
    ⊎_elim
    (λ (same : x ≡ y). inr same)
    (λ (below : y < x). inl (inr (first, omega arith)))
    (let cases : (x ≡ y) ⊎ (y < x) = grind arith in cases)

-- the current range goes on
pub knows_extended : (a b : XidSet) (used : List ℕ) (x : ℕ) → Knows a used → b.past.items ≡ a.past.items → b.current.first ≡ a.current.first → b.current.last ≡ x → x ≡ a.current.last + 1
    → b.greatest ≡ max a.greatest x → Knows b (used ++ x ∷ [])
knows_extended a b used x k items first last next most =
    let ordered = k.current_in_order in
    knows_more a b used x k
    (λ y h. ⊎_elim
    (λ (past : IsInOne b.past.items y). inl (inl (subst (λ (l : List XidRange). IsInOne l y) items past)))
    (λ (now : IsIn b.current y). within_next a.current (IsInOne a.past.items y) y x (omega arith) (omega arith) next)
    h)
    (λ y h. ⊎_elim
    (λ (old : HasXid a y). ⊎_elim
    (λ (past : IsInOne a.past.items y). inl (subst (λ (l : List XidRange). IsInOne l y) (sym items) past))
    (λ (now : IsIn a.current y). inr (omega arith, omega arith))
    old)
    (λ (new : x ≡ y). inr (omega arith, omega arith))
    h)
    most (omega arith)

-- the current range becomes a past one, and the number begins the next
pub knows_pushed : (a b : XidSet) (used : List ℕ) (x : ℕ) → Knows a used → b.past.items ≡ a.past.items ++ a.current ∷ [] → b.current.first ≡ x → b.current.last ≡ x
    → b.greatest ≡ max a.greatest x → Knows b (used ++ x ∷ [])
knows_pushed a b used x k items first last most =
    knows_more a b used x k
    (λ y h. ⊎_elim
    (λ (past : IsInOne b.past.items y). inl (in_one_push_cases a.past.items a.current y (subst (λ (l : List XidRange). IsInOne l y) items past)))
    (λ (now : IsIn b.current y). inr (omega arith))
    h)
    (λ y h. ⊎_elim
    (λ (old : HasXid a y). inl (subst (λ (l : List XidRange). IsInOne l y) (sym items) (in_one_push a.past.items a.current y old)))
    (λ (new : x ≡ y). inr (omega arith, omega arith))
    h)
    most (omega arith)

-- the least number that a set does not hold was not used, and is the least such
pub least_unused : (set : XidSet) (used : List ℕ) (x : ℕ) → Knows set used → IsLeastFree set x → IsLeastUnused used x
least_unused set used x k is = record {
  from_one = is.from_one;
  unused = λ h. is.free (k.holds_all x h);
  least = λ y one below. k.holds_only y (is.least y one below);
}

-- the least free number is the next xid once the last one was used
pub least_is_next : {E : Type 0} (set : XidSet) (r : Result ℕ E) → last_xid ≤ set.greatest → IfOk r (λ x. IsLeastFree set x) → (used : List ℕ) → Knows set used → IfOk r (λ x. IsNextXid used x)
least_is_next set (Ok x) most is used k = let same = k.greatest_is in inr (omega arith, least_unused set used x k is)
least_is_next set (Err e) most is used k = tt

-- each number below the one after a range is held
pub held_below : (set : XidSet) (candidate last : ℕ) → 1 ≤ candidate → ((y : ℕ) → 1 ≤ y → y < candidate → HasXid set y) → (candidate ≤ last) × HasUpTo set candidate last
    → (1 ≤ last + 1) × ((y : ℕ) → 1 ≤ y → y < last + 1 → HasXid set y)
held_below set candidate last one below beside = (
  omega arith,
  λ y from to. ⊎_elim
      (λ (more : candidate ≤ y). beside.1 y more (omega arith))
      (λ (less : y < candidate). below y from less)
      (let cases : (candidate ≤ y) ⊎ (y < candidate) = grind arith in cases),
)
