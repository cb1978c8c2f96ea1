-- Rows stay in the order of their keys.
use Rattle.std.proofs.Common.{◌≡◌, ℕ, ◌+◌, List, [], ◌∷◌, Some, None, Bool, true, false, cond, refl, sym, ap, subst, ◌∙◌, arith, inl, inr}
use Rattle.std.specs.Prelude.{Option, is_some, not, sum_by, option_and_then}
use Rattle.std.specs.Ordering.{is_lt, is_eq, ordering_reverse}
use Rattle.std.specs.declared.cmp.Ordering.{Ordering}
use Rattle.std.specs.declared.cmp.Ordering.TheVariants.{Equal, Greater}
use Rattle.std.proofs.lemmas.List.Sums.{sum_by-cons}
use Rattle.std.specs.declared.cmp.Ordering.TheVariants.{Less}
use Rattle.std.proofs.lemmas.Bool.{cond-true, cond-false, cases_Bool}
use Rattle.sql_value.specs.declared.value.Value.{Value}
use Rattle.sql_value.specs.Values.{value_cmp, same_value}
use Rattle.sql_value.proofs.OrderLemmas.{value_cmp_total}
use Rattle.sql_value.proofs.SameLemmas.{less, more-other, other-less, same_value-true, same_value_refl, same_value-is_eq}
use Rattle.log_tables.specs.Keys.{key_in, has_key, row_with, without_key, in_key_order, is_row, inserted, deleted, updated, IsBelow, IsInKeyOrder, IsOrdered}

pub below_trans : (c : ℕ) (k j : Value) (rows : List (List Value)) → value_cmp k j ≡ Less → IsBelow c j rows → IsBelow c k rows
below_trans c k j [] h b = tt
below_trans c k j (r ∷ rs) h b = (value_cmp_total.trans k j (key_in c r) h b.0, below_trans c k j rs h b.1)

below_insert : (c : ℕ) (k : Value) (row : List Value) (rows : List (List Value)) → value_cmp k (key_in c row) ≡ Less → IsBelow c k rows → IsBelow c k (in_key_order c row rows)
below_insert c k row [] h b = (h, tt)
below_insert c k row (r ∷ rs) h b =
    let test = is_lt (value_cmp (key_in c row) (key_in c r)) in
    elim (cases_Bool test) [
      | inl before ↦ subst (IsBelow c k) (sym (cond-true test (row ∷ r ∷ rs) (r ∷ in_key_order c row rs) before)) (h, b)
      | inr past ↦ subst (IsBelow c k) (sym (cond-false test (row ∷ r ∷ rs) (r ∷ in_key_order c row rs) past)) (b.0, below_insert c k row rs h b.1)
    ]

full : {A : Type 0} {x : A} → Some x ≡ None → ⊥
full q = cc

-- the first row has another key, and so have the rest
free_first : (c : ℕ) (key : Value) (r : List Value) (rs : List (List Value)) → row_with c key (r ∷ rs) ≡ None → (has_key c key r ≡ false) × (row_with c key rs ≡ None)
free_first c key r rs free = elim (cases_Bool (has_key c key r)) [
  | inl here ↦ absurd (full (sym (cond-true (has_key c key r) (Some r) (row_with c key rs) here) ∙ free))
  | inr other ↦ (other, sym (cond-false (has_key c key r) (Some r) (row_with c key rs) other) ∙ free)
]

-- A row whose key is free goes in with the order kept.
pub IsInKeyOrder-in_key_order : (c : ℕ) (row : List Value) (rows : List (List Value)) → row_with c (key_in c row) rows ≡ None → IsInKeyOrder c rows → IsInKeyOrder c (in_key_order c row rows)
IsInKeyOrder-in_key_order c row [] free d = (tt, tt)
IsInKeyOrder-in_key_order c row (r ∷ rs) free d =
    let test = is_lt (value_cmp (key_in c row) (key_in c r)) in
    let others = free_first c (key_in c row) r rs free in
    elim (cases_Bool test) [
      | inl before ↦
          let h = less (value_cmp (key_in c row) (key_in c r)) before in
          subst (IsInKeyOrder c) (sym (cond-true test (row ∷ r ∷ rs) (r ∷ in_key_order c row rs) before)) ((h, below_trans c (key_in c row) (key_in c r) rs h d.0), d)
      | inr past ↦
          let above = other-less (key_in c row) (key_in c r) past others.0 in
          subst (IsInKeyOrder c) (sym (cond-false test (row ∷ r ∷ rs) (r ∷ in_key_order c row rs) past)) (below_insert c (key_in c r) row rs above d.0, IsInKeyOrder-in_key_order c row rs others.1 d.1)
    ]

-- no row has a key that is below all
pub below_free : (c : ℕ) (key : Value) (rows : List (List Value)) → IsBelow c key rows → row_with c key rows ≡ None
below_free c key [] b = refl
below_free c key (r ∷ rs) b = cond-false (has_key c key r) (Some r) (row_with c key rs) (more-other (key_in c r) key b.0) ∙ below_free c key rs b.1

free_when : (o : Option (List Value)) → is_some o ≡ false → o ≡ None
free_when None h = refl
free_when (Some x) h = cc

-- An Insert keeps the rows in order.
pub IsOrdered-inserted : (key : Option ℕ) (row : List Value) (rows out : List (List Value)) → inserted key row rows ≡ Some out → IsOrdered key rows → IsOrdered key out
IsOrdered-inserted None row rows out is ordered = tt
IsOrdered-inserted (Some c) row rows out is ordered =
    let found = row_with c (key_in c row) rows in
    elim (cases_Bool (is_some found)) [
      | inl there ↦ absurd (full (sym is ∙ cond-true (is_some found) None (Some (in_key_order c row rows)) there))
      | inr free ↦
          let same : in_key_order c row rows ≡ out = cc (sym is ∙ cond-false (is_some found) None (Some (in_key_order c row rows)) free) in
          subst (IsInKeyOrder c) same (IsInKeyOrder-in_key_order c row rows (free_when found free) ordered)
    ]

-- what is kept of a row and those behind it
pub kept : (c : ℕ) (key : Value) (r : List Value) (rs : List (List Value)) → has_key c key r ≡ false → without_key c key (r ∷ rs) ≡ r ∷ without_key c key rs
kept c key r rs other = cond-true (not (has_key c key r)) (r ∷ without_key c key rs) (without_key c key rs) (ap not other)

pub gone : (c : ℕ) (key : Value) (r : List Value) (rs : List (List Value)) → has_key c key r ≡ true → without_key c key (r ∷ rs) ≡ without_key c key rs
gone c key r rs own = cond-false (not (has_key c key r)) (r ∷ without_key c key rs) (without_key c key rs) (ap not own)

below_without : (c : ℕ) (k key : Value) (rows : List (List Value)) → IsBelow c k rows → IsBelow c k (without_key c key rows)
below_without c k key [] b = tt
below_without c k key (r ∷ rs) b = elim (cases_Bool (has_key c key r)) [
  | inl own ↦ subst (IsBelow c k) (sym (gone c key r rs own)) (below_without c k key rs b.1)
  | inr other ↦ subst (IsBelow c k) (sym (kept c key r rs other)) (b.0, below_without c k key rs b.1)
]

-- Rows go out with the order kept.
pub IsInKeyOrder-without_key : (c : ℕ) (key : Value) (rows : List (List Value)) → IsInKeyOrder c rows → IsInKeyOrder c (without_key c key rows)
IsInKeyOrder-without_key c key [] d = tt
IsInKeyOrder-without_key c key (r ∷ rs) d = elim (cases_Bool (has_key c key r)) [
  | inl own ↦ subst (IsInKeyOrder c) (sym (gone c key r rs own)) (IsInKeyOrder-without_key c key rs d.1)
  | inr other ↦ subst (IsInKeyOrder c) (sym (kept c key r rs other)) (below_without c (key_in c r) key rs d.0, IsInKeyOrder-without_key c key rs d.1)
]

-- none of the rows above a key goes out with it
pub without_below : (c : ℕ) (key : Value) (rows : List (List Value)) → IsBelow c key rows → without_key c key rows ≡ rows
without_below c key [] b = refl
without_below c key (r ∷ rs) b = kept c key r rs (more-other (key_in c r) key b.0) ∙ ap (λ (l : List (List Value)). r ∷ l) (without_below c key rs b.1)

some_same : {A : Type 0} {x y : A} → Some x ≡ Some y → x ≡ y
some_same q = cc

-- Of rows in key order, one goes out with its key.
pub without_sum : (f : List Value → ℕ) (c : ℕ) (key : Value) (rows : List (List Value)) (row : List Value) → IsInKeyOrder c rows → row_with c key rows ≡ Some row
    → sum_by f (without_key c key rows) + f row ≡ sum_by f rows
without_sum f c key [] row d found = cc
without_sum f c key (r ∷ rs) row d found = elim (cases_Bool (has_key c key r)) [
  | inl own ↦
      let same : r ≡ row = some_same (sym (cond-true (has_key c key r) (Some r) (row_with c key rs) own) ∙ found) in
      let at : key_in c r ≡ key = same_value-true (key_in c r) key own in
      let rest : without_key c key rs ≡ rs = without_below c key rs (subst (λ (k : Value). IsBelow c k rs) at d.0) in
      let all = sum_by-cons f r rs in
      ap (λ (l : List (List Value)). sum_by f l + f row) (gone c key r rs own ∙ rest) ∙ ap (λ (x : List Value). sum_by f rs + f x) (sym same) ∙ omega (arith, all)
  | inr other ↦
      let rest = without_sum f c key rs row d.1 (sym (cond-false (has_key c key r) (Some r) (row_with c key rs) other) ∙ found) in
      let all = sum_by-cons f r rs in
      let less_one = sum_by-cons f r (without_key c key rs) in
      ap (λ (l : List (List Value)). sum_by f l + f row) (kept c key r rs other) ∙ omega (arith, rest, all, less_one)
]

-- A Delete keeps the rows in order.
pub IsOrdered-deleted : (key : Option ℕ) (place : ℕ) (before : List Value) (rows out : List (List Value)) → deleted key place before rows ≡ Some out → IsOrdered key rows → IsOrdered key out
IsOrdered-deleted None place before rows out is ordered = tt
IsOrdered-deleted (Some c) place before rows out is ordered = go (is_row (row_with c (key_in c before) rows) before) is
  where
    go : (b : Bool) → cond b (Some (without_key c (key_in c before) rows)) None ≡ Some out → IsInKeyOrder c out
    go true e = subst (IsInKeyOrder c) (some_same e) (IsInKeyOrder-without_key c (key_in c before) rows ordered)
    go false e = cc

-- An Update keeps the rows in order.
pub IsOrdered-updated : (key : Option ℕ) (place : ℕ) (before after : List Value) (rows out : List (List Value)) → updated key place before after rows ≡ Some out → IsOrdered key rows
    → IsOrdered key out
IsOrdered-updated None place before after rows out is ordered = tt
IsOrdered-updated (Some c) place before after rows out is ordered = go (deleted (Some c) place before rows) refl is
  where
    go : (o : Option (List (List Value))) → deleted (Some c) place before rows ≡ o → option_and_then (inserted (Some c) after) o ≡ Some out → IsInKeyOrder c out
    go None e h = cc
    go (Some less_one) e h = IsOrdered-inserted (Some c) after less_one out h (IsOrdered-deleted (Some c) place before rows less_one e ordered)

-- the first of rows has its key
first_has : (c : ℕ) (r : List Value) (rs : List (List Value)) → row_with c (key_in c r) (r ∷ rs) ≡ Some r
first_has c r rs = cond-true (has_key c (key_in c r) r) (Some r) (row_with c (key_in c r) rs) (same_value_refl (key_in c r))

-- two rows that come first in key order, with the same row for each key, are one
same_first : (c : ℕ) (r q : List Value) (rs qs : List (List Value)) (o : Ordering) → value_cmp (key_in c r) (key_in c q) ≡ o → IsInKeyOrder c (r ∷ rs) → IsInKeyOrder c (q ∷ qs)
    → ((key : Value) → row_with c key (r ∷ rs) ≡ row_with c key (q ∷ qs)) → r ≡ q
same_first c r q rs qs Less e of_r of_q same =
    absurd (full (sym (first_has c r rs) ∙ same (key_in c r) ∙ below_free c (key_in c r) (q ∷ qs) (e, below_trans c (key_in c r) (key_in c q) qs e of_q.0)))
same_first c r q rs qs Greater e of_r of_q same =
    let below = value_cmp_total.antisymm (key_in c q) (key_in c r) ∙ ap ordering_reverse e in
    absurd (full (sym (first_has c q qs) ∙ sym (same (key_in c q)) ∙ below_free c (key_in c q) (r ∷ rs) (below, below_trans c (key_in c q) (key_in c r) rs below of_r.0)))
same_first c r q rs qs Equal e of_r of_q same =
    let at : key_in c r ≡ key_in c q = same_value-true (key_in c r) (key_in c q) (same_value-is_eq (key_in c r) (key_in c q) ∙ ap is_eq e) in
    some_same (sym (first_has c r rs) ∙ same (key_in c r) ∙ ap (λ (k : Value). row_with c k (q ∷ qs)) at ∙ first_has c q qs)

-- Rows in key order are told by the row of each key.
pub ordered_same : (c : ℕ) (rows others : List (List Value)) → IsInKeyOrder c rows → IsInKeyOrder c others → ((key : Value) → row_with c key rows ≡ row_with c key others) → rows ≡ others
ordered_same c [] [] of_rows of_others same = refl
ordered_same c [] (q ∷ qs) of_rows of_others same = absurd (full (sym (first_has c q qs) ∙ sym (same (key_in c q))))
ordered_same c (r ∷ rs) [] of_rows of_others same = absurd (full (sym (first_has c r rs) ∙ same (key_in c r)))
ordered_same c (r ∷ rs) (q ∷ qs) of_rows of_others same =
    let first : r ≡ q = same_first c r q rs qs (value_cmp (key_in c r) (key_in c q)) refl of_rows of_others same in
    ap (λ (x : List Value). x ∷ rs) first
    ∙ ap (λ (l : List (List Value)). q ∷ l) (ordered_same c rs qs of_rows.1 of_others.1 (λ key. behind first key))
  where
    behind : r ≡ q → (key : Value) → row_with c key rs ≡ row_with c key qs
    behind first key = elim (cases_Bool (has_key c key r)) [
      | inl own ↦
          let at : key_in c r ≡ key = same_value-true (key_in c r) key own in
          let at_q : key_in c q ≡ key = ap (key_in c) (sym first) ∙ at in
          below_free c key rs (subst (λ (k : Value). IsBelow c k rs) at of_rows.0) ∙ sym (below_free c key qs (subst (λ (k : Value). IsBelow c k qs) at_q of_others.0))
      | inr other ↦
          sym (cond-false (has_key c key r) (Some r) (row_with c key rs) other)
          ∙ same key
          ∙ cond-false (has_key c key q) (Some q) (row_with c key qs) (ap (has_key c key) (sym first) ∙ other)
    ]
