-- What a search by places tells of the first table of a name, and of the place of a new row.
use Rattle.std.proofs.Common.{◌≡◌, ℕ, suc, ◌≤◌, ◌<◌, List, [], ◌∷◌, ◌++◌, Some, None, true, refl, sym, ap, subst, ◌∙◌, arith, length, get_or, set, inl, inr}
use Rattle.std.specs.Prelude.{is_some, insert, remove}
use Rattle.std.specs.Ordering.{is_lt}
use Rattle.sql_value.specs.declared.value.Value.{Value}
use Rattle.sql_value.specs.Values.{value_cmp}
use Rattle.log_tables.specs.Keys.{key_in, in_key_order, place_above}
use Rattle.row_format.specs.declared.change.Change.{Change}
use Rattle.log_tables.specs.Changes.{changed, with_rows, rows_after}
use Rattle.log_tables.specs.Tables.{Table, is_named, table_named, at_table, place_named}
use Rattle.log_tables.proofs.PartLemmas.{cases, cond_true, cond_false}

-- a name that stands nowhere
pub table_named-nowhere : (n : List ℕ) (ts : List Table) → length ts ≤ place_named n ts → table_named n ts ≡ None
table_named-nowhere n [] h = refl
table_named-nowhere n (t ∷ ts) h = elim (cases (is_named n t)) [
  | inl here ↦ absurd (none (length ts) (subst (λ k. suc (length ts) ≤ k) (cond_true (is_named n t) 0 (suc (place_named n ts)) here) h))
  | inr past ↦
      cond_false (is_named n t) (Some t) (table_named n ts) past
      ∙ table_named-nowhere n ts (less (length ts) (place_named n ts) (subst (λ k. suc (length ts) ≤ k) (cond_false (is_named n t) 0 (suc (place_named n ts)) past) h))
]
  where
    none : (k : ℕ) → suc k ≤ 0 → ⊥
    none k h = omega arith

    less : (j k : ℕ) → suc j ≤ suc k → j ≤ k
    less j k h = omega arith

pub at_table-nowhere : (n : List ℕ) (make : Table → List Table) (ts : List Table) → length ts ≤ place_named n ts → at_table n make ts ≡ ts
at_table-nowhere n make [] h = refl
at_table-nowhere n make (t ∷ ts) h = elim (cases (is_named n t)) [
  | inl here ↦ absurd (none (length ts) (subst (λ k. suc (length ts) ≤ k) (cond_true (is_named n t) 0 (suc (place_named n ts)) here) h))
  | inr past ↦
      cond_false (is_named n t) (make t ++ ts) (t ∷ at_table n make ts) past
      ∙ ap (λ xs. t ∷ xs) (at_table-nowhere n make ts (less (length ts) (place_named n ts) (subst (λ k. suc (length ts) ≤ k) (cond_false (is_named n t) 0 (suc (place_named n ts)) past) h)))
]
  where
    none : (k : ℕ) → suc k ≤ 0 → ⊥
    none k h = omega arith

    less : (j k : ℕ) → suc j ≤ suc k → j ≤ k
    less j k h = omega arith

-- a name that stands somewhere
pub table_named-there : (n : List ℕ) (ts : List Table) → place_named n ts < length ts → is_some (table_named n ts) ≡ true
table_named-there n [] h = absurd (omega arith)
table_named-there n (t ∷ ts) h = elim (cases (is_named n t)) [
  | inl here ↦ ap is_some (cond_true (is_named n t) (Some t) (table_named n ts) here)
  | inr past ↦
      ap is_some (cond_false (is_named n t) (Some t) (table_named n ts) past)
      ∙ table_named-there n ts (less (place_named n ts) (length ts) (subst (λ k. k < suc (length ts)) (cond_false (is_named n t) 0 (suc (place_named n ts)) past) h))
]
  where
    less : (j k : ℕ) → suc j < suc k → j < k
    less j k h = omega arith

pub at_table-set : (n : List ℕ) (f : Table → Table) (ts : List Table) (d : Table) → place_named n ts < length ts
    → at_table n (λ t. f t ∷ []) ts ≡ set ts (place_named n ts) (f (get_or ts (place_named n ts) d))
at_table-set n f [] d h = absurd (omega arith)
at_table-set n f (t ∷ ts) d h = elim (cases (is_named n t)) [
  | inl here ↦
      cond_true (is_named n t) (f t ∷ ts) (t ∷ at_table n (λ x. f x ∷ []) ts) here
      ∙ sym (ap (λ i. set (t ∷ ts) i (f (get_or (t ∷ ts) i d))) (cond_true (is_named n t) 0 (suc (place_named n ts)) here))
  | inr past ↦
      cond_false (is_named n t) (f t ∷ ts) (t ∷ at_table n (λ x. f x ∷ []) ts) past
      ∙ ap (λ xs. t ∷ xs) (at_table-set n f ts d (less (place_named n ts) (length ts) (subst (λ k. k < suc (length ts)) (cond_false (is_named n t) 0 (suc (place_named n ts)) past) h)))
      ∙ sym (ap (λ i. set (t ∷ ts) i (f (get_or (t ∷ ts) i d))) (cond_false (is_named n t) 0 (suc (place_named n ts)) past))
]
  where
    less : (j k : ℕ) → suc j < suc k → j < k
    less j k h = omega arith

pub at_table-remove : (n : List ℕ) (ts : List Table) → place_named n ts < length ts → at_table n (λ _. []) ts ≡ remove ts (place_named n ts)
at_table-remove n [] h = absurd (omega arith)
at_table-remove n (t ∷ ts) h = elim (cases (is_named n t)) [
  | inl here ↦
      cond_true (is_named n t) ts (t ∷ at_table n (λ _. []) ts) here
      ∙ sym (ap (remove (t ∷ ts)) (cond_true (is_named n t) 0 (suc (place_named n ts)) here))
  | inr past ↦
      cond_false (is_named n t) ts (t ∷ at_table n (λ _. []) ts) past
      ∙ ap (λ xs. t ∷ xs) (at_table-remove n ts (less (place_named n ts) (length ts) (subst (λ k. k < suc (length ts)) (cond_false (is_named n t) 0 (suc (place_named n ts)) past) h)))
      ∙ sym (ap (remove (t ∷ ts)) (cond_false (is_named n t) 0 (suc (place_named n ts)) past))
]
  where
    less : (j k : ℕ) → suc j < suc k → j < k
    less j k h = omega arith

-- a row change of the first table of a name
pub edited : (n : List ℕ) (c : Change) (ts : List Table) (i : ℕ) (old new : Table) → i ≡ place_named n ts → i < length ts → old ≡ get_or ts i old
    → new ≡ with_rows old (rows_after c old) → set ts i new ≡ at_table n (changed c) ts
edited n c ts i old new at within was is =
    let there : place_named n ts < length ts = subst (λ k. k < length ts) at within in
    ap (set ts i) is
    ∙ ap (λ k. set ts k (with_rows old (rows_after c old))) at
    ∙ ap (λ t. set ts (place_named n ts) (with_rows t (rows_after c t))) (was ∙ ap (λ k. get_or ts k old) at)
    ∙ sym (at_table-set n (λ t. with_rows t (rows_after c t)) ts old there)

-- a row is put before the first of a greater key
pub in_key_order-insert : (column : ℕ) (row : List Value) (rows : List (List Value)) → in_key_order column row rows ≡ insert rows (place_above column row rows) row
in_key_order-insert column row [] = refl
in_key_order-insert column row (r ∷ rs) = elim (cases (is_lt (value_cmp (key_in column row) (key_in column r)))) [
  | inl before ↦
      cond_true (is_lt (value_cmp (key_in column row) (key_in column r))) (row ∷ r ∷ rs) (r ∷ in_key_order column row rs) before
      ∙ sym (ap (λ i. insert (r ∷ rs) i row) (cond_true (is_lt (value_cmp (key_in column row) (key_in column r))) 0 (suc (place_above column row rs)) before))
  | inr past ↦
      cond_false (is_lt (value_cmp (key_in column row) (key_in column r))) (row ∷ r ∷ rs) (r ∷ in_key_order column row rs) past
      ∙ ap (λ xs. r ∷ xs) (in_key_order-insert column row rs)
      ∙ sym (ap (λ i. insert (r ∷ rs) i row) (cond_false (is_lt (value_cmp (key_in column row) (key_in column r))) 0 (suc (place_above column row rs)) past))
]

pub place_above-within : (column : ℕ) (row : List Value) (rows : List (List Value)) → place_above column row rows ≤ length rows
place_above-within column row [] = omega arith
place_above-within column row (r ∷ rs) = elim (cases (is_lt (value_cmp (key_in column row) (key_in column r)))) [
  | inl before ↦ subst (λ i. i ≤ suc (length rs)) (sym (cond_true (is_lt (value_cmp (key_in column row) (key_in column r))) 0 (suc (place_above column row rs)) before)) (omega arith)
  | inr past ↦
      let rest = place_above-within column row rs in
      subst (λ i. i ≤ suc (length rs)) (sym (cond_false (is_lt (value_cmp (key_in column row) (key_in column r))) 0 (suc (place_above column row rs)) past)) (more (place_above column row rs) (length rs) rest)
]
  where
    more : (j k : ℕ) → j ≤ k → suc j ≤ suc k
    more j k h = omega arith

pub place_named-within : (n : List ℕ) (ts : List Table) → place_named n ts ≤ length ts
place_named-within n [] = omega arith
place_named-within n (t ∷ ts) = elim (cases (is_named n t)) [
  | inl here ↦ subst (λ i. i ≤ suc (length ts)) (sym (cond_true (is_named n t) 0 (suc (place_named n ts)) here)) (omega arith)
  | inr past ↦
      let rest = place_named-within n ts in
      subst (λ i. i ≤ suc (length ts)) (sym (cond_false (is_named n t) 0 (suc (place_named n ts)) past)) (more (place_named n ts) (length ts) rest)
]
  where
    more : (j k : ℕ) → j ≤ k → suc j ≤ suc k
    more j k h = omega arith
