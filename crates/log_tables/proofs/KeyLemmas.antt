-- The rows of other keys stay, and what a Delete and an Update make of rows by key.
use Rattle.std.proofs.Common.{◌≡◌, ℕ, List, [], ◌∷◌, Some, None, Bool, true, false, cond, refl, sym, ap, ◌∙◌, inl, inr}
use Rattle.std.specs.Prelude.{Option, not, is_some, option_and_then}
use Rattle.std.specs.Ordering.{is_lt}
use Rattle.sql_value.specs.declared.value.Value.{Value}
use Rattle.sql_value.specs.Values.{same_value, value_cmp}
use Rattle.sql_value.proofs.SameLemmas.{same_value-true, same_value_refl}
use Rattle.log_tables.specs.Keys.{key_in, has_key, row_with, without_key, in_key_order, is_row, inserted, deleted, updated}
use Rattle.log_tables.proofs.PartLemmas.{cases, cond_true, cond_false}

-- a row of another key than the one that is looked for
pub other_row : (column : ℕ) (key other : Value) (row : List Value) → same_value key other ≡ false → has_key column key row ≡ true → has_key column other row ≡ false
other_row column key other row apart h = ap (λ v. same_value v other) (same_value-true (key_in column row) key h) ∙ apart

-- Without the rows of one key, each other key has the row that it had.
pub row_with-without_key : (column : ℕ) (key other : Value) (rows : List (List Value)) → same_value key other ≡ false
    → row_with column other (without_key column key rows) ≡ row_with column other rows
row_with-without_key column key other [] apart = refl
row_with-without_key column key other (r ∷ rs) apart = elim (cases (has_key column key r)) [
  | inl gone ↦
      ap (row_with column other) (cond_false (not (has_key column key r)) (r ∷ without_key column key rs) (without_key column key rs) (ap not gone))
      ∙ row_with-without_key column key other rs apart
      ∙ sym (cond_false (has_key column other r) (Some r) (row_with column other rs) (other_row column key other r apart gone))
  | inr stays ↦
      ap (row_with column other) (cond_true (not (has_key column key r)) (r ∷ without_key column key rs) (without_key column key rs) (ap not stays))
      ∙ ap (cond (has_key column other r) (Some r)) (row_with-without_key column key other rs apart)
]

-- And that key has none.
pub row_with-without_key_same : (column : ℕ) (key : Value) (rows : List (List Value)) → row_with column key (without_key column key rows) ≡ None
row_with-without_key_same column key [] = refl
row_with-without_key_same column key (r ∷ rs) = elim (cases (has_key column key r)) [
  | inl gone ↦
      ap (row_with column key) (cond_false (not (has_key column key r)) (r ∷ without_key column key rs) (without_key column key rs) (ap not gone))
      ∙ row_with-without_key_same column key rs
  | inr stays ↦
      ap (row_with column key) (cond_true (not (has_key column key r)) (r ∷ without_key column key rs) (without_key column key rs) (ap not stays))
      ∙ cond_false (has_key column key r) (Some r) (row_with column key (without_key column key rs)) stays
      ∙ row_with-without_key_same column key rs
]

-- With one more row, each other key has the row that it had.
pub row_with-in_key_order : (column : ℕ) (row : List Value) (other : Value) (rows : List (List Value)) → same_value (key_in column row) other ≡ false
    → row_with column other (in_key_order column row rows) ≡ row_with column other rows
row_with-in_key_order column row other [] apart = cond_false (has_key column other row) (Some row) None apart
row_with-in_key_order column row other (r ∷ rs) apart =
    elim (cases (is_lt (value_cmp (key_in column row) (key_in column r)))) [
      | inl before ↦
          ap (row_with column other) (cond_true (is_lt (value_cmp (key_in column row) (key_in column r))) (row ∷ r ∷ rs) (r ∷ in_key_order column row rs) before)
          ∙ cond_false (has_key column other row) (Some row) (row_with column other (r ∷ rs)) apart
      | inr past ↦
          ap (row_with column other) (cond_false (is_lt (value_cmp (key_in column row) (key_in column r))) (row ∷ r ∷ rs) (r ∷ in_key_order column row rs) past)
          ∙ ap (cond (has_key column other r) (Some r)) (row_with-in_key_order column row other rs apart)
    ]

-- And its key, which was free, has the row.
pub row_with-in_key_order_same : (column : ℕ) (row : List Value) (rows : List (List Value)) → row_with column (key_in column row) rows ≡ None
    → row_with column (key_in column row) (in_key_order column row rows) ≡ Some row
row_with-in_key_order_same column row [] free = cond_true (has_key column (key_in column row) row) (Some row) None (same_value_refl (key_in column row))
row_with-in_key_order_same column row (r ∷ rs) free =
    elim (cases (is_lt (value_cmp (key_in column row) (key_in column r)))) [
      | inl before ↦
          ap (row_with column (key_in column row)) (cond_true (is_lt (value_cmp (key_in column row) (key_in column r))) (row ∷ r ∷ rs) (r ∷ in_key_order column row rs) before)
          ∙ cond_true (has_key column (key_in column row) row) (Some row) (row_with column (key_in column row) (r ∷ rs)) (same_value_refl (key_in column row))
      | inr past ↦
          ap (row_with column (key_in column row)) (cond_false (is_lt (value_cmp (key_in column row) (key_in column r))) (row ∷ r ∷ rs) (r ∷ in_key_order column row rs) past)
          ∙ elim (cases (has_key column (key_in column row) r)) [
            | inl here ↦ absurd (full (sym (cond_true (has_key column (key_in column row) r) (Some r) (row_with column (key_in column row) rs) here) ∙ free))
            | inr not_here ↦
                cond_false (has_key column (key_in column row) r) (Some r) (row_with column (key_in column row) (in_key_order column row rs)) not_here
                ∙ row_with-in_key_order_same column row rs (sym (cond_false (has_key column (key_in column row) r) (Some r) (row_with column (key_in column row) rs) not_here) ∙ free)
          ]
    ]
  where
    full : {x : List Value} → Some x ≡ None → ⊥
    full q = cc

-- Without the rows of one key, what is found for any key.
pub row_with-without : (column : ℕ) (key other : Value) (rows : List (List Value))
    → row_with column other (without_key column key rows) ≡ cond (same_value key other) None (row_with column other rows)
row_with-without column key other rows = elim (cases (same_value key other)) [
  | inl same ↦
      ap (λ k. row_with column other (without_key column k rows)) (same_value-true key other same)
      ∙ row_with-without_key_same column other rows
      ∙ sym (cond_true (same_value key other) None (row_with column other rows) same)
  | inr apart ↦ row_with-without_key column key other rows apart ∙ sym (cond_false (same_value key other) None (row_with column other rows) apart)
]

-- A Delete of a row that is not there does not apply.
pub deleted-not_there : (column place : ℕ) (before : List Value) (rows : List (List Value)) → is_row (row_with column (key_in column before) rows) before ≡ false
    → deleted (Some column) place before rows ≡ None
deleted-not_there column place before rows h =
    cond_false (is_row (row_with column (key_in column before) rows) before) (Some (without_key column (key_in column before) rows)) None h

-- A Delete of a row that is there leaves those of other keys.
pub deleted-there : (column place : ℕ) (before : List Value) (rows : List (List Value)) → is_row (row_with column (key_in column before) rows) before ≡ true
    → deleted (Some column) place before rows ≡ Some (without_key column (key_in column before) rows)
deleted-there column place before rows h =
    cond_true (is_row (row_with column (key_in column before) rows) before) (Some (without_key column (key_in column before) rows)) None h

-- An Update of a row that is not there does not apply.
pub updated-not_there : (column place : ℕ) (before after : List Value) (rows : List (List Value)) → is_row (row_with column (key_in column before) rows) before ≡ false
    → updated (Some column) place before after rows ≡ None
updated-not_there column place before after rows h = ap (option_and_then (inserted (Some column) after)) (deleted-not_there column place before rows h)

-- An Update of a row that is there is an Insert among those of other keys.
pub updated-there : (column place : ℕ) (before after : List Value) (rows : List (List Value)) → is_row (row_with column (key_in column before) rows) before ≡ true
    → updated (Some column) place before after rows ≡ inserted (Some column) after (without_key column (key_in column before) rows)
updated-there column place before after rows h = ap (option_and_then (inserted (Some column) after)) (deleted-there column place before rows h)

-- An Insert of a key that is there does not apply.
pub inserted-there : (column : ℕ) (row : List Value) (rows : List (List Value)) → is_some (row_with column (key_in column row) rows) ≡ true
    → inserted (Some column) row rows ≡ None
inserted-there column row rows h = cond_true (is_some (row_with column (key_in column row) rows)) None (Some (in_key_order column row rows)) h

-- An Insert of a key that is free adds the row.
pub inserted-free : (column : ℕ) (row : List Value) (rows : List (List Value)) → is_some (row_with column (key_in column row) rows) ≡ false
    → inserted (Some column) row rows ≡ Some (in_key_order column row rows)
inserted-free column row rows h = cond_false (is_some (row_with column (key_in column row) rows)) None (Some (in_key_order column row rows)) h

-- With one more row, whose key was free, what is found for any key.
pub row_with-more : (column : ℕ) (row : List Value) (other : Value) (rows : List (List Value)) → row_with column (key_in column row) rows ≡ None
    → row_with column other (in_key_order column row rows) ≡ cond (same_value (key_in column row) other) (Some row) (row_with column other rows)
row_with-more column row other rows free = elim (cases (same_value (key_in column row) other)) [
  | inl same ↦
      ap (λ k. row_with column k (in_key_order column row rows)) (sym (same_value-true (key_in column row) other same))
      ∙ row_with-in_key_order_same column row rows free
      ∙ sym (cond_true (same_value (key_in column row) other) (Some row) (row_with column other rows) same)
  | inr apart ↦ row_with-in_key_order column row other rows apart ∙ sym (cond_false (same_value (key_in column row) other) (Some row) (row_with column other rows) apart)
]
