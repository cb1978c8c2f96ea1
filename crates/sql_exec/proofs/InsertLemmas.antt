-- A row more in a live table.
use Rattle.std.proofs.Common.{◌≡◌, ◌+◌, ℕ, List, [], ◌∷◌, Option, Some, None, false, refl, sym, ap, ◌∙◌, inl, inr, arith}
use Rattle.std.specs.Prelude.{sum_by, is_some, unwrap_or}
use Rattle.std.specs.Ordering.{is_lt}
use Rattle.std.proofs.lemmas.List.Sums.{sum_by-append, sum_by-cons}
use Rattle.sql_value.specs.declared.value.Value.{Value}
use Rattle.sql_value.specs.Values.{value_cmp}
use Rattle.log_tables.specs.Keys.{key_in, row_with, in_key_order, inserted}
use Rattle.log_tables.proofs.PartLemmas.{cases, cond_true, cond_false}
use Rattle.engine_api.specs.Live.{is_key_taken}

key_order_sum : (f : List Value → ℕ) (column : ℕ) (row : List Value) (rows : List (List Value)) → sum_by f (in_key_order column row rows) ≡ sum_by f rows + f row
key_order_sum f column row [] = omega arith
key_order_sum f column row (it ∷ rest) = elim (cases (is_lt (value_cmp (key_in column row) (key_in column it)))) [
  | inl is ↦
      let now = ap (sum_by f) (cond_true (is_lt (value_cmp (key_in column row) (key_in column it))) (row ∷ it ∷ rest) (it ∷ in_key_order column row rest) is) in
      let one = sum_by-cons f row (it ∷ rest) in
      omega (arith, now, one)
  | inr other ↦
      let now = ap (sum_by f) (cond_false (is_lt (value_cmp (key_in column row) (key_in column it))) (row ∷ it ∷ rest) (it ∷ in_key_order column row rest) other) in
      let more = key_order_sum f column row rest in
      let here = sum_by-cons f it (in_key_order column row rest) in
      let was = sum_by-cons f it rest in
      omega (arith, now, more, here, was)
]

-- where no row has its key, a row is put in
pub inserted_free : (key : Option ℕ) (row : List Value) (rows : List (List Value)) → is_key_taken key rows row ≡ false → inserted key row rows ≡ Some (unwrap_or (inserted key row rows) rows)
inserted_free None row rows free = refl
inserted_free (Some column) row rows free =
    let is = cond_false (is_some (row_with column (key_in column row) rows)) None (Some (in_key_order column row rows)) free in
    is ∙ sym (ap (λ o. Some (unwrap_or o rows)) is)

-- and adds to a sum over the rows
pub inserted_sum : (f : List Value → ℕ) (key : Option ℕ) (row : List Value) (rows : List (List Value)) → is_key_taken key rows row ≡ false
    → sum_by f (unwrap_or (inserted key row rows) rows) ≡ sum_by f rows + f row
inserted_sum f None row rows free =
    let more = sum_by-append f rows (row ∷ []) in
    omega (arith, more)
inserted_sum f (Some column) row rows free =
    ap (λ o. sum_by f (unwrap_or o rows)) (cond_false (is_some (row_with column (key_in column row) rows)) None (Some (in_key_order column row rows)) free)
    ∙ key_order_sum f column row rows
