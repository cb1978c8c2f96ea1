-- Where a row goes among rows in key order.
use Rattle.std.proofs.Common.{◌≡◌, ℕ, ◌<◌, ◌≤◌, zero, suc, List, [], ◌∷◌, length, get_or, Some, None, true, false, refl, sym, ap, subst, ◌∙◌, arith, inl, inr}
use Rattle.std.specs.Prelude.{is_some}
use Rattle.std.specs.List.{insert, remove}
use Rattle.std.specs.Ordering.{is_lt, ordering_reverse}
use Rattle.std.specs.declared.cmp.Ordering.TheVariants.{Less}
use Rattle.std.proofs.lemmas.Bool.{cond-true, cond-false, cases_Bool}
use Rattle.sql_value.specs.declared.value.Value.{Value}
use Rattle.sql_value.specs.Values.{value_cmp, same_value}
use Rattle.sql_value.proofs.OrderLemmas.{value_cmp_total}
use Rattle.sql_value.proofs.SameLemmas.{less-other, same_value-true}
use Rattle.log_tables.specs.Keys.{key_in, has_key, row_with, without_key, in_key_order, inserted, IsBelow, IsInKeyOrder, IsPlaceFor}
use Rattle.log_tables.proofs.OrderLemmas.{below_trans, below_free, kept, gone, without_below}

-- At the place for it, a row goes in.
pub in_key_order-insert : (c : ℕ) (row : List Value) (rows : List (List Value)) (place : ℕ) → IsPlaceFor c (key_in c row) rows place → in_key_order c row rows ≡ insert rows place row
in_key_order-insert c row [] zero is = refl
in_key_order-insert c row [] (suc place) is = absurd is
in_key_order-insert c row (r ∷ rs) zero is = cond-true (is_lt (value_cmp (key_in c row) (key_in c r))) (row ∷ r ∷ rs) (r ∷ in_key_order c row rs) (ap is_lt is)
in_key_order-insert c row (r ∷ rs) (suc place) is =
    let past : is_lt (value_cmp (key_in c row) (key_in c r)) ≡ false = ap is_lt (value_cmp_total.antisymm (key_in c row) (key_in c r) ∙ ap ordering_reverse is.0) in
    cond-false (is_lt (value_cmp (key_in c row) (key_in c r))) (row ∷ r ∷ rs) (r ∷ in_key_order c row rs) past ∙ ap (λ (l : List (List Value)). r ∷ l) (in_key_order-insert c row rs place is.1)

-- Where there is a place for a key, no row has it.
pub place-free : (c : ℕ) (key : Value) (rows : List (List Value)) (place : ℕ) → IsInKeyOrder c rows → IsPlaceFor c key rows place → row_with c key rows ≡ None
place-free c key [] zero ordered is = refl
place-free c key [] (suc place) ordered is = absurd is
place-free c key (r ∷ rs) zero ordered is = below_free c key (r ∷ rs) (is, below_trans c key (key_in c r) rs is ordered.0)
place-free c key (r ∷ rs) (suc place) ordered is = cond-false (has_key c key r) (Some r) (row_with c key rs) (less-other (key_in c r) key is.0) ∙ place-free c key rs place ordered.1 is.1

-- So an Insert puts the row there.
pub inserted-place : (c : ℕ) (row : List Value) (rows : List (List Value)) (place : ℕ) → IsInKeyOrder c rows → IsPlaceFor c (key_in c row) rows place
    → inserted (Some c) row rows ≡ Some (insert rows place row)
inserted-place c row rows place ordered is =
    let free = place-free c (key_in c row) rows place ordered is in
    cond-false (is_some (row_with c (key_in c row) rows)) None (Some (in_key_order c row rows)) (ap is_some free) ∙ ap Some (in_key_order-insert c row rows place is)

-- A key that a row has is taken.
pub taken_at : (c : ℕ) (key : Value) (rows : List (List Value)) (place : ℕ) (d : List Value) → place < length rows → same_value (key_in c (get_or rows place d)) key ≡ true → is_some (row_with c key rows) ≡ true
taken_at c key [] place d within same = absurd (omega arith)
taken_at c key (r ∷ rs) zero d within same = ap is_some (cond-true (has_key c key r) (Some r) (row_with c key rs) same)
taken_at c key (r ∷ rs) (suc place) d within same = elim (cases_Bool (has_key c key r)) [
  | inl here ↦ ap is_some (cond-true (has_key c key r) (Some r) (row_with c key rs) here)
  | inr other ↦ ap is_some (cond-false (has_key c key r) (Some r) (row_with c key rs) other) ∙ taken_at c key rs place d (omega arith) same
]

-- So an Insert does not apply.
pub inserted-taken : (c : ℕ) (row : List Value) (rows : List (List Value)) → is_some (row_with c (key_in c row) rows) ≡ true → inserted (Some c) row rows ≡ None
inserted-taken c row rows taken = cond-true (is_some (row_with c (key_in c row) rows)) None (Some (in_key_order c row rows)) taken

-- a key that is below all rows is below each
below_at : (c : ℕ) (key : Value) (rows : List (List Value)) (j : ℕ) (d : List Value) → IsBelow c key rows → j < length rows → value_cmp key (key_in c (get_or rows j d)) ≡ Less
below_at c key [] j d below within = absurd (omega arith)
below_at c key (r ∷ rs) zero d below within = below.0
below_at c key (r ∷ rs) (suc j) d below within = below_at c key rs j d below.1 (omega arith)

-- Of two rows in key order the first has the lower key.
pub rises : (c : ℕ) (rows : List (List Value)) (i j : ℕ) (d : List Value) → IsInKeyOrder c rows → i < j → j < length rows → value_cmp (key_in c (get_or rows i d)) (key_in c (get_or rows j d)) ≡ Less
rises c [] i j d ordered before within = absurd (omega arith)
rises c (r ∷ rs) i zero d ordered before within = absurd (omega arith)
rises c (r ∷ rs) zero (suc j) d ordered before within = below_at c (key_in c r) rs j d ordered.0 (omega arith)
rises c (r ∷ rs) (suc i) (suc j) d ordered before within = rises c rs i j d ordered.1 (omega arith) (omega arith)

-- The rows before a place have lower keys and the next has a higher one: it is the place.
pub place_from : (c : ℕ) (key : Value) (rows : List (List Value)) (place : ℕ) (d : List Value) → place ≤ length rows
    → ((k : ℕ) → k < place → value_cmp (key_in c (get_or rows k d)) key ≡ Less) → (place < length rows → value_cmp key (key_in c (get_or rows place d)) ≡ Less) → IsPlaceFor c key rows place
place_from c key [] zero d within low high = tt
place_from c key [] (suc place) d within low high = absurd (omega arith)
place_from c key (r ∷ rs) zero d within low high = high (omega arith)
place_from c key (r ∷ rs) (suc place) d within low high = (low 0 (omega arith), place_from c key rs place d (omega arith) (λ k h. low (suc k) (omega arith)) (λ h. high (omega arith)))

-- a row behind the first has another key
behind_first : (c : ℕ) (key : Value) (r : List Value) (rs : List (List Value)) (i : ℕ) (d : List Value) → IsInKeyOrder c (r ∷ rs) → i < length rs → has_key c key (get_or rs i d) ≡ true → has_key c key r ≡ false
behind_first c key r rs i d ordered within own =
    let at : key_in c (get_or rs i d) ≡ key = same_value-true (key_in c (get_or rs i d)) key own in
    less-other (key_in c r) key (ap (value_cmp (key_in c r)) (sym at) ∙ below_at c (key_in c r) rs i d ordered.0 within)

-- The row at the place of a key is the one that has it.
pub row_with-at : (c : ℕ) (key : Value) (rows : List (List Value)) (i : ℕ) (d : List Value) → IsInKeyOrder c rows → i < length rows → has_key c key (get_or rows i d) ≡ true
    → row_with c key rows ≡ Some (get_or rows i d)
row_with-at c key [] i d ordered within own = absurd (omega arith)
row_with-at c key (r ∷ rs) zero d ordered within own = cond-true (has_key c key r) (Some r) (row_with c key rs) own
row_with-at c key (r ∷ rs) (suc i) d ordered within own =
    cond-false (has_key c key r) (Some r) (row_with c key rs) (behind_first c key r rs i d ordered (omega arith) own) ∙ row_with-at c key rs i d ordered.1 (omega arith) own

-- Without the key, the row at its place is taken out.
pub without_key-at : (c : ℕ) (key : Value) (rows : List (List Value)) (i : ℕ) (d : List Value) → IsInKeyOrder c rows → i < length rows → has_key c key (get_or rows i d) ≡ true
    → without_key c key rows ≡ remove rows i
without_key-at c key [] i d ordered within own = absurd (omega arith)
without_key-at c key (r ∷ rs) zero d ordered within own =
    gone c key r rs own ∙ without_below c key rs (subst (λ (k : Value). IsBelow c k rs) (same_value-true (key_in c r) key own) ordered.0)
without_key-at c key (r ∷ rs) (suc i) d ordered within own =
    kept c key r rs (behind_first c key r rs i d ordered (omega arith) own) ∙ ap (λ (l : List (List Value)). r ∷ l) (without_key-at c key rs i d ordered.1 (omega arith) own)
