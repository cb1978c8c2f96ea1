-- What a search by key tells: which row has the key, where a row goes, and which is the first above.
use Rattle.std.proofs.Common.{◌≡◌, ◌≢◌, ◌⊎◌, inl, inr, ℕ, ◌+◌, ◌-◌, ◌<◌, ◌≤◌, zero, suc, List, [], ◌∷◌, length, get_or, Option, Some, None, Bool, true, false, cond, refl, sym, ap, ◌∙◌, arith, subst}
use Rattle.std.specs.Prelude.{is_some, nat_lt, set, insert, remove, slice_get, option_and_then, Result, Ok, Err}
use Rattle.std.specs.Bool.{then_some}
use Rattle.std.specs.Result.{result_ok, result_err}
use Rattle.std.specs.List.{position, position_or_len}
use Rattle.std.specs.Ordering.{is_lt, is_eq, ordering_reverse}
use Rattle.std.specs.declared.cmp.Ordering.{Ordering}
use Rattle.std.specs.declared.cmp.Ordering.TheVariants.{Less, Equal, Greater}
use Rattle.std.proofs.lemmas.Bool.{cases_order}
use Rattle.std.proofs.lemmas.List.Edits.{length-remove, get_or-remove_below, get_or-remove_above}
use Rattle.std.proofs.lemmas.List.Sums.{position_or_len_is}
use Rattle.std.proofs.lemmas.Option.{slice_get-get_or}
use Rattle.sql_value.specs.declared.value.Value.{Value}
use Rattle.sql_value.specs.Values.{value_cmp, same_value}
use Rattle.sql_value.proofs.OrderLemmas.{value_cmp_total}
use Rattle.sql_value.proofs.SameLemmas.{same_value-true, same_value-is_eq, same_value_refl}
use Rattle.log_tables.specs.Keys.{key_in, has_key, row_with, without_key, is_row, inserted, deleted, IsInKeyOrder, IsPlaceFor, IsOrdered}
use Rattle.log_tables.proofs.KeyLemmas.{deleted-not_there}
use Rattle.log_tables.proofs.PlaceLemmas.{rises, place-free, taken_at, row_with-at, without_key-at, inserted-place, inserted-taken}
use Rattle.row_store.specs.Rows.{is_key_above, Finds, Takes, IsAtKey, Moves, Names}
use Rattle.row_store.proofs.KeyLemmas.{in_order_without}

-- the row there has the key
pub found_there : (column : ℕ) (key : Value) (rows : List (List Value)) (i : ℕ) → i < length rows → value_cmp (key_in column (get_or rows i [])) key ≡ Equal → Finds column key rows (Ok i)
found_there column key rows i within same = (within, same_value-is_eq (key_in column (get_or rows i [])) key ∙ ap is_eq same)

-- the row with a key
pub at_by_key : (table : Option ℕ) (column : ℕ) (key : Value) (rows : List (List Value)) (r : Result ℕ ℕ) → table ≡ Some column → (IsInKeyOrder column rows → Finds column key rows r) → IsOrdered table rows → IsAtKey table key rows (result_ok r)
at_by_key table column key rows r keyed found =
    subst (λ (t : Option ℕ). IsOrdered t rows → IsAtKey t key rows (result_ok r)) (sym keyed) (λ ordered. at r ordered (found ordered))
  where
    at : (r : Result ℕ ℕ) → IsInKeyOrder column rows → Finds column key rows r → IsAtKey (Some column) key rows (result_ok r)
    at (Ok i) ordered is = (get_or rows i [], slice_get-get_or rows i [] is.0, row_with-at column key rows i [] ordered is.0 is.1)
    at (Err i) ordered is = place-free column key rows i ordered is

-- where a row goes in a table
pub takes_by_key : (table : Option ℕ) (column : ℕ) (row : List Value) (rows : List (List Value)) (r : Result ℕ ℕ) → table ≡ Some column → (IsInKeyOrder column rows → Finds column (key_in column row) rows r) → IsOrdered table rows
    → Takes table row rows (result_err r)
takes_by_key table column row rows r keyed found =
    subst (λ (t : Option ℕ). IsOrdered t rows → Takes t row rows (result_err r)) (sym keyed) (λ ordered. takes r ordered (found ordered))
  where
    takes : (r : Result ℕ ℕ) → IsInKeyOrder column rows → Finds column (key_in column row) rows r → Takes (Some column) row rows (result_err r)
    takes (Ok i) ordered is = inserted-taken column row rows (taken_at column (key_in column row) rows i [] is.0 is.1)
    takes (Err i) ordered is = inserted-place column row rows i ordered is

-- A key that the row at a place has goes there, once that row is out.
pub same_place : (column : ℕ) (key : Value) (rows : List (List Value)) (i : ℕ) → IsInKeyOrder column rows → i < length rows → has_key column key (get_or rows i []) ≡ true → IsPlaceFor column key (remove rows i) i
same_place column key [] i ordered within own = absurd (omega (arith, within))
same_place column key (r ∷ []) zero ordered within own = tt
same_place column key (r ∷ s ∷ rest) zero ordered within own = subst (λ (k : Value). value_cmp k (key_in column s) ≡ Less) (same_value-true (key_in column r) key own) ordered.0.0
same_place column key (r ∷ rs) (suc i) ordered within own = (
  subst (λ (k : Value). value_cmp (key_in column r) k ≡ Less) (same_value-true (key_in column (get_or rs i [])) key own) (rises column (r ∷ rs) 0 (suc i) [] ordered (omega arith) within),
  same_place column key rs i ordered.1 (omega (arith, within)) own,
)

-- Where a row is out, a key that goes before it goes there still,
place_before : (column : ℕ) (key : Value) (rows : List (List Value)) (i p : ℕ) → IsInKeyOrder column rows → i < length rows → p ≤ i → IsPlaceFor column key rows p → IsPlaceFor column key (remove rows i) p
place_before column key [] i p ordered within low is = absurd (omega (arith, within))
place_before column key (r ∷ []) zero zero ordered within low is = tt
place_before column key (r ∷ s ∷ rest) zero zero ordered within low is = value_cmp_total.trans key (key_in column r) (key_in column s) is ordered.0.0
place_before column key (r ∷ rs) zero (suc p) ordered within low is = absurd (omega (arith, low))
place_before column key (r ∷ rs) (suc i) zero ordered within low is = is
place_before column key (r ∷ rs) (suc i) (suc p) ordered within low is = (is.0, place_before column key rs i p ordered.1 (omega (arith, within)) (omega (arith, low)) is.1)

-- and one that goes behind it goes one place before that.
place_behind : (column : ℕ) (key : Value) (rows : List (List Value)) (i p : ℕ) → i ≤ p → IsPlaceFor column key rows (suc p) → IsPlaceFor column key (remove rows i) p
place_behind column key [] i p low is = absurd is
place_behind column key (r ∷ rs) zero p low is = is.1
place_behind column key (r ∷ rs) (suc i) zero low is = absurd (omega (arith, low))
place_behind column key (r ∷ rs) (suc i) (suc p) low is = (is.0, place_behind column key rs i p (omega (arith, low)) is.1)

-- the key of another row stays taken
taken_beside : (column : ℕ) (key : Value) (rows : List (List Value)) (i j : ℕ) → i < length rows → j < length rows → j ≢ i → has_key column key (get_or rows j []) ≡ true → is_some (row_with column key (remove rows i)) ≡ true
taken_beside column key rows i j within there other own = go (cases_order i j)
  where
    less : length (remove rows i) + 1 ≡ length rows
    less = length-remove rows i within

    go : (i ≡ j) ⊎ ((i < j) ⊎ (j < i)) → is_some (row_with column key (remove rows i)) ≡ true
    go (inl same) = absurd (other (sym same))
    go (inr (inl behind)) =
        let next : j - 1 + 1 ≡ j = omega (arith, behind) in
        taken_at column key (remove rows i) (j - 1) [] (omega (arith, less, there, behind))
        (ap (has_key column key) (get_or-remove_above rows i [] (j - 1) (omega (arith, behind)) within ∙ ap (λ (k : ℕ). get_or rows k []) next) ∙ own)
    go (inr (inr before)) =
        taken_at column key (remove rows i) j [] (omega (arith, less, within, before)) (ap (has_key column key) (get_or-remove_below rows i [] j before within) ∙ own)

-- a row in place of one with its key
pub moves_same : (column : ℕ) (row : List Value) (rows : List (List Value)) (i j : ℕ) → IsInKeyOrder column rows → i < length rows → Finds column (key_in column row) rows (Ok j) → j ≡ i → Moves (Some column) i row rows (Some i)
moves_same column row rows i j ordered within found same =
    inserted-place column row (remove rows i) i (in_order_without column rows i ordered within)
    (same_place column (key_in column row) rows i ordered within (subst (λ (k : ℕ). has_key column (key_in column row) (get_or rows k []) ≡ true) same found.1))

-- another has its key
pub moves_nowhere : (column : ℕ) (row : List Value) (rows : List (List Value)) (i j : ℕ) → i < length rows → Finds column (key_in column row) rows (Ok j) → j ≢ i → Moves (Some column) i row rows None
moves_nowhere column row rows i j within found other = inserted-taken column row (remove rows i) (taken_beside column (key_in column row) rows i j within found.0 other found.1)

-- none has it
pub moves_behind : (column : ℕ) (row : List Value) (rows : List (List Value)) (i j : ℕ) → IsInKeyOrder column rows → i < length rows → Finds column (key_in column row) rows (Err j) → i < j → Moves (Some column) i row rows (Some (j - 1))
moves_behind column row rows i j ordered within found behind =
    let next : j ≡ suc (j - 1) = omega (arith, behind) in
    inserted-place column row (remove rows i) (j - 1) (in_order_without column rows i ordered within)
    (place_behind column (key_in column row) rows i (j - 1) (omega (arith, behind)) (subst (IsPlaceFor column (key_in column row) rows) next found))

pub moves_before : (column : ℕ) (row : List Value) (rows : List (List Value)) (i j : ℕ) → IsInKeyOrder column rows → i < length rows → Finds column (key_in column row) rows (Err j) → j ≤ i → Moves (Some column) i row rows (Some j)
moves_before column row rows i j ordered within found low =
    inserted-place column row (remove rows i) j (in_order_without column rows i ordered within) (place_before column (key_in column row) rows i j ordered within low found)

-- there is no key
set_there : (rows : List (List Value)) (i : ℕ) (row : List Value) → i < length rows → set rows i row ≡ insert (remove rows i) i row
set_there [] i row within = absurd (omega (arith, within))
set_there (r ∷ rs) zero row within = refl
set_there (r ∷ rs) (suc i) row within = ap (λ (l : List (List Value)). r ∷ l) (set_there rs i row (omega (arith, within)))

pub moves_there : (table : Option ℕ) (rows : List (List Value)) (i : ℕ) (row : List Value) → table ≡ None → i < length rows → Moves table i row rows (Some i)
moves_there table rows i row keyless within = subst (λ (t : Option ℕ). Moves t i row rows (Some i)) (sym keyless) (ap (λ (l : List (List Value)). Some l) (set_there rows i row within))

-- The rows before the place of a key have lower keys, and the next has a higher one.
before_place : (column : ℕ) (key : Value) (rows : List (List Value)) (p k : ℕ) → IsPlaceFor column key rows p → k < p → value_cmp (key_in column (get_or rows k [])) key ≡ Less
before_place column key [] zero k is low = absurd (omega (arith, low))
before_place column key [] (suc p) k is low = absurd is
before_place column key (r ∷ rs) zero k is low = absurd (omega (arith, low))
before_place column key (r ∷ rs) (suc p) zero is low = is.0
before_place column key (r ∷ rs) (suc p) (suc k) is low = before_place column key rs p k is.1 (omega (arith, low))

next_above : (column : ℕ) (key : Value) (rows : List (List Value)) (p : ℕ) → IsPlaceFor column key rows p → p < length rows → value_cmp key (key_in column (get_or rows p [])) ≡ Less
next_above column key [] p is within = absurd (omega (arith, within))
next_above column key (r ∷ rs) zero is within = is
next_above column key (r ∷ rs) (suc p) is within = next_above column key rs p is.1 (omega (arith, within))

place_within : (column : ℕ) (key : Value) (rows : List (List Value)) (p : ℕ) → IsPlaceFor column key rows p → p ≤ length rows
place_within column key [] zero is = omega arith
place_within column key [] (suc p) is = absurd is
place_within column key (r ∷ rs) zero is = omega arith
place_within column key (r ∷ rs) (suc p) is = let le = place_within column key rs p is.1 in omega (arith, le)

not_above : (column : ℕ) (key : Value) (row : List Value) → value_cmp (key_in column row) key ≡ Less → is_key_above column key row ≡ false
not_above column key row low = ap is_lt (value_cmp_total.antisymm key (key_in column row) ∙ ap ordering_reverse low)

no_less : (o : Ordering) → is_eq o ≡ true → is_lt o ≡ false
no_less Less h = cc
no_less Equal h = refl
no_less Greater h = refl

own_not_above : (column : ℕ) (key : Value) (row : List Value) → has_key column key row ≡ true → is_key_above column key row ≡ false
own_not_above column key row own =
    let same = same_value-true (key_in column row) key own in
    no_less (value_cmp key (key_in column row)) (sym (same_value-is_eq key (key_in column row)) ∙ ap (λ (k : Value). same_value k (key_in column row)) (sym same) ∙ same_value_refl (key_in column row))

-- how many have a key or a lower one, where a row has it
pub up_to_own : (column : ℕ) (key : Value) (rows : List (List Value)) (i : ℕ) → IsInKeyOrder column rows → Finds column key rows (Ok i) → i + 1 ≡ position_or_len (is_key_above column key) rows
up_to_own column key rows i ordered found =
    sym (position_or_len_is (is_key_above column key) rows (i + 1) [] (let lt = found.0 in omega (arith, lt)) (λ k low. low_ones k (cases_order k i) low)
    (λ within.
    ap is_lt (subst (λ (j : Value). value_cmp j (key_in column (get_or rows (i + 1) [])) ≡ Less) at (rises column rows i (i + 1) [] ordered (omega arith) within))))
  where
    at : key_in column (get_or rows i []) ≡ key
    at = same_value-true (key_in column (get_or rows i [])) key found.1

    low_ones : (k : ℕ) → (k ≡ i) ⊎ ((k < i) ⊎ (i < k)) → k < i + 1 → is_key_above column key (get_or rows k []) ≡ false
    low_ones k (inl same) low = own_not_above column key (get_or rows k []) (subst (λ (n : ℕ). has_key column key (get_or rows n []) ≡ true) (sym same) found.1)
    low_ones k (inr (inl before)) low =
        not_above column key (get_or rows k []) (subst (λ (j : Value). value_cmp (key_in column (get_or rows k [])) j ≡ Less) at (rises column rows k i [] ordered before found.0))
    low_ones k (inr (inr behind)) low = absurd (omega (arith, low, behind))

-- and where none has it
pub up_to_place : (column : ℕ) (key : Value) (rows : List (List Value)) (i : ℕ) → Finds column key rows (Err i) → i ≡ position_or_len (is_key_above column key) rows
up_to_place column key rows i found =
    sym (position_or_len_is (is_key_above column key) rows i [] (place_within column key rows i found) (λ k low. not_above column key (get_or rows k []) (before_place column key rows i k found low))
    (λ within. ap is_lt (next_above column key rows i found within)))

some_where : (b : Bool) (n : ℕ) → then_some b n ≡ cond b (Some n) None
some_where true n = refl
some_where false n = refl

-- so the first of the others is the first above
pub first_is : (column : ℕ) (key : Value) (rows : List (List Value)) (n len : ℕ) (out : Option ℕ) → n ≡ position_or_len (is_key_above column key) rows → len ≡ length rows → out ≡ then_some (nat_lt n len) n
    → out ≡ position (is_key_above column key) rows
first_is column key rows n len out n_is len_is is =
    is ∙ some_where (nat_lt n len) n ∙ ap (λ (k : ℕ). cond (nat_lt k len) (Some k) None) n_is
    ∙ ap (λ (k : ℕ). cond (nat_lt (position_or_len (is_key_above column key) rows) k) (Some (position_or_len (is_key_above column key) rows)) None) len_is

-- where a Delete or an Update looks, by key
changed_if : (c : ℕ) (after : List Value) (b : Bool) (rest : List (List Value)) → option_and_then (inserted (Some c) after) (cond b (Some rest) None) ≡ cond b (inserted (Some c) after rest) None
changed_if c after true rest = refl
changed_if c after false rest = refl

names_by_key : (column named : ℕ) (row : List Value) (rows : List (List Value)) (i : ℕ) → IsInKeyOrder column rows → Finds column (key_in column row) rows (Ok i) → Names (Some column) named row rows (Some i)
names_by_key column named row rows i ordered found =
    let key = key_in column row in
    let row_is = ap (λ (o : Option (List Value)). is_row o row) (row_with-at column key rows i [] ordered found.0 found.1 ∙ sym (slice_get-get_or rows i [] found.0)) in
    let is : deleted (Some column) named row rows ≡ cond (is_row (slice_get rows i) row) (Some (remove rows i)) None =
    ap (λ (b : Bool). cond b (Some (without_key column key rows)) None) row_is
    ∙ ap (λ (l : List (List Value)). cond (is_row (slice_get rows i) row) (Some l) None) (without_key-at column key rows i [] ordered found.0 found.1) in
    (is, λ after. ap (option_and_then (inserted (Some column) after)) is ∙ changed_if column after (is_row (slice_get rows i) row) (remove rows i))

pub names_keyed : (table : Option ℕ) (column named : ℕ) (row : List Value) (rows : List (List Value)) (i : ℕ) → table ≡ Some column → (IsInKeyOrder column rows → Finds column (key_in column row) rows (Ok i)) → IsOrdered table rows
    → Names table named row rows (Some i)
names_keyed table column named row rows i keyed found =
    subst (λ (t : Option ℕ). IsOrdered t rows → Names t named row rows (Some i)) (sym keyed) (λ ordered. names_by_key column named row rows i ordered (found ordered))

-- no row has the key
pub names_nowhere : (table : Option ℕ) (column named : ℕ) (row : List Value) (rows : List (List Value)) (i : ℕ) → table ≡ Some column → (IsInKeyOrder column rows → Finds column (key_in column row) rows (Err i)) → IsOrdered table rows
    → Names table named row rows None
names_nowhere table column named row rows i keyed found =
    subst (λ (t : Option ℕ). IsOrdered t rows → Names t named row rows None) (sym keyed) (λ ordered.
    let is = deleted-not_there column named row rows (ap (λ (o : Option (List Value)). is_row o row) (place-free column (key_in column row) rows i ordered (found ordered))) in
    (is, λ after. ap (option_and_then (inserted (Some column) after)) is))
