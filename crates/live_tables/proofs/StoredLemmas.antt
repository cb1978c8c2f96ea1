-- Rows found by binary search, and where a row goes among rows in key order.
use Rattle.std.proofs.Common.{◌≡◌, ◌≢◌, ℕ, ◌<◌, ◌≤◌, zero, suc, List, [], ◌∷◌, length, get_or, Some, None, true, false, refl, sym, ap, ◌∙◌, arith, inl, inr, subst, ◌⊎◌}
use Rattle.std.specs.Prelude.{Option, Bool, cond, is_some, nat_eq, slice_get, unwrap_or, set}
use Rattle.std.specs.List.{insert, remove}
use Rattle.std.specs.List.Sorted.{IsPartitionedBy}
use Rattle.std.specs.Ordering.{is_lt, is_eq, ordering_reverse, ordering_index}
use Rattle.std.specs.declared.cmp.Ordering.{Ordering}
use Rattle.std.specs.declared.cmp.Ordering.TheVariants.{Less, Equal, Greater}
use Rattle.std.proofs.lemmas.Bool.{cases_order, cases_lt, cond-true, cond-false}
use Rattle.std.proofs.lemmas.Option.{slice_get-get_or, slice_get_past}
use Rattle.sql_value.specs.declared.value.Value.{Value}
use Rattle.sql_value.specs.Values.{value_cmp}
use Rattle.sql_value.proofs.OrderLemmas.{value_cmp_total}
use Rattle.sql_value.proofs.SameLemmas.{less, less-other, same_value-is_eq, same_value_refl}
use Rattle.row_format.specs.Rows.{same_row}
use Rattle.row_format.proofs.SameLemmas.{same_row-true}
use Rattle.log_tables.specs.declared.table.Table.{Table}
use Rattle.log_tables.specs.Changes.{with_rows}
use Rattle.log_tables.specs.Keys.{key_in, has_key, row_with, is_row, inserted, updated, IsInKeyOrder, IsPlaceFor, IsOrdered}
use Rattle.log_tables.proofs.OrderLemmas.{IsOrdered-inserted, IsOrdered-deleted, IsOrdered-updated, IsInKeyOrder-without_key}
use Rattle.log_tables.proofs.KeyLemmas.{deleted-there, deleted-not_there, updated-there, updated-not_there}
use Rattle.log_tables.proofs.PlaceLemmas.{rises, place_from, place-free, taken_at, inserted-place, inserted-taken, without_key-at}
use Rattle.live_tables.specs.Stored.{is_key_below, AreParted, Finds, Takes, moved, StandsAt}

-- The rows with lower keys stand before the others.
pub rows_partitioned : (column : ℕ) (key : Value) (rows : List (List Value)) → IsInKeyOrder column rows → IsPartitionedBy (is_key_below column key) rows
rows_partitioned column key rows ordered = λ i j d before within low. go i j d before within low (cases_order i j)
  where
    go : (i j : ℕ) (d : List Value) → i ≤ j → j < length rows → is_key_below column key (get_or rows j d) ≡ true → (i ≡ j) ⊎ ((i < j) ⊎ (j < i)) → is_key_below column key (get_or rows i d) ≡ true
    go i j d before within low (inl same) = subst (λ k. is_key_below column key (get_or rows k d) ≡ true) (sym same) low
    go i j d before within low (inr (inl less_than)) =
        let rise = rises column rows i j d ordered less_than within in
        let below = less (value_cmp (key_in column (get_or rows j d)) key) low in
        ap is_lt (value_cmp_total.trans (key_in column (get_or rows i d)) (key_in column (get_or rows j d)) key rise below)
    go i j d before within low (inr (inr more)) = absurd (omega arith)

greater : (o : Ordering) → is_lt o ≡ false → o ≢ Equal → ordering_reverse o ≡ Less
greater Less low other = cc
greater Equal low other = absurd (other refl)
greater Greater low other = refl

-- Where the rows with lower keys end, and the next does not have this key, is the place for it.
pub place_found : (column : ℕ) (key : Value) (rows : List (List Value)) (place : ℕ) → AreParted column key rows place → place ≤ length rows
    → (place < length rows → value_cmp (key_in column (get_or rows place [])) key ≢ Equal) → IsPlaceFor column key rows place
place_found column key rows place point within other =
    place_from column key rows place [] (omega arith)
    (λ k h. less (value_cmp (key_in column (get_or rows k [])) key) (point.0 k [] (omega arith) h))
    (λ h.
    value_cmp_total.antisymm key (key_in column (get_or rows place []))
    ∙ greater (value_cmp (key_in column (get_or rows place [])) key) (point.1 place [] (omega arith) (omega arith)) (other (omega arith)))

-- Where a row has this key, it is taken.
pub key_found : (column : ℕ) (key : Value) (rows : List (List Value)) (place : ℕ) → place < length rows
    → value_cmp (key_in column (get_or rows place [])) key ≡ Equal → is_some (row_with column key rows) ≡ true
key_found column key rows place within same =
    taken_at column key rows place [] within (same_value-is_eq (key_in column (get_or rows place [])) key ∙ ap is_eq same)

pub is_equal : (o : Ordering) → nat_eq (ordering_index o) 1 ≡ true → o ≡ Equal
is_equal Less h = cc
is_equal Equal h = refl
is_equal Greater h = cc

pub is_other : (o : Ordering) → nat_eq (ordering_index o) 1 ≡ false → o ≢ Equal
is_other Less h = λ e. cc
is_other Equal h = cc
is_other Greater h = λ e. cc

-- Where a row goes in key order is where it goes.
pub place_taken : (row : List Value) (rows : List (List Value)) (column : ℕ) (place : Option ℕ) → IsInKeyOrder column rows → Finds column (key_in column row) rows place
    → Takes (Some column) row rows place
place_taken row rows column (Some i) ordered found = inserted-place column row rows i ordered found
place_taken row rows column None ordered found = inserted-taken column row rows found

-- Where the next row does not have the key, none has it.
pub no_row : (column : ℕ) (key : Value) (rows : List (List Value)) (place : ℕ) → IsInKeyOrder column rows → AreParted column key rows place → place ≤ length rows
    → (place < length rows → value_cmp (key_in column (get_or rows place [])) key ≢ Equal) → row_with column key rows ≡ None
no_row column key rows place ordered point within other =
    place-free column key rows place ordered (place_found column key rows place point within other)

first_with : (column : ℕ) (key : Value) (rows : List (List Value)) (place : ℕ) → place < length rows → ((k : ℕ) → k < place → has_key column key (get_or rows k []) ≡ false)
    → has_key column key (get_or rows place []) ≡ true → row_with column key rows ≡ Some (get_or rows place [])
first_with column key [] place within others here = absurd (omega arith)
first_with column key (r ∷ rs) zero within others here = cond-true (has_key column key r) (Some r) (row_with column key rs) here
first_with column key (r ∷ rs) (suc place) within others here =
    cond-false (has_key column key r) (Some r) (row_with column key rs) (others 0 (omega arith)) ∙ first_with column key rs place (omega arith) (λ k h. others (suc k) (omega arith)) here

-- Where the next row has the key, it is the row.
pub first_row : (column : ℕ) (key : Value) (rows : List (List Value)) (place : ℕ) → AreParted column key rows place → place < length rows
    → value_cmp (key_in column (get_or rows place [])) key ≡ Equal → row_with column key rows ≡ Some (get_or rows place [])
first_row column key rows place point within same =
    first_with column key rows place within
    (λ k h. less-other (key_in column (get_or rows k [])) key (less (value_cmp (key_in column (get_or rows k [])) key) (point.0 k [] (omega arith) h)))
    (same_value-is_eq (key_in column (get_or rows place [])) key ∙ ap is_eq same)

-- The rows are in order, whether one more went in or not.
pub kept_in_order : (key : Option ℕ) (row : List Value) (rows new : List (List Value)) (i : ℕ) (went : Bool) → IsOrdered key rows → Takes key row rows (Some i)
    → new ≡ cond went (insert rows i row) rows → IsOrdered key new
kept_in_order key row rows new i true ordered takes is = subst (IsOrdered key) (sym is) (IsOrdered-inserted key row rows (insert rows i row) takes ordered)
kept_in_order key row rows new i false ordered takes is = subst (IsOrdered key) (sym is) ordered

value_same : (v : Value) → value_cmp v v ≡ Equal
value_same v = equal (value_cmp v v) (sym (same_value-is_eq v v) ∙ same_value_refl v)
  where
    equal : (o : Ordering) → is_eq o ≡ true → o ≡ Equal
    equal Less h = cc
    equal Equal h = refl
    equal Greater h = cc

other_key : (column : ℕ) (row before : List Value) → is_row (Some row) before ≡ false → (value_cmp (key_in column row) (key_in column before) ≡ Equal) ⊎ (value_cmp (key_in column row) (key_in column before) ≢ Equal)
other_key column row before other = cases_equal (value_cmp (key_in column row) (key_in column before))
  where
    cases_equal : (o : Ordering) → (o ≡ Equal) ⊎ (o ≢ Equal)
    cases_equal Less = inr (λ e. cc)
    cases_equal Equal = inl refl
    cases_equal Greater = inr (λ e. cc)

no_none : (o : Option (List Value)) (row : List Value) → o ≡ None → is_row o row ≡ false
no_none o row none = ap (λ x. is_row x row) none

-- The row that a row change names is the one at the end of those with lower keys, where that is the row.
pub stands_by_key : (column place : ℕ) (before : List Value) (rows : List (List Value)) (i : ℕ) → IsInKeyOrder column rows → AreParted column (key_in column before) rows i → i < length rows
    → same_row (get_or rows i []) before ≡ true → StandsAt (Some column) place before rows (Some i)
stands_by_key column place before rows i ordered point within same =
    let at : get_or rows i [] ≡ before = same_row-true (get_or rows i []) before same in
    let key = key_in column before in
    let equal : value_cmp (key_in column (get_or rows i [])) key ≡ Equal = ap (λ r. value_cmp (key_in column r) key) at ∙ value_same key in
    let found = first_row column key rows i point within equal in
    let there : is_row (row_with column key rows) before ≡ true = ap (λ o. is_row o before) found ∙ same in
    let own : has_key column key (get_or rows i []) ≡ true = same_value-is_eq (key_in column (get_or rows i [])) key ∙ ap is_eq equal in
    let out = without_key-at column key rows i [] ordered within own in (
      deleted-there column place before rows there ∙ ap Some out,
      λ after. updated-there column place before after rows there ∙ ap (inserted (Some column) after) out,
    )

-- Where it is another row, or there is none, the change does not apply.
pub stands_nowhere : (column place : ℕ) (before : List Value) (rows : List (List Value)) (i : ℕ) → IsInKeyOrder column rows → AreParted column (key_in column before) rows i → i ≤ length rows
    → (i < length rows → same_row (get_or rows i []) before ≡ false) → StandsAt (Some column) place before rows None
stands_nowhere column place before rows i ordered point within other =
    let none : is_row (row_with column (key_in column before) rows) before ≡ false = go (cases_lt i (length rows)) in
    (deleted-not_there column place before rows none, λ after. updated-not_there column place before after rows none)
  where
    key : Value
    key = key_in column before

    go : (i < length rows) ⊎ (length rows ≤ i) → is_row (row_with column key rows) before ≡ false
    go (inr past) = no_none (row_with column key rows) before (no_row column key rows i ordered point within (λ h. absurd (omega (arith, h, past))))
    go (inl lt) = elim (other_key column (get_or rows i []) before (other lt)) [
      | inl equal ↦ ap (λ o. is_row o before) (first_row column key rows i point lt equal) ∙ other lt
      | inr differs ↦ no_none (row_with column key rows) before (no_row column key rows i ordered point within (λ h. differs))
    ]

-- In a table without a key it is the one at its place.
pub stands_at_place : (place : ℕ) (before : List Value) (rows : List (List Value)) (i : ℕ) → i ≡ place → i < length rows → same_row (get_or rows i []) before ≡ true
    → StandsAt None place before rows (Some i)
stands_at_place place before rows i at within same =
    let there : is_row (slice_get rows place) before ≡ true = ap (λ k. is_row (slice_get rows k) before) (sym at) ∙ ap (λ o. is_row o before) (slice_get-get_or rows i [] within) ∙ same in (
      cond-true (is_row (slice_get rows place) before) (Some (remove rows place)) None there ∙ ap (λ k. Some (remove rows k)) (sym at),
      λ after. cond-true (is_row (slice_get rows place) before) (Some (set rows place after)) None there ∙ ap (λ k. Some (set rows k after)) (sym at),
    )

pub not_at_place : (place : ℕ) (before : List Value) (rows : List (List Value)) (i : ℕ) → i ≡ place → (i < length rows → same_row (get_or rows i []) before ≡ false) → StandsAt None place before rows None
not_at_place place before rows i at other =
    let none : is_row (slice_get rows place) before ≡ false = ap (λ k. is_row (slice_get rows k) before) (sym at) ∙ go (cases_lt i (length rows)) in
    (cond-false (is_row (slice_get rows place) before) (Some (remove rows place)) None none, λ after. cond-false (is_row (slice_get rows place) before) (Some (set rows place after)) None none)
  where
    go : (i < length rows) ⊎ (length rows ≤ i) → is_row (slice_get rows i) before ≡ false
    go (inl lt) = ap (λ o. is_row o before) (slice_get-get_or rows i [] lt) ∙ other lt
    go (inr past) = ap (λ o. is_row o before) (slice_get_past rows i past)

-- A row goes back where it was taken out.
pub put_back : (rows : List (List Value)) (i : ℕ) (d : List Value) → i < length rows → insert (remove rows i) i (get_or rows i d) ≡ rows
put_back [] i d within = absurd (omega (arith, within))
put_back (r ∷ rs) zero d within = refl
put_back (r ∷ rs) (suc i) d within = ap (λ (l : List (List Value)). r ∷ l) (put_back rs i d (omega (arith, within)))

-- Without one row, the rows are in order.
pub in_order_without : (column : ℕ) (rows : List (List Value)) (i : ℕ) → IsInKeyOrder column rows → i < length rows → IsInKeyOrder column (remove rows i)
in_order_without column rows i ordered within =
    let key = key_in column (get_or rows i []) in
    subst (IsInKeyOrder column) (without_key-at column key rows i [] ordered within (same_value_refl key)) (IsInKeyOrder-without_key column key rows ordered)

-- The rows are in order after a Delete, and after an Update.
pub deleted_in_order : (key : Option ℕ) (place : ℕ) (before : List Value) (rows new : List (List Value)) (i : ℕ) → IsOrdered key rows → StandsAt key place before rows (Some i) → new ≡ remove rows i
    → IsOrdered key new
deleted_in_order key place before rows new i ordered stands is = subst (IsOrdered key) (sym is) (IsOrdered-deleted key place before rows (remove rows i) stands.0 ordered)

pub moved_in_order : (key : Option ℕ) (place : ℕ) (before after : List Value) (rows new : List (List Value)) (i : ℕ) → IsOrdered key rows → StandsAt key place before rows (Some i)
    → new ≡ unwrap_or (moved key i after rows) rows → IsOrdered key new
moved_in_order key place before after rows new i ordered stands is = subst (IsOrdered key) (sym is) (go (moved key i after rows) (stands.1 after))
  where
    go : (o : Option (List (List Value))) → updated key place before after rows ≡ o → IsOrdered key (unwrap_or o rows)
    go None e = ordered
    go (Some out) e = IsOrdered-updated key place before after rows out e ordered

-- a table with other rows
pub rows_become : (t : Table) (rows : List (List Value)) (o : Option (List (List Value))) → rows ≡ unwrap_or o t.rows → record { definition = t.definition; rows = rows } ≡ with_rows t o
rows_become t rows None is = ap (λ (l : List (List Value)). record { definition = t.definition; rows = l }) is
rows_become t rows (Some out) is = ap (λ (l : List (List Value)). record { definition = t.definition; rows = l }) is

-- how far a search for the row of a row change came
abbrev pub CameAt : Option ℕ → ℕ → List Value → List (List Value) → ℕ → Type 0
CameAt None place before rows i = i ≡ place
CameAt (Some column) place before rows i = (i ≤ length rows) × (IsInKeyOrder column rows → AreParted column (key_in column before) rows i)

pub came_by_key : (key : Option ℕ) (column place : ℕ) (before : List Value) (rows : List (List Value)) (i at : ℕ) → key ≡ Some column → i ≡ at → at ≤ length rows
    → (IsInKeyOrder column rows → AreParted column (key_in column before) rows at) → CameAt key place before rows i
came_by_key key column place before rows i at keyed is within parted =
    subst (λ k. CameAt k place before rows i) (sym keyed) (subst (CameAt (Some column) place before rows) (sym is) (within, parted))

pub came_by_place : (key : Option ℕ) (place : ℕ) (before : List Value) (rows : List (List Value)) (i : ℕ) → key ≡ None → i ≡ place → CameAt key place before rows i
came_by_place key place before rows i keyed is = subst (λ k. CameAt k place before rows i) (sym keyed) is

-- The row there is the one that is named.
pub it_stands : (key : Option ℕ) (place : ℕ) (before : List Value) (rows : List (List Value)) (i : ℕ) → IsOrdered key rows → CameAt key place before rows i → i < length rows
    → same_row (get_or rows i []) before ≡ true → StandsAt key place before rows (Some i)
it_stands None place before rows i ordered came within same = stands_at_place place before rows i came within same
it_stands (Some column) place before rows i ordered came within same = stands_by_key column place before rows i ordered (came.1 ordered) within same

-- It is another, or there is none.
pub none_stands : (key : Option ℕ) (place : ℕ) (before : List Value) (rows : List (List Value)) (i : ℕ) → IsOrdered key rows → CameAt key place before rows i
    → (i < length rows → same_row (get_or rows i []) before ≡ false) → StandsAt key place before rows None
none_stands None place before rows i ordered came other = not_at_place place before rows i came other
none_stands (Some column) place before rows i ordered came other = stands_nowhere column place before rows i ordered (came.1 ordered) came.0 other

-- A row that was taken out goes where its key goes, or back where it stood.
pub moved_to : (column : ℕ) (after : List Value) (rows : List (List Value)) (i j : ℕ) (rest out : List (List Value)) → IsInKeyOrder column rows → i < length rows → rest ≡ remove rows i
    → (IsInKeyOrder column rest → Finds column (key_in column after) rest (Some j)) → out ≡ insert rest j after
    → out ≡ unwrap_or (inserted (Some column) after (remove rows i)) rows
moved_to column after rows i j rest out ordered within rest_is found is =
    let less = in_order_without column rows i ordered within in
    let takes = inserted-place column after rest j (subst (IsInKeyOrder column) (sym rest_is) less) (found (subst (IsInKeyOrder column) (sym rest_is) less)) in
    is ∙ sym (ap (λ o. unwrap_or o rows) (ap (inserted (Some column) after) (sym rest_is) ∙ takes))

pub moved_back : (column : ℕ) (before after : List Value) (rows : List (List Value)) (i : ℕ) (rest out : List (List Value)) → IsInKeyOrder column rows → i < length rows → rest ≡ remove rows i
    → (IsInKeyOrder column rest → Finds column (key_in column after) rest None) → before ≡ get_or rows i before → out ≡ insert rest i before
    → out ≡ unwrap_or (inserted (Some column) after (remove rows i)) rows
moved_back column before after rows i rest out ordered within rest_is found at is =
    let less = in_order_without column rows i ordered within in
    let takes = inserted-taken column after rest (found (subst (IsInKeyOrder column) (sym rest_is) less)) in
    is ∙ ap (λ l. insert l i before) rest_is ∙ ap (insert (remove rows i) i) at ∙ put_back rows i before within
    ∙ sym (ap (λ o. unwrap_or o rows) (ap (inserted (Some column) after) (sym rest_is) ∙ takes))
