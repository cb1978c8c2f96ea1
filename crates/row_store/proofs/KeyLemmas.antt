-- Rows found by binary search, and where a row goes among rows in key order.
use Rattle.std.proofs.Common.{◌≡◌, ◌≢◌, ◌⊎◌, inl, inr, Bool, ℕ, ◌+◌, ◌<◌, ◌≤◌, zero, suc, List, [], ◌∷◌, length, get_or, Option, Some, None, true, false, refl, sym, ap, ◌∙◌, arith, subst}
use Rattle.std.specs.Prelude.{nat_eq, slice_get}
use Rattle.std.specs.List.{insert, remove, AllWithin}
use Rattle.std.specs.List.Sorted.{IsPartitionedBy}
use Rattle.std.specs.Ordering.{is_lt, ordering_reverse, ordering_index}
use Rattle.std.specs.declared.cmp.Ordering.{Ordering}
use Rattle.std.specs.declared.cmp.Ordering.TheVariants.{Less, Equal, Greater}
use Rattle.std.proofs.lemmas.Bool.{cases_order}
use Rattle.std.proofs.lemmas.List.{get_or-map, get_or_default}
use Rattle.std.proofs.lemmas.List.Edits.{insert_end}
use Rattle.sql_value.specs.declared.value.Value.{Value}
use Rattle.sql_value.specs.Values.{value_cmp}
use Rattle.sql_value.proofs.OrderLemmas.{value_cmp_total}
use Rattle.sql_value.proofs.SameLemmas.{less, same_value_refl}
use Rattle.log_tables.specs.Keys.{key_in, IsInKeyOrder, IsPlaceFor}
use Rattle.log_tables.proofs.OrderLemmas.{IsInKeyOrder-without_key}
use Rattle.log_tables.proofs.PlaceLemmas.{rises, place_from, without_key-at}
use Rattle.row_store.specs.Slots.{row_in, rows_in}
use Rattle.row_store.specs.Rows.{is_key_below, AreParted, Takes}

-- The rows with lower keys stand before the others.
pub rows_partitioned : (column : ℕ) (key : Value) (rows : List (List Value)) → IsInKeyOrder column rows → IsPartitionedBy (is_key_below column key) rows
rows_partitioned column key rows ordered = λ i j d before within low. go i j d before within low (cases_order i j)
  where
    go : (i j : ℕ) (d : List Value) → i ≤ j → j < length rows → is_key_below column key (get_or rows j d) ≡ true → (i ≡ j) ⊎ ((i < j) ⊎ (j < i)) → is_key_below column key (get_or rows i d) ≡ true
    go i j d before within low (inl same) = subst (λ k. is_key_below column key (get_or rows k d) ≡ true) (sym same) low
    go i j d before within low (inr (inl less_than)) =
        let rise = rises column rows i j d ordered less_than within in
        let below = less (value_cmp (key_in column (get_or rows j d)) key) low in
        ap is_lt (value_cmp_total.trans (key_in column (get_or rows i d)) (key_in column (get_or rows j d)) key rise below)
    go i j d before within low (inr (inr more)) = absurd (omega arith)

greater : (o : Ordering) → is_lt o ≡ false → o ≢ Equal → ordering_reverse o ≡ Less
greater Less low other = cc
greater Equal low other = absurd (other refl)
greater Greater low other = refl

-- Where the rows with lower keys end, and the next does not have this key, is the place for it.
pub place_found : (column : ℕ) (key : Value) (rows : List (List Value)) (place : ℕ) → AreParted column key rows place → place ≤ length rows
    → (place < length rows → value_cmp (key_in column (get_or rows place [])) key ≢ Equal) → IsPlaceFor column key rows place
place_found column key rows place point within other =
    place_from column key rows place [] (omega arith)
    (λ k h. less (value_cmp (key_in column (get_or rows k [])) key) (point.0 k [] (omega arith) h))
    (λ h.
    value_cmp_total.antisymm key (key_in column (get_or rows place []))
    ∙ greater (value_cmp (key_in column (get_or rows place [])) key) (point.1 place [] (omega arith) (omega arith)) (other (omega arith)))

pub is_equal : (o : Ordering) → nat_eq (ordering_index o) 1 ≡ true → o ≡ Equal
is_equal Less h = cc
is_equal Equal h = refl
is_equal Greater h = cc

pub is_other : (o : Ordering) → nat_eq (ordering_index o) 1 ≡ false → o ≢ Equal
is_other Less h = λ e. cc
is_other Equal h = cc
is_other Greater h = λ e. cc

-- A row goes back where it was taken out.
pub put_back : (rows : List (List Value)) (i : ℕ) (d : List Value) → i < length rows → insert (remove rows i) i (get_or rows i d) ≡ rows
put_back [] i d within = absurd (omega (arith, within))
put_back (r ∷ rs) zero d within = refl
put_back (r ∷ rs) (suc i) d within = ap (λ (l : List (List Value)). r ∷ l) (put_back rs i d (omega (arith, within)))

-- Without one row, the rows are in order.
pub in_order_without : (column : ℕ) (rows : List (List Value)) (i : ℕ) → IsInKeyOrder column rows → i < length rows → IsInKeyOrder column (remove rows i)
in_order_without column rows i ordered within =
    let key = key_in column (get_or rows i []) in
    subst (IsInKeyOrder column) (without_key-at column key rows i [] ordered within (same_value_refl key)) (IsInKeyOrder-without_key column key rows ordered)

abbrev pub Slots : Type 0
Slots = List (Option (List Value))

-- a row in the order of the slots is the one of the slot there
pub row_there : (slots : Slots) (order : List ℕ) (i slot : ℕ) → i < length order → get_or order i 0 ≡ slot → get_or (rows_in slots order) i [] ≡ row_in slots slot
row_there slots order i slot lt is = get_or-map (row_in slots) order i 0 [] lt ∙ ap (row_in slots) is

pub rows_length : (slots : Slots) (order : List ℕ) → length (rows_in slots order) ≡ length order
rows_length slots [] = refl
rows_length slots (it ∷ rest) = ap suc (rows_length slots rest)

-- the rows before a place have lower keys, and those from another on have not
abbrev pub ArePartedUpTo : ℕ → Value → List (List Value) → ℕ → ℕ → Type 0
ArePartedUpTo column key rows low high =
    AllWithin (λ row. is_key_below column key row ≡ true) rows 0 low × AllWithin (λ row. is_key_below column key row ≡ false) rows high (length rows)

-- the row in the middle has a lower key
pub parted_above : (column : ℕ) (key : Value) (rows : List (List Value)) (low high middle : ℕ) → IsInKeyOrder column rows → middle < length rows → is_key_below column key (get_or rows middle []) ≡ true → ArePartedUpTo column key rows low high
    → ArePartedUpTo column key rows (middle + 1) high
parted_above column key rows low high middle ordered within below parted = (
  λ k d from to.
      rows_partitioned column key rows ordered k middle d (omega (arith, to)) within (ap (is_key_below column key) (get_or_default rows middle d [] within) ∙ below),
  parted.1,
)

not_true : (b : Bool) → (b ≡ true → false ≡ true) → b ≡ false
not_true true never = sym (never refl)
not_true false never = refl

-- it has not
pub parted_below : (column : ℕ) (key : Value) (rows : List (List Value)) (low high middle : ℕ) → IsInKeyOrder column rows → is_key_below column key (get_or rows middle []) ≡ false → ArePartedUpTo column key rows low high → ArePartedUpTo column key rows low middle
parted_below column key rows low high middle ordered below parted = (
  parted.0,
  λ k d from to.
      not_true (is_key_below column key (get_or rows k d)) (λ lower.
      sym below ∙ ap (is_key_below column key) (get_or_default rows middle [] d (omega (arith, from, to))) ∙ rows_partitioned column key rows ordered middle k d from to lower),
)

-- no slot stands at the place
pub past : (order : List ℕ) (i : ℕ) → None ≡ slice_get order i → length order ≤ i
past [] i none = omega arith
past (it ∷ rest) zero none = absurd (let e = none in cc)
past (it ∷ rest) (suc i) none = let more = past rest i none in omega (arith, more)

-- how the key of the row at a place stands to a value
pub order_there : (slots : Slots) (order : List ℕ) (column : ℕ) (key : Value) (i slot : ℕ) (o : Ordering) → i < length order → get_or order i 0 ≡ slot → o ≡ value_cmp (key_in column (row_in slots slot)) key
    → value_cmp (key_in column (get_or (rows_in slots order) i [])) key ≡ o
order_there slots order column key i slot o lt at is = ap (λ (r : List Value). value_cmp (key_in column r) key) (row_there slots order i slot lt at) ∙ sym is

-- at the end, where there is no key
pub takes_at_end : (table : Option ℕ) (row : List Value) (rows : List (List Value)) (n : ℕ) → table ≡ None → n ≡ length rows → Takes table row rows (Some n)
takes_at_end table row rows n keyed is = subst (λ (t : Option ℕ). Takes t row rows (Some n)) (sym keyed) (ap (λ (l : List (List Value)). Some l) (sym (insert_end rows row) ∙ ap (λ (k : ℕ). insert rows k row) (sym is)))
