-- How many rows have lower keys: where a row stands or goes in key order, and what changes make of that.
use Rattle.std.proofs.Common.{◌≡◌, ℕ, ◌+◌, ◌-◌, ◌<◌, ◌≤◌, zero, suc, List, [], ◌∷◌, length, get_or, Option, Some, None, Bool, true, false, cond, is_some, refl, sym, ap, subst, ◌∙◌, arith, inl, inr, ◌⊎◌, sum_by}
use Rattle.std.specs.Prelude.{slice_get}
use Rattle.std.specs.Option.{option_or}
use Rattle.std.specs.Str.{bytes_eq}
use Rattle.std.specs.Ordering.{is_lt, is_eq, ordering_reverse}
use Rattle.std.specs.declared.cmp.Ordering.{Ordering}
use Rattle.std.specs.declared.cmp.Ordering.TheVariants.{Less, Equal, Greater}
use Rattle.std.proofs.lemmas.Bool.{and_parts, cond-true, cond-false}
use Rattle.std.proofs.lemmas.List.Sums.{sum_by-cons}
use Rattle.sql_value.specs.declared.value.Value.{Value}
use Rattle.sql_value.specs.Values.{value_cmp, same_value}
use Rattle.sql_value.proofs.OrderLemmas.{value_cmp_total}
use Rattle.sql_value.proofs.SameLemmas.{less-other, same_value-true, same_value-is_eq}
use Rattle.row_format.specs.declared.change.Change.{Change}
use Rattle.row_format.specs.declared.change.Change.TheVariants.{Install, Uninstall, Create, Drop, Insert, Update, Delete}
use Rattle.log_tables.specs.declared.table.Table.{Table}
use Rattle.log_tables.specs.Keys.{key_in, has_key, row_with, IsBelow, IsInKeyOrder, IsPlaceFor}
use Rattle.log_tables.specs.Tables.{table_named, new_table}
use Rattle.log_tables.specs.Changes.{after_change, after_changes, all_apply, takes, applies, names_table}
use Rattle.log_tables.proofs.OrderLemmas.{below_trans, below_free}
use Rattle.engine_api.specs.Live.{rows_found}
use Rattle.engine_api.specs.Scans.{row_above}
use Rattle.live_tables.specs.Stored.{is_key_below, AreParted}
use Rattle.live_tables.specs.Places.{one_below, below, sum_step}
use Rattle.live_tables.specs.Folds.{Applied, rows_changed, found_after, fits, through}
use Rattle.live_tables.proofs.EditLemmas.{insert_edit, update_edit, delete_edit}
use Rattle.live_tables.proofs.MadeLemmas.{IsInOrder, found_in_order, made_after}
use Rattle.live_tables.proofs.NameLemmas.{named_after}
use Rattle.live_tables.proofs.FoldLemmas.{edit_sum, fits_named}

-- a row with a lower key, and one with a greater

low : (c : ℕ) (key : Value) (r : List Value) → value_cmp (key_in c r) key ≡ Less → one_below c key r ≡ 1
low c key r h = cond-true (is_key_below c key r) 1 0 (ap is_lt h)

not_low : (c : ℕ) (key : Value) (r : List Value) → value_cmp key (key_in c r) ≡ Less → one_below c key r ≡ 0
not_low c key r h = cond-false (is_key_below c key r) 1 0 (ap is_lt (value_cmp_total.antisymm (key_in c r) key ∙ ap ordering_reverse h))

low_first : (c : ℕ) (key : Value) (r : List Value) (rs : List (List Value)) → one_below c key r ≡ 1 → below c key (r ∷ rs) ≡ suc (below c key rs)
low_first c key r rs h = let all = sum_by-cons (one_below c key) r rs in omega (arith, all, h)

high_first : (c : ℕ) (key : Value) (r : List Value) (rs : List (List Value)) → one_below c key r ≡ 0 → below c key (r ∷ rs) ≡ below c key rs
high_first c key r rs h = let all = sum_by-cons (one_below c key) r rs in omega (arith, all, h)

one_within : (c : ℕ) (key : Value) (r : List Value) → one_below c key r ≤ 1
one_within c key r = go (is_key_below c key r)
  where
    go : (b : Bool) → cond b 1 0 ≤ 1
    go true = omega arith
    go false = omega arith

-- Not more rows are below a key than there are.
pub below_within : (c : ℕ) (key : Value) (rows : List (List Value)) → below c key rows ≤ length rows
below_within c key [] = omega arith
below_within c key (r ∷ rs) =
    let all = sum_by-cons (one_below c key) r rs in
    omega (arith, all, one_within c key r, below_within c key rs)

-- No row that stands above a key is below it.
none_below : (c : ℕ) (key : Value) (rows : List (List Value)) → IsBelow c key rows → below c key rows ≡ 0
none_below c key [] above = refl
none_below c key (r ∷ rs) above = high_first c key r rs (not_low c key r above.0) ∙ none_below c key rs above.1

-- how a key stands to another
abbrev Stands : Value → Value → Type 0
Stands a b = (value_cmp a b ≡ Less) ⊎ ((same_value a b ≡ true) ⊎ (value_cmp b a ≡ Less))

stands : (a b : Value) → Stands a b
stands a b = go (value_cmp a b) refl
  where
    go : (o : Ordering) → value_cmp a b ≡ o → Stands a b
    go Less e = inl e
    go Equal e = inr (inl (same_value-is_eq a b ∙ ap is_eq e))
    go Greater e = inr (inr (value_cmp_total.antisymm b a ∙ ap ordering_reverse e))

no_some : {X : Type 0} {x : X} → Some x ≡ None → ⊥
no_some q = cc

-- Where a key is free, the rows with lower keys are before the place for it.
pub place_below : (c : ℕ) (key : Value) (rows : List (List Value)) → IsInKeyOrder c rows → row_with c key rows ≡ None → IsPlaceFor c key rows (below c key rows)
place_below c key [] ordered free = tt
place_below c key (r ∷ rs) ordered free = elim (stands (key_in c r) key) [
  | inl less ↦
      let rest = place_below c key rs ordered.1 (sym (cond-false (has_key c key r) (Some r) (row_with c key rs) (less-other (key_in c r) key less)) ∙ free) in
      subst (IsPlaceFor c key (r ∷ rs)) (sym (low_first c key r rs (low c key r less))) (less, rest)
  | inr from ↦ elim from [
    | inl same ↦ absurd (no_some (sym (cond-true (has_key c key r) (Some r) (row_with c key rs) same) ∙ free))
    | inr more ↦
        let none = high_first c key r rs (not_low c key r more) ∙ none_below c key rs (below_trans c key (key_in c r) rs more ordered.0) in
        subst (IsPlaceFor c key (r ∷ rs)) (sym none) more
  ]
]

value_same : (v : Value) → value_cmp v v ≡ Equal
value_same v = go (value_cmp v v) (value_cmp_total.antisymm v v)
  where
    go : (o : Ordering) → o ≡ ordering_reverse o → o ≡ Equal
    go Less e = cc
    go Equal e = refl
    go Greater e = cc

-- the key of a row is this one: the rows behind it stand above
behind_same : (c : ℕ) (key : Value) (r : List Value) (rs : List (List Value)) → IsInKeyOrder c (r ∷ rs) → same_value (key_in c r) key ≡ true → IsBelow c key rs
behind_same c key r rs ordered same = subst (λ (k : Value). IsBelow c k rs) (same_value-true (key_in c r) key same) ordered.0

same_not_low : (c : ℕ) (key : Value) (r : List Value) → same_value (key_in c r) key ≡ true → one_below c key r ≡ 0
same_not_low c key r same =
    let is : key_in c r ≡ key = same_value-true (key_in c r) key same in
    cond-false (is_key_below c key r) 1 0 (ap is_lt (ap (λ k. value_cmp k key) is ∙ value_same key))

-- the row at a place has the key
abbrev IsAt : ℕ → Value → List (List Value) → List Value → ℕ → Type 0
IsAt c key rows d n = (n < length rows) × (has_key c key (get_or rows n d) ≡ true)

-- The row that has a key stands behind those with lower keys.
pub found_below : (c : ℕ) (key : Value) (rows : List (List Value)) (x d : List Value) → IsInKeyOrder c rows → row_with c key rows ≡ Some x
    → (below c key rows < length rows) × (has_key c key (get_or rows (below c key rows) d) ≡ true)
found_below c key [] x d ordered found = absurd (no_some (sym found))
found_below c key (r ∷ rs) x d ordered found = elim (stands (key_in c r) key) [
  | inl less ↦
      let rest = found_below c key rs x d ordered.1 (sym (cond-false (has_key c key r) (Some r) (row_with c key rs) (less-other (key_in c r) key less)) ∙ found) in
      subst (IsAt c key (r ∷ rs) d) (sym (low_first c key r rs (low c key r less))) (omega (arith, rest.0), rest.1)
  | inr from ↦ elim from [
    | inl same ↦
        let none = high_first c key r rs (same_not_low c key r same) ∙ none_below c key rs (behind_same c key r rs ordered same) in
        subst (IsAt c key (r ∷ rs) d) (sym none) (omega arith, same)
    | inr more ↦
        let free = below_free c key (r ∷ rs) (more, below_trans c key (key_in c r) rs more ordered.0) in
        absurd (no_some (sym found ∙ free))
  ]
]

-- one where a row has the key
abbrev pub here : ℕ → Value → List (List Value) → ℕ
here c key rows = cond (is_some (row_with c key rows)) 1 0

first_above : (c : ℕ) (key : Value) (rows : List (List Value)) → IsBelow c key rows → row_above (Some c) rows key ≡ slice_get rows 0
first_above c key [] above = refl
first_above c key (r ∷ rs) above = cond-true (is_lt (value_cmp key (key_in c r))) (Some r) (row_above (Some c) rs key) (ap is_lt above.0)

other : (c : ℕ) (key : Value) (r : List Value) (rs : List (List Value)) → has_key c key r ≡ false → here c key (r ∷ rs) ≡ here c key rs
other c key r rs h = ap (λ (o : Option (List Value)). cond (is_some o) 1 0) (cond-false (has_key c key r) (Some r) (row_with c key rs) h)

past : (c : ℕ) (key : Value) (r : List Value) (rs : List (List Value)) → is_lt (value_cmp key (key_in c r)) ≡ false → row_above (Some c) (r ∷ rs) key ≡ row_above (Some c) rs key
past c key r rs h = cond-false (is_lt (value_cmp key (key_in c r))) (Some r) (row_above (Some c) rs key) h

-- The row of the least greater key stands behind those with lower keys, and the one that has the key.
pub above_at : (c : ℕ) (key : Value) (rows : List (List Value)) → IsInKeyOrder c rows → row_above (Some c) rows key ≡ slice_get rows (below c key rows + here c key rows)
above_at c key [] ordered = refl
above_at c key (r ∷ rs) ordered = elim (stands (key_in c r) key) [
  | inl less ↦
      let beyond = past c key r rs (ap is_lt (value_cmp_total.antisymm key (key_in c r) ∙ ap ordering_reverse less)) in
      let lower = low_first c key r rs (low c key r less) in
      let same_here = other c key r rs (less-other (key_in c r) key less) in
      let at : suc (below c key rs + here c key rs) ≡ below c key (r ∷ rs) + here c key (r ∷ rs) = omega (arith, lower, same_here) in
      beyond ∙ above_at c key rs ordered.1 ∙ ap (slice_get (r ∷ rs)) at
  | inr from ↦ elim from [
    | inl same ↦
        let is : key ≡ key_in c r = sym (same_value-true (key_in c r) key same) in
        let beyond = past c key r rs (ap is_lt (ap (value_cmp key) (sym is) ∙ value_same key)) in
        let above = behind_same c key r rs ordered same in
        let none = high_first c key r rs (same_not_low c key r same) ∙ none_below c key rs above in
        let one : here c key (r ∷ rs) ≡ 1 = ap (λ (o : Option (List Value)). cond (is_some o) 1 0) (cond-true (has_key c key r) (Some r) (row_with c key rs) same) in
        let at : 1 ≡ below c key (r ∷ rs) + here c key (r ∷ rs) = omega (arith, none, one) in
        beyond ∙ first_above c key rs above ∙ ap (slice_get (r ∷ rs)) at
    | inr more ↦
        let above = below_trans c key (key_in c r) rs more ordered.0 in
        let none = high_first c key r rs (not_low c key r more) ∙ none_below c key rs above in
        let free : here c key (r ∷ rs) ≡ 0 = ap (λ (o : Option (List Value)). cond (is_some o) 1 0) (below_free c key (r ∷ rs) (more, above)) in
        let at : 0 ≡ below c key (r ∷ rs) + here c key (r ∷ rs) = omega (arith, none, free) in
        cond-true (is_lt (value_cmp key (key_in c r))) (Some r) (row_above (Some c) rs key) (ap is_lt more) ∙ ap (slice_get (r ∷ rs)) at
  ]
]

-- The rows before a place have lower keys and the others have not: so many are below.
parted_sum : (c : ℕ) (key : Value) (rows : List (List Value)) (n : ℕ) → n ≤ length rows → ((k : ℕ) → k < n → is_key_below c key (get_or rows k []) ≡ true)
    → ((k : ℕ) → n ≤ k → k < length rows → is_key_below c key (get_or rows k []) ≡ false) → below c key rows ≡ n
parted_sum c key [] zero within lows highs = refl
parted_sum c key [] (suc n) within lows highs = absurd (omega (arith, within))
parted_sum c key (r ∷ rs) zero within lows highs =
    high_first c key r rs (cond-false (is_key_below c key r) 1 0 (highs 0 (omega arith) (omega arith))) ∙ parted_sum c key rs 0 (omega arith) (λ k h. absurd (omega (arith, h)))
    (λ k from h. highs (suc k) (omega arith) (omega (arith, h)))
parted_sum c key (r ∷ rs) (suc n) within lows highs =
    low_first c key r rs (cond-true (is_key_below c key r) 1 0 (lows 0 (omega arith)))
    ∙ ap suc (parted_sum c key rs n (omega (arith, within)) (λ k h. lows (suc k) (omega (arith, h))) (λ k from h. highs (suc k) (omega (arith, from)) (omega (arith, h))))

pub parted_below : (c : ℕ) (key : Value) (rows : List (List Value)) (n : ℕ) → AreParted c key rows n → n ≤ length rows → n ≡ below c key rows
parted_below c key rows n point within =
    sym (parted_sum c key rows n within (λ k h. point.0 k [] (omega (arith, h, within)) h) (λ k from h. point.1 k [] (omega (arith, h)) (omega (arith, from))))

-- what a change makes of a sum over the rows under a name

sum_one : (f : List Value → ℕ) (n : List ℕ) (c : Change) (o : Option Table) → (names_table n c ≡ true → fits c o ≡ true) → IsInOrder o
    → sum_by f (rows_found (found_after n c o)) ≡ sum_step f n c (sum_by f (rows_found o))
sum_one f n (Create m e s) o fit ordered = go (bytes_eq m n) o
  where
    go : (b : Bool) (o : Option Table) → sum_by f (rows_found (cond b (option_or o (Some (new_table m e s))) o)) ≡ cond b (sum_by f (rows_found o)) (sum_by f (rows_found o))
    go true None = refl
    go true (Some t) = refl
    go false o = refl
sum_one f n (Drop m) o fit ordered = go (bytes_eq m n)
  where
    go : (b : Bool) → sum_by f (rows_found (cond b None o)) ≡ cond b 0 (sum_by f (rows_found o))
    go true = refl
    go false = refl
sum_one f n (Insert map row) o fit ordered = go (bytes_eq map.table n) fit
  where
    go : (b : Bool) → (b ≡ true → takes (Insert map row) o ≡ true)
        → sum_by f (rows_found (cond b (rows_changed (Insert map row) o) o)) ≡ cond b (sum_by f (rows_found o) + f row) (sum_by f (rows_found o))
    go true fit = let all = edit_sum f (Insert map row) (insert_edit map row) o (fit refl) ordered in omega (arith, all)
    go false fit = refl
sum_one f n (Update map place before after) o fit ordered = go (bytes_eq map.table n) fit
  where
    go : (b : Bool) → (b ≡ true → takes (Update map place before after) o ≡ true)
        → sum_by f (rows_found (cond b (rows_changed (Update map place before after) o) o)) ≡ cond b (sum_by f (rows_found o) + f after - f before) (sum_by f (rows_found o))
    go true fit = let all = edit_sum f (Update map place before after) (update_edit map place before after) o (fit refl) ordered in omega (arith, all)
    go false fit = refl
sum_one f n (Delete map place before) o fit ordered = go (bytes_eq map.table n) fit
  where
    go : (b : Bool) → (b ≡ true → takes (Delete map place before) o ≡ true)
        → sum_by f (rows_found (cond b (rows_changed (Delete map place before) o) o)) ≡ cond b (sum_by f (rows_found o) - f before) (sum_by f (rows_found o))
    go true fit = let all = edit_sum f (Delete map place before) (delete_edit map place before) o (fit refl) ordered in omega (arith, all)
    go false fit = refl
sum_one f n (Install e) o fit ordered = refl
sum_one f n (Uninstall e) o fit ordered = refl

-- The sum over the rows under a name after changes that apply.
pub sum_after : (f : List Value → ℕ) (n : List ℕ) (cs : List Change) (ts : List Table) → Applied ts cs
    → through (sum_step f n) cs (sum_by f (rows_found (table_named n ts))) ≡ sum_by f (rows_found (table_named n (after_changes cs ts)))
sum_after f n [] ts applied = refl
sum_after f n (c ∷ cs) ts applied =
    let both = and_parts (applies c ts) (all_apply cs (after_change c ts)) applied.fit in
    let one = ap (λ o. sum_by f (rows_found o)) (named_after n c ts applied.made.names) ∙ sum_one f n c (table_named n ts) (fits_named n c ts both.0) (found_in_order n ts applied.made.rows) in
    ap (through (sum_step f n) cs) (sym one) ∙ sum_after f n cs (after_change c ts) (record { made = made_after c ts applied.made; fit = both.1 })
