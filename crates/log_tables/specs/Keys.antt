-- The rows of one table, by key or by place. (This project.)
use Rattle.std.specs.declared.cmp.Ordering.TheVariants.{Less}
use Rattle.std.specs.Prelude.{◌≡◌, ℕ, zero, suc, List, [], ◌∷◌, ◌++◌, Option, Some, None, Bool, false, cond, not, is_some, slice_get, unwrap_or, filter, find, remove, set, option_and_then}
use Rattle.std.specs.Ordering.{is_lt}
use Rattle.sql_value.specs.declared.value.Value.{Value}
use Rattle.sql_value.specs.declared.value.Value.TheVariants.{Null}
use Rattle.sql_value.specs.Values.{value_cmp, same_value}
use Rattle.row_format.specs.Rows.{same_row}

-- a row's value in the key column
abbrev pub key_in : ℕ → List Value → Value
key_in column row = unwrap_or (slice_get row column) Null

-- this row has this key
abbrev pub has_key : ℕ → Value → List Value → Bool
has_key column key row = same_value (key_in column row) key

-- the row that has this key, if there is one
abbrev pub row_with : ℕ → Value → List (List Value) → Option (List Value)
row_with column key rows = find (has_key column key) rows

-- the rows that have another key
abbrev pub without_key : ℕ → Value → List (List Value) → List (List Value)
without_key column key rows = filter (λ it. not (has_key column key it)) rows

-- the rows with one more, which stands before the first row of a greater key
abbrev pub in_key_order : ℕ → List Value → List (List Value) → List (List Value)
in_key_order column row [] = row ∷ []
in_key_order column row (it ∷ rest) = cond (is_lt (value_cmp (key_in column row) (key_in column it))) (row ∷ it ∷ rest) (it ∷ in_key_order column row rest)

-- a row was found, and it is this one
abbrev pub is_row : Option (List Value) → List Value → Bool
is_row None row = false
is_row (Some it) row = same_row it row

-- An Insert adds the row in key order, where no row has its key; with no key column, at the end.
abbrev pub inserted : Option ℕ → List Value → List (List Value) → Option (List (List Value))
inserted None row rows = Some (rows ++ row ∷ [])
inserted (Some column) row rows = cond (is_some (row_with column (key_in column row) rows)) None (Some (in_key_order column row rows))

-- A Delete takes out the row, found by its key, or by its place with no key column.
abbrev pub deleted : Option ℕ → ℕ → List Value → List (List Value) → Option (List (List Value))
deleted None place before rows = cond (is_row (slice_get rows place) before) (Some (remove rows place)) None
deleted (Some column) place before rows = cond (is_row (row_with column (key_in column before) rows) before) (Some (without_key column (key_in column before) rows)) None

-- An Update is a Delete and an Insert; with no key column the new row takes the old one's place.
abbrev pub updated : Option ℕ → ℕ → List Value → List Value → List (List Value) → Option (List (List Value))
updated None place before after rows = cond (is_row (slice_get rows place) before) (Some (set rows place after)) None
updated (Some column) place before after rows = option_and_then (inserted (Some column) after) (deleted (Some column) place before rows)

-- where the first row of a greater key stands, or the length
abbrev pub place_above : ℕ → List Value → List (List Value) → ℕ
place_above column row [] = 0
place_above column row (it ∷ rest) = cond (is_lt (value_cmp (key_in column row) (key_in column it))) 0 (suc (place_above column row rest))

-- each of the rows has a greater key
abbrev pub IsBelow : ℕ → Value → List (List Value) → Type 0
IsBelow column key [] = Unit {0}
IsBelow column key (it ∷ rest) = (value_cmp key (key_in column it) ≡ Less) × IsBelow column key rest

-- the keys rise strictly
abbrev pub IsInKeyOrder : ℕ → List (List Value) → Type 0
IsInKeyOrder column [] = Unit {0}
IsInKeyOrder column (it ∷ rest) = IsBelow column (key_in column it) rest × IsInKeyOrder column rest

-- so many of the rows, from the first, have keys below this one, and the next has one above
abbrev pub IsPlaceFor : ℕ → Value → List (List Value) → ℕ → Type 0
IsPlaceFor column key [] zero = Unit {0}
IsPlaceFor column key [] (suc place) = ⊥
IsPlaceFor column key (it ∷ rest) zero = value_cmp key (key_in column it) ≡ Less
IsPlaceFor column key (it ∷ rest) (suc place) = (value_cmp (key_in column it) key ≡ Less) × IsPlaceFor column key rest place

-- the rows of a table with this key, or with none, are in order
abbrev pub IsOrdered : Option ℕ → List (List Value) → Type 0
IsOrdered None rows = Unit {0}
IsOrdered (Some column) rows = IsInKeyOrder column rows
