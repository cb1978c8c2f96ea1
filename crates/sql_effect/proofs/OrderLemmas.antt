-- In which order rows stand is no matter to an INSERT: it asks of them only which keys they have.
use Rattle.std.proofs.Common.{◌≡◌, ◌+◌, ◌++◌, ℕ, List, [], ◌∷◌, Option, Some, None, Bool, true, false, cond, not, refl, sym, ap, ◌∙◌, is_some}
use Rattle.std.specs.Prelude.{◌||◌, find, unwrap_or}
use Rattle.std.specs.Ordering.{is_lt}
use Rattle.sql_value.specs.declared.refusal.Refusal.{Refusal}
use Rattle.sql_value.specs.declared.refusal.Refusal.TheVariants.{DuplicateEntry}
use Rattle.sql_value.specs.declared.value.Value.{Value}
use Rattle.sql_value.specs.Values.{value_cmp}
use Rattle.row_format.specs.declared.schema.Schema.{Schema}
use Rattle.row_format.specs.Rows.{row_refusal, first_of_two}
use Rattle.log_tables.specs.Keys.{key_in, has_key, row_with, in_key_order, inserted}
use Rattle.engine_api.specs.Live.{is_key_taken}
use Rattle.sql_plan.specs.Plans.{unless}
use Rattle.sql_effect.specs.Insert.{place_refusal, insert_refusal, inserts_refusal}
use Rattle.sql_effect.specs.Sizes.{row_bytes, room_refusal}
use Rattle.sql_effect.proofs.PlaceLemmas.{taken-append}

-- one more row is looked at first
found_first : {A : Type 0} (b : Bool) (x : A) (rest : Option A) → is_some (cond b (Some x) rest) ≡ (b || is_some rest)
found_first true x rest = refl
found_first false x rest = refl

either_way : (a b c : Bool) → (a || (b || c)) ≡ (b || (a || c))
either_way true true c = refl
either_way true false c = refl
either_way false true c = refl
either_way false false c = refl

-- a row that goes in key order is found as if it stood in front
ordered_found : (p : List Value → Bool) (column : ℕ) (row : List Value) (rows : List (List Value))
    → is_some (find p (in_key_order column row rows)) ≡ (p row || is_some (find p rows))
ordered_found p column row [] = found_first (p row) row None
ordered_found p column row (r ∷ rs) = by_place (is_lt (value_cmp (key_in column row) (key_in column r))) (ordered_found p column row rs)
  where
    by_place : (b : Bool) → is_some (find p (in_key_order column row rs)) ≡ (p row || is_some (find p rs))
        → is_some (find p (cond b (row ∷ r ∷ rs) (r ∷ in_key_order column row rs))) ≡ (p row || is_some (find p (r ∷ rs)))
    by_place true rest = found_first (p row) row (find p (r ∷ rs))
    by_place false rest =
        found_first (p r) r (find p (in_key_order column row rs))
        ∙ ap (λ (b : Bool). p r || b) rest
        ∙ either_way (p r) (p row) (is_some (find p rs))
        ∙ ap (λ (b : Bool). p row || b) (sym (found_first (p r) r (find p rs)))

-- so is one that stands behind the others
behind_found : (p : List Value → Bool) (row : List Value) (rows : List (List Value)) → is_some (find p (rows ++ row ∷ [])) ≡ (p row || is_some (find p rows))
behind_found p row [] = found_first (p row) row None
behind_found p row (r ∷ rs) =
    found_first (p r) r (find p (rs ++ row ∷ []))
    ∙ ap (λ (b : Bool). p r || b) (behind_found p row rs)
    ∙ either_way (p r) (p row) (is_some (find p rs))
    ∙ ap (λ (b : Bool). p row || b) (sym (found_first (p r) r (find p rs)))

-- the two lists of rows have the same keys
SameKeys : Option ℕ → List (List Value) → List (List Value) → Type 0
SameKeys key xs ys = (row : List Value) → is_key_taken key xs row ≡ is_key_taken key ys row

same_refusal : (keeps : Bool) (schema : Schema) (live : ℕ) (xs ys : List (List Value)) (row : List Value) → is_key_taken schema.key xs row ≡ is_key_taken schema.key ys row
    → insert_refusal keeps schema live xs row ≡ insert_refusal keeps schema live ys row
same_refusal keeps schema live xs ys row same =
    ap (λ (b : Bool). first_of_two (row_refusal schema row) (cond keeps (first_of_two (unless (not b) DuplicateEntry) (room_refusal (live + row_bytes row))) None)) same

-- rows with the same keys refuse the same rows
same_refusals : (keeps : Bool) (schema : Schema) (live : ℕ) (xs ys rows : List (List Value)) → ((row : List Value) → is_key_taken schema.key xs row ≡ is_key_taken schema.key ys row)
    → inserts_refusal keeps schema live xs rows ≡ inserts_refusal keeps schema live ys rows
same_refusals keeps schema live xs ys [] same = refl
same_refusals keeps schema live xs ys (it ∷ rest) same =
    ap (λ (o : Option Refusal). first_of_two o (inserts_refusal keeps schema (live + row_bytes it) (xs ++ it ∷ []) rest)) (same_refusal keeps schema live xs ys it (same it))
    ∙ ap (first_of_two (insert_refusal keeps schema live ys it))
    (same_refusals keeps schema (live + row_bytes it) (xs ++ it ∷ []) (ys ++ it ∷ []) rest
    (λ (row : List Value). taken-append schema.key xs (it ∷ []) row
    ∙ ap (λ (b : Bool). b || is_key_taken schema.key (it ∷ []) row) (same row)
    ∙ sym (taken-append schema.key ys (it ∷ []) row)))

-- a row whose key is free goes in
free_goes_in : (b : Bool) (x y : List (List Value)) → b ≡ false → unwrap_or (cond b None (Some x)) y ≡ x
free_goes_in true x y is = absurd cc
free_goes_in false x y is = refl

-- the rows with one more, in their order, have the keys of the rows with it at the end
with_row : (key : Option ℕ) (it : List Value) (rows : List (List Value)) → is_key_taken key rows it ≡ false → (row : List Value)
    → is_key_taken key (rows ++ it ∷ []) row ≡ is_key_taken key (unwrap_or (inserted key it rows) rows) row
with_row None it rows free row = refl
with_row (Some column) it rows free row =
    behind_found (has_key column (key_in column row)) it rows
    ∙ sym (ordered_found (has_key column (key_in column row)) column it rows)
    ∙ ap (λ (l : List (List Value)). is_some (row_with column (key_in column row) l))
    (sym (free_goes_in (is_some (row_with column (key_in column it) rows)) (in_key_order column it rows) rows free))

pub refused_none : (a b : Option Refusal) → first_of_two a b ≡ None → b ≡ None
refused_none None b is = is
refused_none (Some a) b is = absurd cc

pub refused_first : (a b : Option Refusal) → first_of_two a b ≡ None → a ≡ None
refused_first None b is = refl
refused_first (Some a) b is = absurd cc

pub free_if : (b : Bool) (r : Refusal) → unless (not b) r ≡ None → b ≡ false
free_if true r is = absurd cc
free_if false r is = refl

after_first : (o rest : Option Refusal) → o ≡ None → first_of_two o rest ≡ rest
after_first None rest is = refl
after_first (Some r) rest is = absurd cc

-- A row that is not refused goes in, in the order of the table, and the others are looked at behind it.
pub insert_goes_on : (schema : Schema) (live : ℕ) (rows : List (List Value)) (it : List Value) (rest : List (List Value)) → insert_refusal true schema live rows it ≡ None
    → inserts_refusal true schema live rows (it ∷ rest) ≡ inserts_refusal true schema (live + row_bytes it) (unwrap_or (inserted schema.key it rows) rows) rest
insert_goes_on schema live rows it rest none =
    let placed = refused_none (row_refusal schema it) (place_refusal schema.key rows it (live + row_bytes it)) none in
    let free = free_if (is_key_taken schema.key rows it) DuplicateEntry (refused_first (unless (not (is_key_taken schema.key rows it)) DuplicateEntry) (room_refusal (live + row_bytes it)) placed) in
    after_first (insert_refusal true schema live rows it) (inserts_refusal true schema (live + row_bytes it) (rows ++ it ∷ []) rest) none
    ∙ same_refusals true schema (live + row_bytes it) (rows ++ it ∷ []) (unwrap_or (inserted schema.key it rows) rows) rest (with_row schema.key it rows free)
