-- What a row change takes out of the rows of a table, and puts in.
use Rattle.std.proofs.Common.{◌≡◌, ℕ, ◌<◌, ◌≤◌, zero, suc, List, [], ◌∷◌, length, set, Option, Some, None, true, is_some, refl, sym, ap, subst, ◌∙◌, arith}
use Rattle.std.specs.Prelude.{slice_get, option_and_then}
use Rattle.std.specs.List.{insert, remove}
use Rattle.std.proofs.lemmas.List.Edits.{insert_end, length-remove}
use Rattle.std.proofs.lemmas.Option.{slice_get_within}
use Rattle.sql_value.specs.declared.value.Value.{Value}
use Rattle.row_format.specs.declared.change.TableMap.{TableMap}
use Rattle.row_format.specs.declared.change.Change.TheVariants.{Insert, Update, Delete}
use Rattle.row_format.specs.Schemas.{same_schema}
use Rattle.log_tables.specs.declared.table.Table.{Table}
use Rattle.log_tables.specs.Keys.{key_in, row_with, without_key, in_key_order, is_row, inserted, deleted, updated, IsOrdered}
use Rattle.log_tables.specs.Changes.{rows_after, takes}
use Rattle.log_tables.proofs.OrderLemmas.{IsOrdered-deleted}
use Rattle.log_tables.proofs.PlaceLemmas.{in_key_order-insert, without_key-at}
use Rattle.live_tables.specs.Places.{one_below, below, goes_at, stands_at, update_to, update_moves, Makes}
use Rattle.live_tables.proofs.NameLemmas.{none_when}
use Rattle.live_tables.proofs.EditLemmas.{some_same, none_some, some_of, suited, taken_if, taken_unless, is_row_true, deleted_sum}
use Rattle.live_tables.proofs.BelowLemmas.{below_within, place_below, found_below}

-- rows by place

pub put_at : {X : Type 0} (xs : List X) (i : ℕ) (x : X) → i ≤ length xs → slice_get (insert xs i x) i ≡ Some x
put_at [] zero x within = refl
put_at [] (suc i) x within = absurd (omega (arith, within))
put_at (y ∷ ys) zero x within = refl
put_at (y ∷ ys) (suc i) x within = put_at ys i x (omega (arith, within))

pub put_behind : {X : Type 0} (xs : List X) (i : ℕ) (x : X) (p : ℕ) → i ≤ length xs → p < i → slice_get (insert xs i x) p ≡ slice_get xs p
put_behind [] zero x p within before = absurd (omega (arith, before))
put_behind [] (suc i) x p within before = absurd (omega (arith, within))
put_behind (y ∷ ys) zero x p within before = absurd (omega (arith, before))
put_behind (y ∷ ys) (suc i) x zero within before = refl
put_behind (y ∷ ys) (suc i) x (suc p) within before = put_behind ys i x p (omega (arith, within)) (omega (arith, before))

pub put_before : {X : Type 0} (xs : List X) (i : ℕ) (x : X) (p : ℕ) → i ≤ length xs → i ≤ p → slice_get (insert xs i x) (suc p) ≡ slice_get xs p
put_before [] zero x p within from = refl
put_before [] (suc i) x p within from = absurd (omega (arith, within))
put_before (y ∷ ys) zero x p within from = refl
put_before (y ∷ ys) (suc i) x zero within from = absurd (omega (arith, from))
put_before (y ∷ ys) (suc i) x (suc p) within from = put_before ys i x p (omega (arith, within)) (omega (arith, from))

set_moved : {X : Type 0} (xs : List X) (i : ℕ) (x : X) → i < length xs → set xs i x ≡ insert (remove xs i) i x
set_moved [] i x within = absurd (omega (arith, within))
set_moved (y ∷ ys) zero x within = refl
set_moved (y ∷ ys) (suc i) x within = ap (λ l. y ∷ l) (set_moved ys i x (omega (arith, within)))

-- An Insert puts the row where it goes.
insert_made : (key : Option ℕ) (row : List Value) (rows out : List (List Value)) → IsOrdered key rows → inserted key row rows ≡ Some out
    → (out ≡ insert rows (goes_at key row rows) row) × (goes_at key row rows ≤ length rows)
insert_made None row rows out ordered is = (sym (some_same is) ∙ sym (insert_end rows row), omega arith)
insert_made (Some column) row rows out ordered is =
    let key = key_in column row in
    let parts = taken_unless (is_some (row_with column key rows)) (in_key_order column row rows) out is in
    let place = place_below column key rows ordered (none_when (row_with column key rows) parts.0) in
    (sym parts.1 ∙ in_key_order-insert column row rows (below column key rows) place, below_within column key rows)

-- A Delete takes out the row where it stands.
delete_made : (key : Option ℕ) (place : ℕ) (before : List Value) (rows out : List (List Value)) → IsOrdered key rows → deleted key place before rows ≡ Some out
    → (out ≡ remove rows (stands_at key place before rows)) × (stands_at key place before rows < length rows)
delete_made None place before rows out ordered is =
    let parts = taken_if (is_row (slice_get rows place) before) (remove rows place) out is in
    (sym parts.1, slice_get_within rows place before (is_row_true (slice_get rows place) before parts.0))
delete_made (Some column) place before rows out ordered is =
    let key = key_in column before in
    let parts = taken_if (is_row (row_with column key rows) before) (without_key column key rows) out is in
    let there = found_below column key rows before [] ordered (is_row_true (row_with column key rows) before parts.0) in
    (sym parts.1 ∙ without_key-at column key rows (below column key rows) [] ordered there.0 there.1, there.0)

-- An Update does the one, and then the other.
update_made : (key : Option ℕ) (place : ℕ) (before after : List Value) (rows out : List (List Value)) → IsOrdered key rows → updated key place before after rows ≡ Some out
    → let from = stands_at key place before rows in let to = update_to key place before after rows in
    (out ≡ insert (remove rows from) to after) × (from < length rows) × (to ≤ length (remove rows from))
update_made None place before after rows out ordered is =
    let parts = taken_if (is_row (slice_get rows place) before) (set rows place after) out is in
    let within = slice_get_within rows place before (is_row_true (slice_get rows place) before parts.0) in
    let fewer = length-remove rows place within in
    (sym parts.1 ∙ set_moved rows place after within, within, omega (arith, fewer, within))
update_made (Some column) place before after rows out ordered is = go (deleted (Some column) place before rows) refl is
  where
    from : ℕ
    from = stands_at (Some column) place before rows

    to : ℕ
    to = update_to (Some column) place before after rows

    go : (o : Option (List (List Value))) → deleted (Some column) place before rows ≡ o → option_and_then (inserted (Some column) after) o ≡ Some out
        → (out ≡ insert (remove rows from) to after) × (from < length rows) × (to ≤ length (remove rows from))
    go None gone h = absurd (none_some h)
    go (Some rest) gone h =
        let first = delete_made (Some column) place before rows rest ordered gone in
        let second = insert_made (Some column) after rest out (IsOrdered-deleted (Some column) place before rows rest gone ordered) h in
        let sum = deleted_sum (one_below column (key_in column after)) (Some column) place before rows rest gone ordered in
        let at : below column (key_in column after) rest ≡ to = omega (arith, sum) in
        let whole : out ≡ insert rest to after = second.0 ∙ ap (λ n. insert rest n after) at in
        let few : to ≤ length rest = omega (arith, at, second.1) in
        (whole ∙ ap (λ l. insert l to after) first.0, first.1, subst (λ l. to ≤ length l) first.0 few)

-- a place that was told
same_place : {x y : ℕ} → Some x ≡ Some y → x ≡ y
same_place q = cc

never : {x : ℕ} → None ≡ Some x → ⊥
never q = cc

pub insert_makes : (map : TableMap) (row : List Value) (t : Table) (place : ℕ) → IsOrdered t.definition.schema.key t.rows → takes (Insert map row) (Some t) ≡ true
    → place ≡ goes_at t.definition.schema.key row t.rows → Makes (record { from = None; to = Some place }) (Insert map row) t
insert_makes map row t place ordered fit at =
    let key = t.definition.schema.key in
    let rows = some_of (rows_after (Insert map row) t) fit in
    let made = insert_made key row t.rows rows.0 ordered (suited (same_schema map.schema t.definition.schema) (inserted key row t.rows) rows.0 rows.1) in
    record {
      rows = rows.1 ∙ ap Some (made.0 ∙ ap (λ n. insert t.rows n row) (sym at));
      within = record {
        from = λ i told. absurd (never told);
        to = λ i told. let is = same_place told in let le = made.1 in omega (arith, is, at, le);
        both = refl;
      };
    }

pub delete_makes : (map : TableMap) (place : ℕ) (before : List Value) (t : Table) (from : ℕ) → IsOrdered t.definition.schema.key t.rows → takes (Delete map place before) (Some t) ≡ true
    → from ≡ stands_at t.definition.schema.key place before t.rows → Makes (record { from = Some from; to = None }) (Delete map place before) t
delete_makes map place before t from ordered fit at =
    let key = t.definition.schema.key in
    let rows = some_of (rows_after (Delete map place before) t) fit in
    let made = delete_made key place before t.rows rows.0 ordered (suited (same_schema map.schema t.definition.schema) (deleted key place before t.rows) rows.0 rows.1) in
    record {
      rows = rows.1 ∙ ap Some (made.0 ∙ ap (remove t.rows) (sym at));
      within = record {
        from = λ i told. let is = same_place told in let lt = made.1 in omega (arith, is, at, lt);
        to = λ i told. absurd (never told);
        both = refl;
      };
    }

pub update_makes : (map : TableMap) (place : ℕ) (before after : List Value) (t : Table) → IsOrdered t.definition.schema.key t.rows → takes (Update map place before after) (Some t) ≡ true
    → Makes (update_moves t.definition.schema.key place before after t.rows) (Update map place before after) t
update_makes map place before after t ordered fit =
    let key = t.definition.schema.key in
    let rows = some_of (rows_after (Update map place before after) t) fit in
    let made = update_made key place before after t.rows rows.0 ordered (suited (same_schema map.schema t.definition.schema) (updated key place before after t.rows) rows.0 rows.1) in
    record {
      rows = rows.1 ∙ ap Some made.0;
      within = record {
        from = λ i told. let is = same_place told in let lt = made.1 in omega (arith, is, lt);
        to = λ i told. let is = same_place told in let le = made.2 in omega (arith, is, le);
        both = refl;
      };
    }
