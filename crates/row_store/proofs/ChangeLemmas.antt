-- What a row change makes of rows, and how they are told from those after it.
use Rattle.std.proofs.Common.{◌≡◌, inl, inr, ℕ, ◌+◌, ◌-◌, zero, suc, List, [], ◌∷◌, ◌++◌, length, get_or, Option, Some, None, Bool, true, false, cond, IsTrue, refl, sym, ap, ◌∙◌, arith, subst, length-append}
use Rattle.std.specs.Prelude.{is_some, nat_le, set, insert, remove, slice_get, unwrap_or, option_and_then}
use Rattle.std.specs.List.{position_or_len}
use Rattle.std.specs.Ordering.{is_lt}
use Rattle.std.proofs.lemmas.Bool.{cases_Bool, cond-true, cond-false, le-leb}
use Rattle.std.proofs.lemmas.List.{length-set, get_or-set_same}
use Rattle.std.proofs.lemmas.List.Edits.{length-remove}
use Rattle.std.proofs.lemmas.List.Folds.{find_at}
use Rattle.std.proofs.lemmas.Option.{slice_get-get_or, slice_get_within, get_or_from_slice_get}
use Rattle.sql_value.specs.declared.value.Value.{Value}
use Rattle.sql_value.specs.Values.{value_cmp}
use Rattle.sql_value.proofs.SameLemmas.{same_value_refl}
use Rattle.row_format.specs.Schemas.{same_schema}
use Rattle.row_format.proofs.SameLemmas.{same_row-true, same_row_refl}
use Rattle.row_format.specs.declared.change.Change.{Change}
use Rattle.row_format.specs.declared.change.Change.TheVariants.{Install, Uninstall, Create, Drop, Insert, Update, Delete}
use Rattle.log_tables.specs.declared.table.Table.{Table}
use Rattle.log_tables.specs.Changes.{rows_after}
use Rattle.log_tables.specs.Keys.{key_in, has_key, row_with, without_key, in_key_order, is_row, inserted, deleted, updated, IsInKeyOrder, IsOrdered}
use Rattle.log_tables.proofs.OrderLemmas.{kept, gone}
use Rattle.log_tables.proofs.KeyLemmas.{deleted-there, row_with-in_key_order_same}
use Rattle.log_tables.proofs.PlaceLemmas.{without_key-at, inserted-place}
use Rattle.row_store.specs.Changes.{changed_rows, made_rows, returned, undone_rows}
use Rattle.row_store.proofs.KeyLemmas.{put_back, in_order_without}
use Rattle.row_store.proofs.FindLemmas.{same_place}

some_same : {X : Type 0} {x y : X} → Some x ≡ Some y → x ≡ y
some_same q = cc

none_some : {X : Type 0} {x : X} → None ≡ Some x → ⊥
none_some q = cc

-- what is taken under a test
taken_if : {X : Type 0} (b : Bool) (x out : X) → cond b (Some x) None ≡ Some out → (b ≡ true) × (x ≡ out)
taken_if true x out q = (refl, some_same q)
taken_if false x out q = absurd (none_some q)

taken_unless : {X : Type 0} (b : Bool) (x out : X) → cond b None (Some x) ≡ Some out → (b ≡ false) × (x ≡ out)
taken_unless true x out q = absurd (none_some q)
taken_unless false x out q = (refl, some_same q)

none_of : {X : Type 0} (o : Option X) → is_some o ≡ false → o ≡ None
none_of None h = refl
none_of (Some x) h = cc

is_row_true : (o : Option (List Value)) (row : List Value) → is_row o row ≡ true → o ≡ Some row
is_row_true None row h = absurd (let e = h in cc)
is_row_true (Some it) row h = ap (λ (r : List Value). Some r) (same_row-true it row h)

-- the first row has another key, and so have the rest
free_first : (c : ℕ) (key : Value) (r : List Value) (rs : List (List Value)) → row_with c key (r ∷ rs) ≡ None → (has_key c key r ≡ false) × (row_with c key rs ≡ None)
free_first c key r rs free = elim (cases_Bool (has_key c key r)) [
  | inl here ↦ absurd (none_some (sym free ∙ cond-true (has_key c key r) (Some r) (row_with c key rs) here))
  | inr other ↦ (other, sym (cond-false (has_key c key r) (Some r) (row_with c key rs) other) ∙ free)
]

-- a key that no row has takes none out
without_free : (c : ℕ) (key : Value) (rows : List (List Value)) → row_with c key rows ≡ None → without_key c key rows ≡ rows
without_free c key [] free = refl
without_free c key (r ∷ rs) free =
    let f = free_first c key r rs free in
    kept c key r rs f.0 ∙ ap (λ (l : List (List Value)). r ∷ l) (without_free c key rs f.1)

-- a row that went in by its key goes out by it
without_more : (c : ℕ) (row : List Value) (rows : List (List Value)) → row_with c (key_in c row) rows ≡ None → without_key c (key_in c row) (in_key_order c row rows) ≡ rows
without_more c row [] free = gone c (key_in c row) row [] (same_value_refl (key_in c row))
without_more c row (r ∷ rs) free =
    let key = key_in c row in
    let test = is_lt (value_cmp key (key_in c r)) in
    let f = free_first c key r rs free in
    elim (cases_Bool test) [
      | inl before ↦ ap (without_key c key) (cond-true test (row ∷ r ∷ rs) (r ∷ in_key_order c row rs) before) ∙ gone c key row (r ∷ rs) (same_value_refl key) ∙ without_free c key (r ∷ rs) free
      | inr past ↦
          ap (without_key c key) (cond-false test (row ∷ r ∷ rs) (r ∷ in_key_order c row rs) past) ∙ kept c key r (in_key_order c row rs) f.0
          ∙ ap (λ (l : List (List Value)). r ∷ l) (without_more c row rs f.1)
    ]

-- An Insert by key is undone by a Delete,
insert_undone : (c place : ℕ) (row : List Value) (rows out : List (List Value)) → inserted (Some c) row rows ≡ Some out → deleted (Some c) place row out ≡ Some rows
insert_undone c place row rows out is =
    let t = taken_unless (is_some (row_with c (key_in c row) rows)) (in_key_order c row rows) out is in
    let free = none_of (row_with c (key_in c row) rows) t.0 in
    let there = ap (λ (o : Option (List Value)). is_row o row) (row_with-in_key_order_same c row rows free) ∙ same_row_refl row in
    subst (λ (l : List (List Value)). deleted (Some c) place row l ≡ Some rows) t.1
    (deleted-there c place row (in_key_order c row rows) there ∙ ap (λ (l : List (List Value)). Some l) (without_more c row rows free))

-- and a Delete by an Insert.
delete_undone : (c place : ℕ) (row : List Value) (rows out : List (List Value)) → IsInKeyOrder c rows → deleted (Some c) place row rows ≡ Some out → inserted (Some c) row out ≡ Some rows
delete_undone c place row rows out ordered is =
    let key = key_in c row in
    let t = taken_if (is_row (row_with c key rows) row) (without_key c key rows) out is in
    let i = position_or_len (has_key c key) rows in
    let there : slice_get rows i ≡ Some row = sym (find_at (has_key c key) rows) ∙ is_row_true (row_with c key rows) row t.0 in
    let lt = slice_get_within rows i row there in
    let at = get_or_from_slice_get rows i row [] there in
    let own : has_key c key (get_or rows i []) ≡ true = ap (has_key c key) at ∙ same_value_refl key in
    subst (λ (l : List (List Value)). inserted (Some c) row l ≡ Some rows) (sym (without_key-at c key rows i [] ordered lt own) ∙ t.1)
    (inserted-place c row (remove rows i) i (in_order_without c rows i ordered lt) (same_place c key rows i ordered lt own)
    ∙ ap (λ (r : List Value). Some (insert (remove rows i) i r)) (sym at) ∙ ap (λ (l : List (List Value)). Some l) (put_back rows i [] lt))

-- An Update by key is undone by one back.
update_undone : (c place : ℕ) (before after : List Value) (rows out : List (List Value)) → IsInKeyOrder c rows → updated (Some c) place before after rows ≡ Some out → updated (Some c) place after before out ≡ Some rows
update_undone c place before after rows out ordered is = go (deleted (Some c) place before rows) refl is
  where
    go : (o : Option (List (List Value))) → deleted (Some c) place before rows ≡ o → option_and_then (inserted (Some c) after) o ≡ Some out → updated (Some c) place after before out ≡ Some rows
    go None less more = absurd (none_some more)
    go (Some mid) less more = ap (option_and_then (inserted (Some c) before)) (insert_undone c place after mid out more) ∙ delete_undone c place before rows mid ordered less

-- the last row
last_is : (rows : List (List Value)) (row : List Value) → slice_get (rows ++ row ∷ []) (length rows) ≡ Some row
last_is [] row = refl
last_is (r ∷ rs) row = last_is rs row

without_last : (rows : List (List Value)) (row : List Value) → remove (rows ++ row ∷ []) (length rows) ≡ rows
without_last [] row = refl
without_last (r ∷ rs) row = ap (λ (l : List (List Value)). r ∷ l) (without_last rs row)

-- The same by places.
insert_undone_there : (row : List Value) (rows out : List (List Value)) → inserted None row rows ≡ Some out → deleted None (length out - 1) row out ≡ Some rows
insert_undone_there row rows out is =
    let more = length-append rows (row ∷ []) in
    let last : length rows ≡ length (rows ++ row ∷ []) - 1 = omega (arith, more) in
    let there = ap (λ (o : Option (List Value)). is_row o row) (last_is rows row) ∙ same_row_refl row in
    subst (λ (l : List (List Value)). deleted None (length l - 1) row l ≡ Some rows) (some_same is)
    (subst (λ (k : ℕ). deleted None k row (rows ++ row ∷ []) ≡ Some rows) last
    (cond-true (is_row (slice_get (rows ++ row ∷ []) (length rows)) row) (Some (remove (rows ++ row ∷ []) (length rows))) None there
    ∙ ap (λ (l : List (List Value)). Some l) (without_last rows row)))

delete_undone_there : (place : ℕ) (row : List Value) (rows out : List (List Value)) → deleted None place row rows ≡ Some out → returned None place row out ≡ Some rows
delete_undone_there place row rows out is =
    let t = taken_if (is_row (slice_get rows place) row) (remove rows place) out is in
    let there = is_row_true (slice_get rows place) row t.0 in
    let lt = slice_get_within rows place row there in
    let less = length-remove rows place lt in
    subst (λ (l : List (List Value)). returned None place row l ≡ Some rows) t.1
    (cond-true (nat_le place (length (remove rows place))) (Some (insert (remove rows place) place row)) None (le-leb place (length (remove rows place)) (omega (arith, less, lt)))
    ∙ ap (λ (r : List Value). Some (insert (remove rows place) place r)) (sym (get_or_from_slice_get rows place row [] there)) ∙ ap (λ (l : List (List Value)). Some l) (put_back rows place [] lt))

set_back : (rows : List (List Value)) (place : ℕ) (before after : List Value) → slice_get rows place ≡ Some before → set (set rows place after) place before ≡ rows
set_back [] place before after there = refl
set_back (r ∷ rs) zero before after there = ap (λ (x : List Value). x ∷ rs) (sym (some_same there))
set_back (r ∷ rs) (suc place) before after there = ap (λ (l : List (List Value)). r ∷ l) (set_back rs place before after there)

update_undone_there : (place : ℕ) (before after : List Value) (rows out : List (List Value)) → updated None place before after rows ≡ Some out → updated None place after before out ≡ Some rows
update_undone_there place before after rows out is =
    let t = taken_if (is_row (slice_get rows place) before) (set rows place after) out is in
    let there = is_row_true (slice_get rows place) before t.0 in
    let lt = slice_get_within rows place before there in
    let size = length-set rows place after in
    let now = slice_get-get_or (set rows place after) place [] (omega (arith, lt, size)) ∙ ap (λ (r : List Value). Some r) (get_or-set_same rows place after [] lt) in
    subst (λ (l : List (List Value)). updated None place after before l ≡ Some rows) t.1
    (cond-true (is_row (slice_get (set rows place after) place) after) (Some (set (set rows place after) place before)) None (ap (λ (o : Option (List Value)). is_row o after) now ∙ same_row_refl after)
    ∙ ap (λ (l : List (List Value)). Some l) (set_back rows place before after there))

-- What an Insert, a Delete and an Update made is undone.
pub insert_back : (key : Option ℕ) (row : List Value) (rows out : List (List Value)) → inserted key row rows ≡ Some out → deleted key (length out - 1) row out ≡ Some rows
insert_back None row rows out is = insert_undone_there row rows out is
insert_back (Some c) row rows out is = insert_undone c (length out - 1) row rows out is

pub delete_back : (key : Option ℕ) (place : ℕ) (row : List Value) (rows out : List (List Value)) → IsOrdered key rows → deleted key place row rows ≡ Some out → returned key place row out ≡ Some rows
delete_back None place row rows out ordered is = delete_undone_there place row rows out is
delete_back (Some c) place row rows out ordered is = delete_undone c place row rows out ordered is

pub update_back : (key : Option ℕ) (place : ℕ) (before after : List Value) (rows out : List (List Value)) → IsOrdered key rows → updated key place before after rows ≡ Some out → updated key place after before out ≡ Some rows
update_back None place before after rows out ordered is = update_undone_there place before after rows out is
update_back (Some c) place before after rows out ordered is = update_undone c place before after rows out ordered is

-- From the rows after a change, those before it.
pub undone : (key : Option ℕ) (change : Change) (rows out : List (List Value)) → IsOrdered key rows → changed_rows key change rows ≡ Some out → undone_rows key change out ≡ Some rows
undone key (Insert map row) rows out ordered is = insert_back key row rows out is
undone key (Update map place before after) rows out ordered is = update_back key place before after rows out ordered is
undone key (Delete map place before) rows out ordered is = delete_back key place before rows out ordered is
undone key (Install name) rows out ordered is = absurd (none_some is)
undone key (Uninstall name) rows out ordered is = absurd (none_some is)
undone key (Create table engine schema) rows out ordered is = absurd (none_some is)
undone key (Drop table) rows out ordered is = absurd (none_some is)

pub is_made : {X : Type 0} (o : Option X) (x : X) → IsTrue (is_some o) → o ≡ Some (unwrap_or o x)
is_made None x some = absurd (let e = some in cc)
is_made (Some it) x some = refl

pub undone_made : (key : Option ℕ) (change : Change) (rows : List (List Value)) → IsOrdered key rows → IsTrue (is_some (changed_rows key change rows)) → undone_rows key change (made_rows key change rows) ≡ Some rows
undone_made key change rows ordered applies = undone key change rows (made_rows key change rows) ordered (is_made (changed_rows key change rows) rows applies)

-- In the log a change is made where it suits the table.
suited : {X : Type 0} (b : Bool) (o : Option X) (x : X) → cond b o None ≡ Some x → o ≡ Some x
suited true o x h = h
suited false o x h = absurd (none_some h)

pub as_logged : (change : Change) (table : Table) (rows : List (List Value)) → rows_after change table ≡ Some rows → changed_rows table.definition.schema.key change table.rows ≡ Some rows
as_logged (Insert map row) table rows is = suited (same_schema map.schema table.definition.schema) (inserted table.definition.schema.key row table.rows) rows is
as_logged (Update map place before after) table rows is = suited (same_schema map.schema table.definition.schema) (updated table.definition.schema.key place before after table.rows) rows is
as_logged (Delete map place before) table rows is = suited (same_schema map.schema table.definition.schema) (deleted table.definition.schema.key place before table.rows) rows is
as_logged (Install name) table rows is = absurd (none_some is)
as_logged (Uninstall name) table rows is = absurd (none_some is)
as_logged (Create name engine schema) table rows is = absurd (none_some is)
as_logged (Drop name) table rows is = absurd (none_some is)
