-- What a list of changes makes of the schema, the rows and the bytes of the tables.
use Rattle.std.proofs.Common.{◌≡◌, ℕ, suc, ◌+◌, ◌-◌, List, [], ◌∷◌, ◌++◌, length, Option, Some, None, Bool, true, false, cond, ◌&&◌, is_some, refl, sym, ap, subst, ◌∙◌, inl, inr, arith, sum_by}
use Rattle.std.specs.Option.{option_or}
use Rattle.std.specs.Str.{bytes_eq}
use Rattle.std.proofs.lemmas.Bool.{and_parts}
use Rattle.std.proofs.lemmas.List.Sums.{sum_by_push, sum_by-cons}
use Rattle.sql_value.specs.declared.value.Value.{Value}
use Rattle.row_format.specs.declared.change.Change.{Change}
use Rattle.row_format.specs.declared.change.Change.TheVariants.{Install, Uninstall, Create, Drop, Insert, Update, Delete}
use Rattle.row_format.specs.Schemas.{same_schema}
use Rattle.row_format.specs.Spelling.{row_image}
use Rattle.log_tables.specs.declared.table.Table.{Table}
use Rattle.log_tables.specs.Keys.{row_with, IsOrdered}
use Rattle.log_tables.specs.Tables.{is_named, table_named, at_table, new_table}
use Rattle.log_tables.specs.Changes.{after_change, after_changes, all_apply, changed, with_rows, rows_after, takes, applies, names_table}
use Rattle.log_tables.proofs.PartLemmas.{cases, cond_true, cond_false, taken}
use Rattle.engine_api.specs.Live.{schema_found, rows_found, row_found, row_at, live_bytes, table_bytes}
use Rattle.live_tables.specs.Folds.{AreInOrder, AreMade, rows_changed, found_after, fits, through, schema_step, rows_step, replaced, row_own, row_step, key_found, bytes_found, change_bytes, freed}
use Rattle.live_tables.proofs.NameLemmas.{no, none_is, found_stays, named_after, applies_found}
use Rattle.live_tables.proofs.RowLemmas.{one, length_sum}
use Rattle.live_tables.proofs.EditLemmas.{some_same, none_some, suited, some_of, sum_of, IsEdit, insert_edit, update_edit, delete_edit, replace, look_replaced}
use Rattle.live_tables.proofs.MadeLemmas.{IsInOrder, found_in_order, made_after}

-- all_apply of an append: the first part, and the second behind it
pub all_apply_append : (cs ds : List Change) (ts : List Table) → all_apply (cs ++ ds) ts ≡ (all_apply cs ts && all_apply ds (after_changes cs ts))
all_apply_append [] ds ts = refl
all_apply_append (c ∷ cs) ds ts =
    ap (λ b. applies c ts && b) (all_apply_append cs ds (after_change c ts))
    ∙ assoc (applies c ts) (all_apply cs (after_change c ts)) (all_apply ds (after_changes cs (after_change c ts)))
  where
    assoc : (x y z : Bool) → (x && (y && z)) ≡ ((x && y) && z)
    assoc true y z = refl
    assoc false y z = refl

-- steps through two lists, one behind the other
pub through_append : {X : Type 0} (step : Change → X → X) (cs ds : List Change) (x : X) → through step (cs ++ ds) x ≡ through step ds (through step cs x)
through_append step [] ds x = refl
through_append step (c ∷ cs) ds x = through_append step cs ds (step c x)

-- rows change, the schema stays
schema_stays : (c : Change) (o : Option Table) → schema_found (rows_changed c o) ≡ schema_found o
schema_stays c None = refl
schema_stays c (Some t) = stays (rows_after c t)
  where
    stays : (o : Option (List (List Value))) → Some (with_rows t o).definition.schema ≡ Some t.definition.schema
    stays None = refl
    stays (Some rows) = refl

schema_row : (b : Bool) (c : Change) (o : Option Table) → schema_found (cond b (rows_changed c o) o) ≡ cond b (schema_found o) (schema_found o)
schema_row true c o = schema_stays c o
schema_row false c o = refl

schema_one : (n : List ℕ) (c : Change) (o : Option Table) → schema_found (found_after n c o) ≡ schema_step n c (schema_found o)
schema_one n (Create m e s) o = go (bytes_eq m n) o
  where
    go : (b : Bool) (o : Option Table) → schema_found (cond b (option_or o (Some (new_table m e s))) o) ≡ cond b (option_or (schema_found o) (Some s)) (schema_found o)
    go true None = refl
    go true (Some t) = refl
    go false o = refl
schema_one n (Drop m) o = go (bytes_eq m n)
  where
    go : (b : Bool) → schema_found (cond b None o) ≡ cond b None (schema_found o)
    go true = refl
    go false = refl
schema_one n (Insert map row) o = schema_row (bytes_eq map.table n) (Insert map row) o
schema_one n (Update map place before after) o = schema_row (bytes_eq map.table n) (Update map place before after) o
schema_one n (Delete map place before) o = schema_row (bytes_eq map.table n) (Delete map place before) o
schema_one n (Install e) o = refl
schema_one n (Uninstall e) o = refl

-- The schema under a name after changes.
pub schema_after : (n : List ℕ) (cs : List Change) (ts : List Table) → AreMade ts
    → schema_found (table_named n (after_changes cs ts)) ≡ through (schema_step n) cs (schema_found (table_named n ts))
schema_after n [] ts made = refl
schema_after n (c ∷ cs) ts made =
    schema_after n cs (after_change c ts) (made_after c ts made)
    ∙ ap (through (schema_step n) cs) (ap schema_found (named_after n c ts made.names) ∙ schema_one n c (table_named n ts))

-- a change that applies fits what stands under its name
pub fits_named : (n : List ℕ) (c : Change) (ts : List Table) → applies c ts ≡ true → names_table n c ≡ true → fits c (table_named n ts) ≡ true
fits_named n c ts fit own = sym (applies_found n c ts own) ∙ fit

-- sums over the rows of what was found, after a row change that applies
pub edit_sum : (f : List Value → ℕ) (c : Change) (e : IsEdit c) (o : Option Table) → takes c o ≡ true → IsInOrder o
    → sum_by f (rows_found (rows_changed c o)) + sum_of f e.before ≡ sum_by f (rows_found o) + sum_of f e.after
edit_sum f c e None fit ordered = absurd (no fit)
edit_sum f c e (Some t) fit ordered =
    let rows = some_of (rows_after c t) fit in
    ap (λ o. sum_by f (with_rows t o).rows + sum_of f e.before) rows.1 ∙ e.sums f t rows.0 rows.1 ordered

edit_count : (c : Change) (e : IsEdit c) (o : Option Table) → takes c o ≡ true → IsInOrder o
    → length (rows_found (rows_changed c o)) + sum_of one e.before ≡ length (rows_found o) + sum_of one e.after
edit_count c e o fit ordered =
    let sum = edit_sum one c e o fit ordered in
    omega (arith, sum, length_sum (rows_found (rows_changed c o)), length_sum (rows_found o))

count_one : (n : List ℕ) (c : Change) (o : Option Table) → (names_table n c ≡ true → fits c o ≡ true) → IsInOrder o → length (rows_found (found_after n c o)) ≡ rows_step n c (length (rows_found o))
count_one n (Create m e s) o fit ordered = go (bytes_eq m n) o
  where
    go : (b : Bool) (o : Option Table) → length (rows_found (cond b (option_or o (Some (new_table m e s))) o)) ≡ cond b (length (rows_found o)) (length (rows_found o))
    go true None = refl
    go true (Some t) = refl
    go false o = refl
count_one n (Drop m) o fit ordered = go (bytes_eq m n)
  where
    go : (b : Bool) → length (rows_found (cond b None o)) ≡ cond b 0 (length (rows_found o))
    go true = refl
    go false = refl
count_one n (Insert map row) o fit ordered = go (bytes_eq map.table n) fit
  where
    go : (b : Bool) → (b ≡ true → takes (Insert map row) o ≡ true) → length (rows_found (cond b (rows_changed (Insert map row) o) o)) ≡ cond b (suc (length (rows_found o))) (length (rows_found o))
    go true fit = let all = edit_count (Insert map row) (insert_edit map row) o (fit refl) ordered in omega (arith, all)
    go false fit = refl
count_one n (Update map place before after) o fit ordered = go (bytes_eq map.table n) fit
  where
    go : (b : Bool) → (b ≡ true → takes (Update map place before after) o ≡ true)
        → length (rows_found (cond b (rows_changed (Update map place before after) o) o)) ≡ cond b (length (rows_found o)) (length (rows_found o))
    go true fit = let all = edit_count (Update map place before after) (update_edit map place before after) o (fit refl) ordered in omega (arith, all)
    go false fit = refl
count_one n (Delete map place before) o fit ordered = go (bytes_eq map.table n) fit
  where
    go : (b : Bool) → (b ≡ true → takes (Delete map place before) o ≡ true)
        → length (rows_found (cond b (rows_changed (Delete map place before) o) o)) ≡ cond b (length (rows_found o) - 1) (length (rows_found o))
    go true fit = let all = edit_count (Delete map place before) (delete_edit map place before) o (fit refl) ordered in omega (arith, all)
    go false fit = refl
count_one n (Install e) o fit ordered = refl
count_one n (Uninstall e) o fit ordered = refl

-- The number of rows under a name after changes that apply.
pub count_after : (n : List ℕ) (cs : List Change) (ts : List Table) → AreMade ts → all_apply cs ts ≡ true
    → length (rows_found (table_named n (after_changes cs ts))) ≡ through (rows_step n) cs (length (rows_found (table_named n ts)))
count_after n [] ts made fit = refl
count_after n (c ∷ cs) ts made fit =
    let both = and_parts (applies c ts) (all_apply cs (after_change c ts)) fit in
    count_after n cs (after_change c ts) (made_after c ts made) both.1
    ∙ ap (through (rows_step n) cs)
    (ap (λ o. length (rows_found o)) (named_after n c ts made.names) ∙ count_one n c (table_named n ts) (fits_named n c ts both.0) (found_in_order n ts made.rows))

-- the row is what is found by the key in this column, where the table has its key there
pub record IsFor (column : ℕ) (key : Value) (o : Option Table) (r : Option (List Value)) : Type 0 where
  pub nowhere : o ≡ None → r ≡ None
  pub there : (t : Table) → o ≡ Some t → t.definition.schema.key ≡ Some column → r ≡ row_with column key t.rows

-- a row change that applies to a table with this key column
edit_row : (column : ℕ) (key : Value) (c : Change) (e : IsEdit c) (t : Table) (r : Option (List Value)) → takes c (Some t) ≡ true → IsFor column key (Some t) r
    → IsFor column key (rows_changed c (Some t)) (row_own column key c r)
edit_row column key c e t r fit is =
    let rows = some_of (rows_after c t) fit in
    record {
      nowhere = λ none. absurd (none_some (sym none));
      there = λ u same keyed.
          let at : with_rows t (Some rows.0) ≡ u = sym (ap (with_rows t) rows.1) ∙ some_same same in
          let key_is : t.definition.schema.key ≡ Some column = ap (λ (x : Table). x.definition.schema.key) at ∙ keyed in
          let taken : replace column e.before e.after t.rows ≡ Some rows.0 =
          suited (same_schema e.map.schema t.definition.schema) (replace column e.before e.after t.rows) rows.0 (sym (e.rows t column key_is) ∙ rows.1) in
          e.own column key r
          ∙ ap (replaced column key e.before e.after) (is.there t refl key_is)
          ∙ sym (look_replaced column key e.before e.after t.rows rows.0 taken)
          ∙ ap (λ (x : Table). row_with column key x.rows) at;
    }

-- what a row change of the table of this name makes of what was found
edit_found : (n : List ℕ) (column : ℕ) (key : Value) (c : Change) (e : IsEdit c) (o : Option Table) (r : Option (List Value)) → names_table n c ≡ true → fits c o ≡ true → IsFor column key o r
    → IsFor column key (found_after n c o) (row_own column key c r)
edit_found n column key c e o r own fit is =
    let after : found_after n c o ≡ rows_changed c o = e.found n o ∙ cond_true (bytes_eq e.map.table n) (rows_changed c o) o (sym (e.named n) ∙ own) in
    subst (λ x. IsFor column key x (row_own column key c r)) (sym after) (go o (sym (e.fit o) ∙ fit) is)
  where
    go : (o : Option Table) → takes c o ≡ true → IsFor column key o r → IsFor column key (rows_changed c o) (row_own column key c r)
    go None fits_it is_it = absurd (no fits_it)
    go (Some t) fits_it is_it = edit_row column key c e t r fits_it is_it

-- of a table of this name
own_row : (n : List ℕ) (column : ℕ) (key : Value) (c : Change) (o : Option Table) (r : Option (List Value)) → names_table n c ≡ true → fits c o ≡ true → IsFor column key o r
    → IsFor column key (found_after n c o) (row_own column key c r)
own_row n column key (Create m e s) o r own fit is =
    let none : o ≡ None = none_is o fit in
    let new : found_after n (Create m e s) o ≡ Some (new_table m e s) =
    cond_true (bytes_eq m n) (option_or o (Some (new_table m e s))) o own ∙ ap (λ x. option_or x (Some (new_table m e s))) none in
    subst (λ x. IsFor column key x r) (sym new) (record {
      nowhere = λ never. absurd (none_some (sym never));
      there = λ t same keyed. is.nowhere none ∙ ap (λ (x : Table). row_with column key x.rows) (some_same same);
    })
own_row n column key (Drop m) o r own fit is =
    subst (λ x. IsFor column key x None) (sym (cond_true (bytes_eq m n) None o own)) (record { nowhere = λ none. refl; there = λ t same keyed. absurd (none_some same) })
own_row n column key (Insert map row) o r own fit is = edit_found n column key (Insert map row) (insert_edit map row) o r own fit is
own_row n column key (Update map place before after) o r own fit is = edit_found n column key (Update map place before after) (update_edit map place before after) o r own fit is
own_row n column key (Delete map place before) o r own fit is = edit_found n column key (Delete map place before) (delete_edit map place before) o r own fit is
own_row n column key (Install e) o r own fit is = absurd (no own)
own_row n column key (Uninstall e) o r own fit is = absurd (no own)

row_one : (n : List ℕ) (column : ℕ) (key : Value) (c : Change) (o : Option Table) (r : Option (List Value)) → (names_table n c ≡ true → fits c o ≡ true) → IsFor column key o r
    → IsFor column key (found_after n c o) (row_step n column key c r)
row_one n column key c o r fit is = elim (cases (names_table n c)) [
  | inl own ↦ subst (IsFor column key (found_after n c o)) (sym (cond_true (names_table n c) (row_own column key c r) r own)) (own_row n column key c o r own (fit own) is)
  | inr other ↦
      subst (λ x. IsFor column key x (row_step n column key c r)) (sym (found_stays n c o other))
      (subst (IsFor column key o) (sym (cond_false (names_table n c) (row_own column key c r) r other)) is)
]

row_through : (n : List ℕ) (column : ℕ) (key : Value) (cs : List Change) (ts : List Table) (r : Option (List Value)) → AreMade ts → all_apply cs ts ≡ true → IsFor column key (table_named n ts) r
    → IsFor column key (table_named n (after_changes cs ts)) (through (row_step n column key) cs r)
row_through n column key [] ts r made fit is = is
row_through n column key (c ∷ cs) ts r made fit is =
    let both = and_parts (applies c ts) (all_apply cs (after_change c ts)) fit in
    row_through n column key cs (after_change c ts) (row_step n column key c r) (made_after c ts made) both.1
    (subst (λ x. IsFor column key x (row_step n column key c r)) (sym (named_after n c ts made.names)) (row_one n column key c (table_named n ts) r (fits_named n c ts both.0) is))

-- what is found by key is the row for it
pub row_for : (column : ℕ) (key : Value) (o : Option Table) → IsFor column key o (row_found o key)
row_for column key None = record { nowhere = λ none. refl; there = λ t same keyed. absurd (none_some same) }
row_for column key (Some t) = record {
  nowhere = λ none. absurd (none_some (sym none));
  there = λ u same keyed. ap (λ (x : Table). row_at x.definition.schema.key x.rows key) (some_same same) ∙ ap (λ k. row_at k u.rows key) keyed;
}

pub found_for : (column : ℕ) (key : Value) (o : Option Table) (r : Option (List Value)) → IsFor column key o r → key_found o ≡ Some column → r ≡ row_found o key
found_for column key None r is keyed = is.nowhere refl
found_for column key (Some t) r is keyed = is.there t refl keyed ∙ sym (ap (λ k. row_at k t.rows key) keyed)

-- What is found by key after changes that apply, in a table with this key column.
pub row_after : (n : List ℕ) (column : ℕ) (key : Value) (cs : List Change) (ts : List Table) → AreMade ts → all_apply cs ts ≡ true
    → key_found (table_named n (after_changes cs ts)) ≡ Some column
    → through (row_step n column key) cs (row_found (table_named n ts) key) ≡ row_found (table_named n (after_changes cs ts)) key
row_after n column key cs ts made fit keyed =
    found_for column key (table_named n (after_changes cs ts)) (through (row_step n column key) cs (row_found (table_named n ts) key))
    (row_through n column key cs ts (row_found (table_named n ts) key) made fit (row_for column key (table_named n ts))) keyed

-- bytes

-- the bytes of a row
abbrev pub image : List Value → ℕ
image row = length (row_image row)

-- A table that is taken out gives its bytes back.
pub drop_bytes : (n : List ℕ) (ts : List Table) → live_bytes (at_table n (λ _. []) ts) + bytes_found (table_named n ts) ≡ live_bytes ts
drop_bytes n [] = refl
drop_bytes n (t ∷ ts) = elim (cases (is_named n t)) [
  | inl here ↦
      let all = sum_by-cons table_bytes t ts in
      ap (λ l. live_bytes l + bytes_found (table_named n (t ∷ ts))) (cond_true (is_named n t) ts (t ∷ at_table n (λ _. []) ts) here)
      ∙ ap (λ o. live_bytes ts + bytes_found o) (cond_true (is_named n t) (Some t) (table_named n ts) here)
      ∙ omega (arith, all)
  | inr past ↦
      let rest = drop_bytes n ts in
      let all = sum_by-cons table_bytes t ts in
      let new = sum_by-cons table_bytes t (at_table n (λ _. []) ts) in
      ap (λ l. live_bytes l + bytes_found (table_named n (t ∷ ts))) (cond_false (is_named n t) ts (t ∷ at_table n (λ _. []) ts) past)
      ∙ ap (λ o. live_bytes (t ∷ at_table n (λ _. []) ts) + bytes_found o) (cond_false (is_named n t) (Some t) (table_named n ts) past)
      ∙ omega (arith, rest, all, new)
]

-- A row change that applies to a table adds the bytes of the row after, and takes those of the row before.
pub edit_bytes : (c : Change) (e : IsEdit c) (t : Table) → takes c (Some t) ≡ true → IsOrdered t.definition.schema.key t.rows
    → table_bytes (with_rows t (rows_after c t)) + sum_of image e.before ≡ table_bytes t + sum_of image e.after
edit_bytes c e t fit ordered =
    let rows = some_of (rows_after c t) fit in
    let sum = e.sums image t rows.0 rows.1 ordered in
    ap (λ o. table_bytes (with_rows t o) + sum_of image e.before) rows.1 ∙ omega (arith, sum)

edit_all_bytes : (n : List ℕ) (c : Change) (e : IsEdit c) (ts : List Table) → takes c (table_named n ts) ≡ true → AreInOrder ts
    → live_bytes (at_table n (changed c) ts) + sum_of image e.before ≡ live_bytes ts + sum_of image e.after
edit_all_bytes n c e [] fit ordered = absurd (no fit)
edit_all_bytes n c e (t ∷ ts) fit ordered = elim (cases (is_named n t)) [
  | inl here ↦
      let first = edit_bytes c e t (sym (ap (takes c) (cond_true (is_named n t) (Some t) (table_named n ts) here)) ∙ fit) ordered.0 in
      let all = sum_by-cons table_bytes t ts in
      let new = sum_by-cons table_bytes (with_rows t (rows_after c t)) ts in
      ap (λ l. live_bytes l + sum_of image e.before) (cond_true (is_named n t) (changed c t ++ ts) (t ∷ at_table n (changed c) ts) here)
      ∙ omega (arith, first, all, new)
  | inr past ↦
      let rest = edit_all_bytes n c e ts (sym (ap (takes c) (cond_false (is_named n t) (Some t) (table_named n ts) past)) ∙ fit) ordered.1 in
      let all = sum_by-cons table_bytes t ts in
      let new = sum_by-cons table_bytes t (at_table n (changed c) ts) in
      ap (λ l. live_bytes l + sum_of image e.before) (cond_false (is_named n t) (changed c t ++ ts) (t ∷ at_table n (changed c) ts) past)
      ∙ omega (arith, rest, all, new)
]

-- A change that applies adds its bytes, and takes some.
pub bytes_one : (c : Change) (ts : List Table) → applies c ts ≡ true → AreInOrder ts → live_bytes (after_change c ts) + freed c ts ≡ live_bytes ts + change_bytes c
bytes_one (Create n e s) ts fit ordered =
    let push = sum_by_push table_bytes ts (new_table n e s) in
    ap (λ l. live_bytes l + 0) (cond_false (is_some (table_named n ts)) ts (ts ++ new_table n e s ∷ []) (taken (table_named n ts) fit)) ∙ omega (arith, push)
bytes_one (Drop n) ts fit ordered = let all = drop_bytes n ts in omega (arith, all)
bytes_one (Insert map row) ts fit ordered = edit_all_bytes map.table (Insert map row) (insert_edit map row) ts fit ordered
bytes_one (Update map place before after) ts fit ordered = edit_all_bytes map.table (Update map place before after) (update_edit map place before after) ts fit ordered
bytes_one (Delete map place before) ts fit ordered = edit_all_bytes map.table (Delete map place before) (delete_edit map place before) ts fit ordered
bytes_one (Install e) ts fit ordered = omega arith
bytes_one (Uninstall e) ts fit ordered = omega arith
