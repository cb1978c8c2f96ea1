-- A row change takes a row out and puts one in: when it applies to a table with a key, which row each key then has, and that the rows stay
-- in order.
use Rattle.std.proofs.Common.{◌≡◌, ℕ, ◌+◌, ◌<◌, List, [], ◌∷◌, ◌++◌, length, get_or, set, Option, Some, None, Bool, true, false, cond, not, ◌&&◌, ◌||◌, is_some, refl, sym, ap, ◌∙◌, inl, inr, ◌⊎◌, arith, sum_by}
use Rattle.std.specs.Prelude.{option_and_then, slice_get}
use Rattle.std.specs.List.{remove}
use Rattle.std.specs.Str.{bytes_eq}
use Rattle.std.proofs.lemmas.Bool.{and_parts}
use Rattle.std.proofs.lemmas.Option.{slice_get_within, get_or_from_slice_get}
use Rattle.std.proofs.lemmas.List.Sums.{sum_by-remove, sum_by-set}
use Rattle.sql_value.specs.declared.value.Value.{Value}
use Rattle.sql_value.specs.Values.{same_value}
use Rattle.sql_value.proofs.SameLemmas.{same_value_refl}
use Rattle.row_format.specs.Schemas.{same_schema}
use Rattle.row_format.specs.declared.change.TableMap.{TableMap}
use Rattle.row_format.specs.declared.change.Change.{Change}
use Rattle.row_format.specs.declared.change.Change.TheVariants.{Install, Uninstall, Create, Drop, Insert, Update, Delete}
use Rattle.row_format.proofs.SameLemmas.{same_row-true}
use Rattle.log_tables.specs.declared.table.Table.{Table}
use Rattle.log_tables.specs.Keys.{key_in, row_with, without_key, in_key_order, is_row, inserted, deleted, updated, IsInKeyOrder, IsOrdered}
use Rattle.log_tables.specs.Changes.{rows_after, takes, names_table}
use Rattle.log_tables.proofs.PartLemmas.{cond_false}
use Rattle.log_tables.proofs.KeyLemmas.{row_with-without, row_with-more}
use Rattle.log_tables.proofs.OrderLemmas.{IsOrdered-inserted, IsOrdered-deleted, IsOrdered-updated, without_sum, ordered_same}
use Rattle.engine_api.specs.Live.{keys_in, keys_of}
use Rattle.live_tables.specs.Folds.{rows_changed, found_after, fits, has, replaced, row_own}
use Rattle.live_tables.proofs.NameLemmas.{no, yes_no, not_true, none_when}
use Rattle.live_tables.proofs.RowLemmas.{sum_by-placed}

pub some_same : {X : Type 0} {x y : X} → Some x ≡ Some y → x ≡ y
some_same q = cc

pub none_some : {X : Type 0} {x : X} → None ≡ Some x → ⊥
none_some q = cc

-- what is taken under a test
pub taken_if : {X : Type 0} (b : Bool) (x out : X) → cond b (Some x) None ≡ Some out → (b ≡ true) × (x ≡ out)
taken_if true x out q = (refl, some_same q)
taken_if false x out q = absurd (none_some q)

pub taken_unless : {X : Type 0} (b : Bool) (x out : X) → cond b None (Some x) ≡ Some out → (b ≡ false) × (x ≡ out)
taken_unless true x out q = absurd (none_some q)
taken_unless false x out q = (refl, some_same q)

pub suited : {X : Type 0} (b : Bool) (o : Option X) (x : X) → cond b o None ≡ Some x → o ≡ Some x
suited true o x h = h
suited false o x h = absurd (none_some h)

pub suits_if : {X : Type 0} (b : Bool) (o : Option X) → is_some (cond b o None) ≡ true → b ≡ true
suits_if true o h = refl
suits_if false o h = absurd (no h)

pub some_of : {X : Type 0} (o : Option X) → is_some o ≡ true → (x : X) × (o ≡ Some x)
some_of None h = absurd (no h)
some_of (Some x) h = (x, refl)

pub is_row_true : (o : Option (List Value)) (row : List Value) → is_row o row ≡ true → o ≡ Some row
is_row_true None row h = absurd (no h)
is_row_true (Some it) row h = ap Some (same_row-true it row h)

-- the rows without this one, and with it
abbrev pub less : ℕ → Option (List Value) → List (List Value) → List (List Value)
less column None rows = rows
less column (Some row) rows = without_key column (key_in column row) rows

abbrev pub more : ℕ → Option (List Value) → List (List Value) → List (List Value)
more column None rows = rows
more column (Some row) rows = in_key_order column row rows

-- the row stands there, and its key is free
abbrev pub stands : ℕ → Option (List Value) → List (List Value) → Bool
stands column None rows = true
stands column (Some row) rows = is_row (row_with column (key_in column row) rows) row

abbrev pub is_free : ℕ → Option (List Value) → List (List Value) → Bool
is_free column None rows = true
is_free column (Some row) rows = not (is_some (row_with column (key_in column row) rows))

abbrev pub can_replace : ℕ → Option (List Value) → Option (List Value) → List (List Value) → Bool
can_replace column before after rows = stands column before rows && is_free column after (less column before rows)

abbrev pub replace : ℕ → Option (List Value) → Option (List Value) → List (List Value) → Option (List (List Value))
replace column before after rows = cond (can_replace column before after rows) (Some (more column after (less column before rows))) None

flip : {X : Type 0} (b : Bool) (x : X) → cond b None (Some x) ≡ cond (not b) (Some x) None
flip true x = refl
flip false x = refl

plain : {X : Type 0} (b : Bool) (x : X) → cond b (Some x) None ≡ cond (b && true) (Some x) None
plain true x = refl
plain false x = refl

pub inserted_is : (column : ℕ) (row : List Value) (rows : List (List Value)) → inserted (Some column) row rows ≡ replace column None (Some row) rows
inserted_is column row rows = flip (is_some (row_with column (key_in column row) rows)) (in_key_order column row rows)

pub deleted_is : (column place : ℕ) (row : List Value) (rows : List (List Value)) → deleted (Some column) place row rows ≡ replace column (Some row) None rows
deleted_is column place row rows = plain (is_row (row_with column (key_in column row) rows) row) (without_key column (key_in column row) rows)

pub updated_is : (column place : ℕ) (before after : List Value) (rows : List (List Value)) → updated (Some column) place before after rows ≡ replace column (Some before) (Some after) rows
updated_is column place before after rows = go (is_row (row_with column (key_in column before) rows) before)
  where
    rest : List (List Value)
    rest = without_key column (key_in column before) rows

    go : (b : Bool) → option_and_then (inserted (Some column) after) (cond b (Some rest) None) ≡ cond (b && not (is_some (row_with column (key_in column after) rest))) (Some (in_key_order column after rest)) None
    go true = flip (is_some (row_with column (key_in column after) rest)) (in_key_order column after rest)
    go false = refl

-- the keys of a row, where there is one
abbrev pub keys_at : ℕ → Option (List Value) → List Value
keys_at column None = []
keys_at column (Some row) = key_in column row ∷ []

abbrev pub sum_of : (List Value → ℕ) → Option (List Value) → ℕ
sum_of f None = 0
sum_of f (Some row) = f row

-- sums over the rows that an Insert, a Delete and an Update leave

pub inserted_sum : (f : List Value → ℕ) (key : Option ℕ) (row : List Value) (rows out : List (List Value)) → inserted key row rows ≡ Some out → sum_by f out ≡ sum_by f rows + f row
inserted_sum f None row rows out is = ap (sum_by f) (sym (some_same is)) ∙ sum_by-placed f None row rows
inserted_sum f (Some column) row rows out is =
    ap (sum_by f) (sym (taken_unless (is_some (row_with column (key_in column row) rows)) (in_key_order column row rows) out is).1) ∙ sum_by-placed f (Some column) row rows

stood : (rows : List (List Value)) (place : ℕ) (row : List Value) → is_row (slice_get rows place) row ≡ true → (place < length rows) × (get_or rows place row ≡ row)
stood rows place row is =
    let found = is_row_true (slice_get rows place) row is in
    (slice_get_within rows place row found, get_or_from_slice_get rows place row row found)

pub deleted_sum : (f : List Value → ℕ) (key : Option ℕ) (place : ℕ) (before : List Value) (rows out : List (List Value)) → deleted key place before rows ≡ Some out → IsOrdered key rows
    → sum_by f out + f before ≡ sum_by f rows
deleted_sum f None place before rows out is ordered =
    let parts = taken_if (is_row (slice_get rows place) before) (remove rows place) out is in
    let at = stood rows place before parts.0 in
    ap (λ l. sum_by f l + f before) (sym parts.1) ∙ ap (λ r. sum_by f (remove rows place) + f r) (sym at.1) ∙ sum_by-remove f rows place before at.0
deleted_sum f (Some column) place before rows out is ordered =
    let parts = taken_if (is_row (row_with column (key_in column before) rows) before) (without_key column (key_in column before) rows) out is in
    ap (λ l. sum_by f l + f before) (sym parts.1) ∙ without_sum f column (key_in column before) rows before ordered (is_row_true (row_with column (key_in column before) rows) before parts.0)

pub updated_sum : (f : List Value → ℕ) (key : Option ℕ) (place : ℕ) (before after : List Value) (rows out : List (List Value)) → updated key place before after rows ≡ Some out → IsOrdered key rows
    → sum_by f out + f before ≡ sum_by f rows + f after
updated_sum f None place before after rows out is ordered =
    let parts = taken_if (is_row (slice_get rows place) before) (set rows place after) out is in
    let at = stood rows place before parts.0 in
    ap (λ l. sum_by f l + f before) (sym parts.1) ∙ ap (λ r. sum_by f (set rows place after) + f r) (sym at.1) ∙ sum_by-set f rows place after before at.0
updated_sum f (Some column) place before after rows out is ordered = go (deleted (Some column) place before rows) refl is
  where
    go : (o : Option (List (List Value))) → deleted (Some column) place before rows ≡ o → option_and_then (inserted (Some column) after) o ≡ Some out → sum_by f out + f before ≡ sum_by f rows + f after
    go None e h = absurd (none_some h)
    go (Some rest) e h =
        let first = deleted_sum f (Some column) place before rows rest e ordered in
        let second = inserted_sum f (Some column) after rest out h in
        omega (arith, first, second)

-- What a row change is: the table map, the row that goes, and the row that comes.
pub record IsEdit (c : Change) : Type 0 where
  pub map : TableMap
  pub before : Option (List Value)
  pub after : Option (List Value)
  pub named : (n : List ℕ) → names_table n c ≡ bytes_eq map.table n
  pub found : (n : List ℕ) (o : Option Table) → found_after n c o ≡ cond (bytes_eq map.table n) (rows_changed c o) o
  pub fit : (o : Option Table) → fits c o ≡ takes c o
  pub rows : (t : Table) (column : ℕ) → t.definition.schema.key ≡ Some column → rows_after c t ≡ cond (same_schema map.schema t.definition.schema) (replace column before after t.rows) None
  pub keys : (column : ℕ) → map.schema.key ≡ Some column → keys_of c ≡ keys_at column before ++ keys_at column after
  pub keyless : map.schema.key ≡ None → keys_of c ≡ []
  pub suits : (t : Table) → takes c (Some t) ≡ true → same_schema map.schema t.definition.schema ≡ true
  pub sums : (f : List Value → ℕ) (t : Table) (out : List (List Value)) → rows_after c t ≡ Some out → IsOrdered t.definition.schema.key t.rows → sum_by f out + sum_of f before ≡ sum_by f t.rows + sum_of f after
  pub ordered : (t : Table) (out : List (List Value)) → rows_after c t ≡ Some out → IsOrdered t.definition.schema.key t.rows → IsOrdered t.definition.schema.key out
  pub own : (column : ℕ) (key : Value) (o : Option (List Value)) → row_own column key c o ≡ replaced column key before after o

abbrev pub insert_edit : (map : TableMap) (row : List Value) → IsEdit (Insert map row)
insert_edit map row = record {
  map = map;
  before = None;
  after = Some row;
  named = λ n. refl;
  found = λ n o. refl;
  fit = λ o. refl;
  rows = λ t column at. ap (λ o. cond (same_schema map.schema t.definition.schema) o None) (ap (λ k. inserted k row t.rows) at ∙ inserted_is column row t.rows);
  keys = λ column at. ap (λ k. keys_in k row) at;
  keyless = λ at. ap (λ k. keys_in k row) at;
  suits = λ t h. suits_if (same_schema map.schema t.definition.schema) (inserted t.definition.schema.key row t.rows) h;
  sums = λ f t out is in_order.
      let sum = inserted_sum f t.definition.schema.key row t.rows out (suited (same_schema map.schema t.definition.schema) (inserted t.definition.schema.key row t.rows) out is) in
      omega (arith, sum);
  ordered = λ t out is in_order.
      IsOrdered-inserted t.definition.schema.key row t.rows out (suited (same_schema map.schema t.definition.schema) (inserted t.definition.schema.key row t.rows) out is) in_order;
  own = λ column key o. refl;
}

abbrev pub update_edit : (map : TableMap) (place : ℕ) (before after : List Value) → IsEdit (Update map place before after)
update_edit map place before after = record {
  map = map;
  before = Some before;
  after = Some after;
  named = λ n. refl;
  found = λ n o. refl;
  fit = λ o. refl;
  rows = λ t column at.
      ap (λ o. cond (same_schema map.schema t.definition.schema) o None) (ap (λ k. updated k place before after t.rows) at ∙ updated_is column place before after t.rows);
  keys = λ column at. ap (λ k. keys_in k before ++ keys_in k after) at;
  keyless = λ at. ap (λ k. keys_in k before ++ keys_in k after) at;
  suits = λ t h. suits_if (same_schema map.schema t.definition.schema) (updated t.definition.schema.key place before after t.rows) h;
  sums = λ f t out is in_order.
      updated_sum f t.definition.schema.key place before after t.rows out
      (suited (same_schema map.schema t.definition.schema) (updated t.definition.schema.key place before after t.rows) out is) in_order;
  ordered = λ t out is in_order.
      IsOrdered-updated t.definition.schema.key place before after t.rows out
      (suited (same_schema map.schema t.definition.schema) (updated t.definition.schema.key place before after t.rows) out is) in_order;
  own = λ column key o. refl;
}

abbrev pub delete_edit : (map : TableMap) (place : ℕ) (before : List Value) → IsEdit (Delete map place before)
delete_edit map place before = record {
  map = map;
  before = Some before;
  after = None;
  named = λ n. refl;
  found = λ n o. refl;
  fit = λ o. refl;
  rows = λ t column at.
      ap (λ o. cond (same_schema map.schema t.definition.schema) o None) (ap (λ k. deleted k place before t.rows) at ∙ deleted_is column place before t.rows);
  keys = λ column at. ap (λ k. keys_in k before) at;
  keyless = λ at. ap (λ k. keys_in k before) at;
  suits = λ t h. suits_if (same_schema map.schema t.definition.schema) (deleted t.definition.schema.key place before t.rows) h;
  sums = λ f t out is in_order.
      let sum = deleted_sum f t.definition.schema.key place before t.rows out
      (suited (same_schema map.schema t.definition.schema) (deleted t.definition.schema.key place before t.rows) out is) in_order in
      omega (arith, sum);
  ordered = λ t out is in_order.
      IsOrdered-deleted t.definition.schema.key place before t.rows out
      (suited (same_schema map.schema t.definition.schema) (deleted t.definition.schema.key place before t.rows) out is) in_order;
  own = λ column key o. refl;
}

-- A change names no key, or it is a row change.
pub edit_of : (c : Change) → (keys_of c ≡ []) ⊎ IsEdit c
edit_of (Insert map row) = inr (insert_edit map row)
edit_of (Update map place before after) = inr (update_edit map place before after)
edit_of (Delete map place before) = inr (delete_edit map place before)
edit_of (Create m e s) = inl refl
edit_of (Drop m) = inl refl
edit_of (Install e) = inl refl
edit_of (Uninstall e) = inl refl

-- A row change applies to a table of its schema where the row that goes is there and the key of the one that comes is free.
pub edit_takes : (c : Change) (e : IsEdit c) (t : Table) (column : ℕ) → t.definition.schema.key ≡ Some column
    → takes c (Some t) ≡ (same_schema e.map.schema t.definition.schema && can_replace column e.before e.after t.rows)
edit_takes c e t column at =
    ap is_some (e.rows t column at) ∙ tests (same_schema e.map.schema t.definition.schema) (can_replace column e.before e.after t.rows)
  where
    tests : (a b : Bool) → is_some (cond a (cond b (Some (more column e.after (less column e.before t.rows))) None) None) ≡ (a && b)
    tests true true = refl
    tests true false = refl
    tests false true = refl
    tests false false = refl

-- which rows are found

less_look : (column : ℕ) (key : Value) (before : Option (List Value)) (rows : List (List Value))
    → row_with column key (less column before rows) ≡ cond (has column key before) None (row_with column key rows)
less_look column key None rows = refl
less_look column key (Some row) rows = row_with-without column (key_in column row) key rows

more_look : (column : ℕ) (key : Value) (after : Option (List Value)) (rows : List (List Value)) → is_free column after rows ≡ true
    → row_with column key (more column after rows) ≡ cond (has column key after) after (row_with column key rows)
more_look column key None rows free = refl
more_look column key (Some row) rows free =
    row_with-more column row key rows (none_when (row_with column (key_in column row) rows) (not_true (is_some (row_with column (key_in column row) rows)) free))

-- What is found for a key, after a row gave way to another.
pub look_replaced : (column : ℕ) (key : Value) (before after : Option (List Value)) (rows out : List (List Value)) → replace column before after rows ≡ Some out
    → row_with column key out ≡ replaced column key before after (row_with column key rows)
look_replaced column key before after rows out is =
    let taken = taken_if (can_replace column before after rows) (more column after (less column before rows)) out is in
    let tests = and_parts (stands column before rows) (is_free column after (less column before rows)) taken.0 in
    ap (row_with column key) (sym taken.1)
    ∙ more_look column key after (less column before rows) tests.1
    ∙ ap (cond (has column key after) after) (less_look column key before rows)

-- one of the two rows has this key
abbrev pub names : ℕ → Value → Option (List Value) → Option (List Value) → Bool
names column key before after = has column key before || has column key after

pub either_false : (a b : Bool) → (a || b) ≡ false → (a ≡ false) × (b ≡ false)
either_false true b h = absurd (no (sym h))
either_false false b h = (refl, h)

-- A key that neither has is found as before.
pub unnamed : (column : ℕ) (key : Value) (before after o : Option (List Value)) → names column key before after ≡ false → replaced column key before after o ≡ o
unnamed column key before after o h =
    let parts = either_false (has column key before) (has column key after) h in
    cond_false (has column key after) after (cond (has column key before) None o) parts.1 ∙ cond_false (has column key before) None o parts.0

pub frame : (column : ℕ) (key : Value) (before after : Option (List Value)) (rows out : List (List Value)) → replace column before after rows ≡ Some out → names column key before after ≡ false
    → row_with column key out ≡ row_with column key rows
frame column key before after rows out is other = look_replaced column key before after rows out is ∙ unnamed column key before after (row_with column key rows) other

or_right : (a b : Bool) → b ≡ true → (a || b) ≡ true
or_right true b h = refl
or_right false b h = h

-- the rows of the keys that it names decide whether it applies

stands_local : (column : ℕ) (before after : Option (List Value)) (rows others : List (List Value))
    → ((key : Value) → names column key before after ≡ true → row_with column key rows ≡ row_with column key others) → stands column before rows ≡ stands column before others
stands_local column None after rows others same = refl
stands_local column (Some row) after rows others same =
    ap (λ o. is_row o row) (same (key_in column row) (ap (λ b. b || has column (key_in column row) after) (same_value_refl (key_in column row))))

free_local : (column : ℕ) (before after : Option (List Value)) (rows others : List (List Value))
    → ((key : Value) → names column key before after ≡ true → row_with column key rows ≡ row_with column key others)
    → is_free column after (less column before rows) ≡ is_free column after (less column before others)
free_local column before None rows others same = refl
free_local column before (Some row) rows others same =
    let key = key_in column row in
    ap (λ o. not (is_some o))
    (less_look column key before rows
    ∙ ap (cond (has column key before) None) (same key (or_right (has column key before) (same_value key key) (same_value_refl key)))
    ∙ sym (less_look column key before others))

pub fit_local : (column : ℕ) (before after : Option (List Value)) (rows others : List (List Value))
    → ((key : Value) → names column key before after ≡ true → row_with column key rows ≡ row_with column key others)
    → can_replace column before after rows ≡ can_replace column before after others
fit_local column before after rows others same =
    ap (λ b. b && is_free column after (less column before rows)) (stands_local column before after rows others same)
    ∙ ap (λ b. stands column before others && b) (free_local column before after rows others same)

-- no key is named by both
abbrev pub AreSeparate : ℕ → Option (List Value) → Option (List Value) → Option (List Value) → Option (List Value) → Type 0
AreSeparate column b1 a1 b2 a2 = (key : Value) → (names column key b1 a1 ≡ false) ⊎ (names column key b2 a2 ≡ false)

pub separate_sym : (column : ℕ) (b1 a1 b2 a2 : Option (List Value)) → AreSeparate column b1 a1 b2 a2 → AreSeparate column b2 a2 b1 a1
separate_sym column b1 a1 b2 a2 apart key = elim (apart key) [
  | inl first ↦ inr first
  | inr second ↦ inl second
]

-- The second applies behind the first as it does before it.
pub fit_either : (column : ℕ) (b1 a1 b2 a2 : Option (List Value)) (rows mid : List (List Value)) → AreSeparate column b1 a1 b2 a2 → replace column b1 a1 rows ≡ Some mid
    → can_replace column b2 a2 mid ≡ can_replace column b2 a2 rows
fit_either column b1 a1 b2 a2 rows mid apart is =
    fit_local column b2 a2 mid rows (λ key named. elim (apart key) [
      | inl other ↦ frame column key b1 a1 rows mid is other
      | inr none ↦ absurd (yes_no (names column key b2 a2) named none)
    ])

-- Both orders come to the same rows.
pub same_end : (column : ℕ) (b1 a1 b2 a2 : Option (List Value)) (rows mid other x y : List (List Value)) → AreSeparate column b1 a1 b2 a2 → replace column b1 a1 rows ≡ Some mid
    → replace column b2 a2 mid ≡ Some x → replace column b2 a2 rows ≡ Some other → replace column b1 a1 other ≡ Some y → IsInKeyOrder column x → IsInKeyOrder column y → x ≡ y
same_end column b1 a1 b2 a2 rows mid other x y apart first second first_b second_b of_x of_y = ordered_same column x y of_x of_y (λ key. each key (apart key))
  where
    each : (key : Value) → (names column key b1 a1 ≡ false) ⊎ (names column key b2 a2 ≡ false) → row_with column key x ≡ row_with column key y
    each key (inl one) =
        look_replaced column key b2 a2 mid x second
        ∙ ap (replaced column key b2 a2) (frame column key b1 a1 rows mid first one)
        ∙ sym (frame column key b1 a1 other y second_b one ∙ look_replaced column key b2 a2 rows other first_b)
    each key (inr two) =
        frame column key b2 a2 mid x second two
        ∙ look_replaced column key b1 a1 rows mid first
        ∙ sym (look_replaced column key b1 a1 other y second_b ∙ ap (replaced column key b1 a1) (frame column key b2 a2 rows other first_b two))
