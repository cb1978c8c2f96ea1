-- Where the row at a place of a table without a key stood before a change, and before changes.
use Rattle.std.proofs.Common.{◌≡◌, ℕ, zero, suc, ◌+◌, ◌-◌, ◌<◌, ◌≤◌, ◌^◌, List, [], ◌∷◌, ◌++◌, length, get_or, take, drop, set, Option, Some, None, true, false, refl, sym, ap, subst, ◌∙◌, inl, inr, ◌⊎◌, arith, length-append, min}
use Rattle.std.specs.Prelude.{slice_get}
use Rattle.std.specs.List.{remove}
use Rattle.std.specs.Option.{option_or}
use Rattle.std.specs.Str.{bytes_eq}
use Rattle.std.proofs.lemmas.Bool.{and_parts, cases_lt}
use Rattle.std.proofs.lemmas.List.{take_more, take-append-drop, take_all, length-set, length-take}
use Rattle.std.proofs.lemmas.List.Edits.{length-remove}
use Rattle.std.proofs.lemmas.Option.{slice_get_within}
use Rattle.sql_value.specs.declared.value.Value.{Value}
use Rattle.row_format.specs.declared.schema.Schema.{Schema}
use Rattle.row_format.specs.declared.change.TableMap.{TableMap}
use Rattle.row_format.specs.declared.change.Change.{Change}
use Rattle.row_format.specs.declared.change.Change.TheVariants.{Create, Drop, Insert, Update, Delete}
use Rattle.row_format.specs.Schemas.{same_schema}
use Rattle.log_tables.specs.declared.table.Table.{Table}
use Rattle.log_tables.specs.Keys.{is_row, inserted, deleted, updated}
use Rattle.log_tables.specs.Tables.{table_named, new_table}
use Rattle.log_tables.specs.Changes.{after_change, after_changes, all_apply, with_rows, rows_after, takes, applies, names_table}
use Rattle.log_tables.proofs.PartLemmas.{cond_true}
use Rattle.log_tables.proofs.FoldLemmas.{after_changes-append}
use Rattle.engine_api.specs.Live.{rows_found}
use Rattle.live_tables.specs.Folds.{AreMade, Applied, rows_changed, found_after, row_in, IsKeyless, CameTo, AllCameTo, StoodAt}
use Rattle.live_tables.proofs.NameLemmas.{no, none_is, found_stays, named_after}
use Rattle.live_tables.proofs.EditLemmas.{some_same, some_of, suited, taken_if, is_row_true}
use Rattle.live_tables.proofs.MadeLemmas.{all_made}
use Rattle.live_tables.proofs.FoldLemmas.{all_apply_append, fits_named}
use Rattle.live_tables.proofs.LookLemmas.{rows_within}

-- rows by place

pub nothing_there : {X : Type 0} (p : ℕ) → slice_get {X = X} [] p ≡ None
nothing_there zero = refl
nothing_there (suc p) = refl

last_there : {X : Type 0} (xs : List X) (x : X) (p : ℕ) → p ≡ length xs → slice_get (xs ++ x ∷ []) p ≡ Some x
last_there [] x zero at = refl
last_there [] x (suc p) at = absurd (omega (arith, at))
last_there (y ∷ ys) x zero at = absurd (omega (arith, at))
last_there (y ∷ ys) x (suc p) at = last_there ys x p (omega (arith, at))

before_last : {X : Type 0} (xs : List X) (x : X) (p : ℕ) → (p ≡ length xs → ⊥) → slice_get (xs ++ x ∷ []) p ≡ slice_get xs p
before_last [] x zero other = absurd (other refl)
before_last [] x (suc p) other = nothing_there p ∙ sym (nothing_there (suc p))
before_last (y ∷ ys) x zero other = refl
before_last (y ∷ ys) x (suc p) other = before_last ys x p (λ at. other (omega (arith, at)))

set_there : {X : Type 0} (xs : List X) (p : ℕ) (x : X) → p < length xs → slice_get (set xs p x) p ≡ Some x
set_there [] p x within = absurd (omega (arith, within))
set_there (y ∷ ys) zero x within = refl
set_there (y ∷ ys) (suc p) x within = set_there ys p x (omega (arith, within))

set_elsewhere : {X : Type 0} (xs : List X) (q : ℕ) (x : X) (p : ℕ) → (p ≡ q → ⊥) → slice_get (set xs q x) p ≡ slice_get xs p
set_elsewhere [] q x p other = refl
set_elsewhere (y ∷ ys) zero x zero other = absurd (other refl)
set_elsewhere (y ∷ ys) zero x (suc p) other = refl
set_elsewhere (y ∷ ys) (suc q) x zero other = refl
set_elsewhere (y ∷ ys) (suc q) x (suc p) other = set_elsewhere ys q x p (λ at. other (ap suc at))

below_removed : {X : Type 0} (xs : List X) (q p : ℕ) → p < q → slice_get (remove xs q) p ≡ slice_get xs p
below_removed [] zero p below = absurd (omega (arith, below))
below_removed [] (suc q) p below = refl
below_removed (y ∷ ys) zero p below = absurd (omega (arith, below))
below_removed (y ∷ ys) (suc q) zero below = refl
below_removed (y ∷ ys) (suc q) (suc p) below = below_removed ys q p (omega (arith, below))

above_removed : {X : Type 0} (xs : List X) (q p : ℕ) → q ≤ p → slice_get (remove xs q) p ≡ slice_get xs (suc p)
above_removed [] zero p above = nothing_there p ∙ sym (nothing_there (suc p))
above_removed [] (suc q) p above = nothing_there p ∙ sym (nothing_there (suc p))
above_removed (y ∷ ys) zero p above = refl
above_removed (y ∷ ys) (suc q) zero above = absurd (omega (arith, above))
above_removed (y ∷ ys) (suc q) (suc p) above = above_removed ys q p (omega (arith, above))

-- A change of another table leaves the row.
pub back_other : (n : List ℕ) (c : Change) (o : Option Table) (p k : ℕ) → names_table n c ≡ false → CameTo n c o k → StoodAt o (row_in p (found_after n c o)) p k
back_other n c o p k other came = record {
  row = ap (row_in p) (found_stays n c o other);
  counted = came.counted ∙ ap (λ x. length (rows_found x)) (found_stays n c o other);
  keyless = subst IsKeyless (found_stays n c o other) came.keyless;
}

-- A table that was made, or taken out, has no row.
pub back_created : (n m e : List ℕ) (s : Schema) (o : Option Table) (p k : ℕ) → bytes_eq m n ≡ true → CameTo n (Create m e s) o k → row_in p (found_after n (Create m e s) o) ≡ None
back_created n m e s o p k own came =
    let none : o ≡ None = none_is o (came.fit own) in
    ap (row_in p) (cond_true (bytes_eq m n) (option_or o (Some (new_table m e s))) o own ∙ ap (λ x. option_or x (Some (new_table m e s))) none) ∙ nothing_there p

pub back_dropped : (n m : List ℕ) (o : Option Table) (p : ℕ) → bytes_eq m n ≡ true → row_in p (found_after n (Drop m) o) ≡ None
back_dropped n m o p own = ap (row_in p) (cond_true (bytes_eq m n) None o own) ∙ nothing_there p

-- what a row change that applies to a table without a key makes of it
record Shape (n : List ℕ) (c : Change) (o : Option Table) : Type 0 where
  table : Table
  is : o ≡ Some table
  keyless : table.definition.schema.key ≡ None
  rows : List (List Value)
  changed : rows_after c table ≡ Some rows
  after : found_after n c o ≡ Some (record { definition = table.definition; rows = rows })

shape : (n : List ℕ) (c : Change) (o : Option Table) → found_after n c o ≡ rows_changed c o → takes c o ≡ true → IsKeyless (found_after n c o) → Shape n c o
shape n c None found fit keyless = absurd (no fit)
shape n c (Some t) found fit keyless =
    let rows = some_of (rows_after c t) fit in
    let after : found_after n c (Some t) ≡ Some (record { definition = t.definition; rows = rows.0 }) = found ∙ ap (λ x. Some (with_rows t x)) rows.1 in
    record { table = t; is = refl; keyless = subst IsKeyless after keyless; rows = rows.0; changed = rows.1; after = after }

-- the row before, the count and the key, of that table
stood : (n : List ℕ) (c : Change) (o : Option Table) (p q k : ℕ) → (it : Shape n c o) → slice_get it.rows p ≡ slice_get it.table.rows q → k ≡ length it.table.rows
    → StoodAt o (row_in p (found_after n c o)) q k
stood n c o p q k it same counted = record {
  row = ap (row_in p) it.after ∙ same ∙ sym (ap (row_in q) it.is);
  counted = counted ∙ sym (ap (λ x. length (rows_found x)) it.is);
  keyless = subst IsKeyless (sym it.is) it.keyless;
}

insert_shape : (n : List ℕ) (map : TableMap) (row : List Value) (o : Option Table) (k : ℕ) → bytes_eq map.table n ≡ true → CameTo n (Insert map row) o k → Shape n (Insert map row) o
insert_shape n map row o k own came =
    shape n (Insert map row) o (cond_true (bytes_eq map.table n) (rows_changed (Insert map row) o) o own) (came.fit own) came.keyless

insert_rows : (n : List ℕ) (map : TableMap) (row : List Value) (o : Option Table) → (it : Shape n (Insert map row) o) → it.rows ≡ it.table.rows ++ row ∷ []
insert_rows n map row o it =
    let made = suited (same_schema map.schema it.table.definition.schema) (inserted it.table.definition.schema.key row it.table.rows) it.rows it.changed in
    some_same (sym made ∙ ap (λ key. inserted key row it.table.rows) it.keyless)

insert_count : (n : List ℕ) (map : TableMap) (row : List Value) (o : Option Table) (k : ℕ) → (it : Shape n (Insert map row) o) → CameTo n (Insert map row) o k → k ≡ length it.table.rows + 1
insert_count n map row o k it came =
    came.counted ∙ ap (λ x. length (rows_found x)) it.after ∙ ap length (insert_rows n map row o it) ∙ length-append it.table.rows (row ∷ [])

-- The last row is the one that an Insert added.
pub back_inserted : (n : List ℕ) (map : TableMap) (row : List Value) (o : Option Table) (p k : ℕ) → bytes_eq map.table n ≡ true → CameTo n (Insert map row) o k → p + 1 ≡ k
    → row_in p (found_after n (Insert map row) o) ≡ Some row
back_inserted n map row o p k own came last =
    let it = insert_shape n map row o k own came in
    let count = insert_count n map row o k it came in
    ap (row_in p) it.after ∙ ap (λ l. slice_get l p) (insert_rows n map row o it) ∙ last_there it.table.rows row p (omega (arith, count, last))

-- Each other row stood where it stands.
pub back_before_insert : (n : List ℕ) (map : TableMap) (row : List Value) (o : Option Table) (p k less : ℕ) → bytes_eq map.table n ≡ true → CameTo n (Insert map row) o k → (p + 1 ≡ k → ⊥)
    → less ≡ k - 1 → StoodAt o (row_in p (found_after n (Insert map row) o)) p less
back_before_insert n map row o p k less own came other one_less =
    let it = insert_shape n map row o k own came in
    let count = insert_count n map row o k it came in
    stood n (Insert map row) o p p less it
    (ap (λ l. slice_get l p) (insert_rows n map row o it) ∙ before_last it.table.rows row p (λ at. other (omega (arith, count, at)))) (omega (arith, count, one_less))

update_shape : (n : List ℕ) (map : TableMap) (place : ℕ) (old new : List Value) (o : Option Table) (k : ℕ) → bytes_eq map.table n ≡ true → CameTo n (Update map place old new) o k
    → Shape n (Update map place old new) o
update_shape n map place old new o k own came =
    shape n (Update map place old new) o (cond_true (bytes_eq map.table n) (rows_changed (Update map place old new) o) o own) (came.fit own) came.keyless

update_rows : (n : List ℕ) (map : TableMap) (place : ℕ) (old new : List Value) (o : Option Table) → (it : Shape n (Update map place old new) o)
    → (place < length it.table.rows) × (it.rows ≡ set it.table.rows place new)
update_rows n map place old new o it =
    let made = suited (same_schema map.schema it.table.definition.schema) (updated it.table.definition.schema.key place old new it.table.rows) it.rows it.changed in
    let parts = taken_if (is_row (slice_get it.table.rows place) old) (set it.table.rows place new) it.rows (sym (ap (λ key. updated key place old new it.table.rows) it.keyless) ∙ made) in
    (slice_get_within it.table.rows place old (is_row_true (slice_get it.table.rows place) old parts.0), sym parts.1)

-- The row at the place of an Update is the one that it put there.
pub back_updated : (n : List ℕ) (map : TableMap) (place : ℕ) (old new : List Value) (o : Option Table) (p k : ℕ) → bytes_eq map.table n ≡ true → CameTo n (Update map place old new) o k → p ≡ place
    → row_in p (found_after n (Update map place old new) o) ≡ Some new
back_updated n map place old new o p k own came at =
    let it = update_shape n map place old new o k own came in
    let rows = update_rows n map place old new o it in
    ap (row_in p) it.after ∙ ap (λ l. slice_get l p) rows.1 ∙ ap (slice_get (set it.table.rows place new)) at ∙ set_there it.table.rows place new rows.0

-- Each other row stood where it stands.
pub back_before_update : (n : List ℕ) (map : TableMap) (place : ℕ) (old new : List Value) (o : Option Table) (p k : ℕ) → bytes_eq map.table n ≡ true → CameTo n (Update map place old new) o k
    → (p ≡ place → ⊥) → StoodAt o (row_in p (found_after n (Update map place old new) o)) p k
back_before_update n map place old new o p k own came other =
    let it = update_shape n map place old new o k own came in
    let rows = update_rows n map place old new o it in
    stood n (Update map place old new) o p p k it
    (ap (λ l. slice_get l p) rows.1 ∙ set_elsewhere it.table.rows place new p other)
    (came.counted ∙ ap (λ x. length (rows_found x)) it.after ∙ ap length rows.1 ∙ length-set it.table.rows place new)

-- A row stood where it stands before a Delete of one behind it, and one place further behind that of one before it.
pub back_before_delete : (n : List ℕ) (map : TableMap) (place : ℕ) (old : List Value) (o : Option Table) (p q k more : ℕ) → bytes_eq map.table n ≡ true → CameTo n (Delete map place old) o k
    → (p < place → q ≡ p) → (place ≤ p → q ≡ p + 1) → more ≡ min (k + 1) (2 ^ 64 - 1) → StoodAt o (row_in p (found_after n (Delete map place old) o)) q more
back_before_delete n map place old o p q k more own came below above one_more =
    let it = shape n (Delete map place old) o (cond_true (bytes_eq map.table n) (rows_changed (Delete map place old) o) o own) (came.fit own) came.keyless in
    let made = suited (same_schema map.schema it.table.definition.schema) (deleted it.table.definition.schema.key place old it.table.rows) it.rows it.changed in
    let parts = taken_if (is_row (slice_get it.table.rows place) old) (remove it.table.rows place) it.rows (sym (ap (λ key. deleted key place old it.table.rows) it.keyless) ∙ made) in
    let within = slice_get_within it.table.rows place old (is_row_true (slice_get it.table.rows place) old parts.0) in
    let fewer = length-remove it.table.rows place within in
    let count : k ≡ length (remove it.table.rows place) = came.counted ∙ ap (λ x. length (rows_found x)) it.after ∙ ap length (sym parts.1) in
    let few : length it.table.rows < 2 ^ 64 = subst (λ x. length (rows_found x) < 2 ^ 64) it.is came.few in
    stood n (Delete map place old) o p q more it
    (ap (λ l. slice_get l p) (sym parts.1) ∙ row_at it.table.rows (cases_lt p place)) (omega (arith, count, fewer, few, one_more))
  where
    row_at : (rows : List (List Value)) → (p < place) ⊎ (place ≤ p) → slice_get (remove rows place) p ≡ slice_get rows q
    row_at rows (inl lt) = below_removed rows place p lt ∙ ap (slice_get rows) (sym (below lt))
    row_at rows (inr le) = above_removed rows place p le ∙ ap (slice_get rows) (next p q (above le))
      where
        next : (p q : ℕ) → q ≡ p + 1 → suc p ≡ q
        next p q e = omega (arith, e)

-- what the changes before a place left, and the change there
step_of : (n : List ℕ) (cs : List Change) (ts : List Table) (i : ℕ) (c : Change) (k : ℕ) → i < length cs → c ≡ get_or cs i c → AreMade ts → all_apply cs ts ≡ true
    → length (rows_found (table_named n ts)) + length cs < 2 ^ 64 → IsKeyless (table_named n (after_changes (take (i + 1) cs) ts)) → k ≡ length (rows_found (table_named n (after_changes (take (i + 1) cs) ts)))
    → CameTo n c (table_named n (after_changes (take i cs) ts)) k × (found_after n c (table_named n (after_changes (take i cs) ts)) ≡ table_named n (after_changes (take (i + 1) cs) ts))
step_of n cs ts i c k within at made fit few keyless counted =
    let base = after_changes (take i cs) ts in
    let next : take (i + 1) cs ≡ take i cs ++ c ∷ [] = take_more cs i c within ∙ ap (λ x. take i cs ++ x ∷ []) (sym at) in
    let after : after_changes (take (i + 1) cs) ts ≡ after_change c base = ap (λ l. after_changes l ts) next ∙ after_changes-append (take i cs) (c ∷ []) ts in
    let whole = sym (all_apply_append (take (i + 1) cs) (drop (i + 1) cs) ts) ∙ ap (λ l. all_apply l ts) (take-append-drop (i + 1) cs) ∙ fit in
    let front = (and_parts (all_apply (take (i + 1) cs) ts) (all_apply (drop (i + 1) cs) (after_changes (take (i + 1) cs) ts)) whole).0 in
    let parts = and_parts (all_apply (take i cs) ts) (all_apply (c ∷ []) base) (sym (all_apply_append (take i cs) (c ∷ []) ts) ∙ ap (λ l. all_apply l ts) (sym next) ∙ front) in
    let applied = (and_parts (applies c base) true parts.1).0 in
    let found : found_after n c (table_named n base) ≡ table_named n (after_changes (take (i + 1) cs) ts) =
    sym (named_after n c base (all_made (take i cs) ts made).names) ∙ ap (table_named n) (sym after) in
    let rows = rows_within n (take i cs) ts made parts.0 in
    let shorter = length-take i cs in (
      record {
        fit = fits_named n c base applied;
        few = omega (arith, rows, shorter, few, within);
        keyless = subst IsKeyless (sym found) keyless;
        counted = counted ∙ ap (λ x. length (rows_found x)) (sym found);
      },
      found,
    )

-- how far the walk has come: the row stood at a place before the changes from here on
abbrev pub Walked : List ℕ → List Change → ℕ → ℕ → ℕ → ℕ → ℕ → Type 0
Walked n cs start count i place now = (ts : List Table) → AllCameTo n cs ts count
    → StoodAt (table_named n (after_changes (take i cs) ts)) (row_in start (table_named n (after_changes cs ts))) place now

pub walk_begins : (n : List ℕ) (cs : List Change) (start count i : ℕ) → length cs ≤ i → Walked n cs start count i start count
walk_begins n cs start count i past = λ ts came.
    let all : table_named n (after_changes (take i cs) ts) ≡ table_named n (after_changes cs ts) = ap (λ l. table_named n (after_changes l ts)) (take_all i cs past) in
    record {
      row = ap (row_in start) (sym all);
      counted = came.counted ∙ ap (λ x. length (rows_found x)) (sym all);
      keyless = subst IsKeyless (sym all) came.keyless;
    }

-- one change more, behind which the row stood
pub walk_goes_on : (n : List ℕ) (cs : List Change) (start count i place now before less : ℕ) (c : Change) → i < length cs → c ≡ get_or cs i c → Walked n cs start count (i + 1) place now
    → ((o : Option Table) → CameTo n c o now → StoodAt o (row_in place (found_after n c o)) before less) → Walked n cs start count i before less
walk_goes_on n cs start count i place now before less c within at walked step = λ ts came.
    let so_far = walked ts came in
    let here = step_of n cs ts i c now within at came.applied.made came.applied.fit came.few so_far.keyless so_far.counted in
    let there = step (table_named n (after_changes (take i cs) ts)) here.0 in
    record { row = so_far.row ∙ ap (row_in place) (sym here.1) ∙ there.row; counted = there.counted; keyless = there.keyless }

-- one change more, which put the row there, or left none
pub walk_tells : (n : List ℕ) (cs : List Change) (start count i place now : ℕ) (c : Change) (answer : Option (List Value)) → i < length cs → c ≡ get_or cs i c → Walked n cs start count (i + 1) place now
    → ((o : Option Table) → CameTo n c o now → row_in place (found_after n c o) ≡ answer) → (ts : List Table) → AllCameTo n cs ts count → row_in start (table_named n (after_changes cs ts)) ≡ answer
walk_tells n cs start count i place now c answer within at walked step ts came =
    let so_far = walked ts came in
    let here = step_of n cs ts i c now within at came.applied.made came.applied.fit came.few so_far.keyless so_far.counted in
    so_far.row ∙ ap (row_in place) (sym here.1) ∙ step (table_named n (after_changes (take i cs) ts)) here.0

-- The second of two lists of changes came to the table without a key that both came to.
pub came_more : (n : List ℕ) (cs ds : List Change) (ts : List Table) (count : ℕ) → Applied ts (cs ++ ds) → IsKeyless (table_named n (after_changes (cs ++ ds) ts))
    → count ≡ length (rows_found (table_named n (after_changes (cs ++ ds) ts))) → length (rows_found (table_named n ts)) < 2 ^ 63 → length cs + length ds < 2 ^ 63
    → AllCameTo n ds (after_changes cs ts) count
came_more n cs ds ts count applied keyless counted few short =
    let both = and_parts (all_apply cs ts) (all_apply ds (after_changes cs ts)) (sym (all_apply_append cs ds ts) ∙ applied.fit) in
    let within = rows_within n cs ts applied.made both.0 in
    let same = after_changes-append cs ds ts in
    record {
      applied = record { made = all_made cs ts applied.made; fit = both.1 };
      few = omega (arith, within, few, short);
      keyless = subst (λ x. IsKeyless (table_named n x)) same keyless;
      counted = counted ∙ ap (λ x. length (rows_found (table_named n x))) same;
    }

-- The first came to where the row stood.
pub came_done : (n : List ℕ) (cs ds : List Change) (ts : List Table) (wanted : Option (List Value)) (place count : ℕ) → Applied ts (cs ++ ds)
    → StoodAt (table_named n (after_changes cs ts)) wanted place count → length (rows_found (table_named n ts)) < 2 ^ 63 → length cs + length ds < 2 ^ 63 → AllCameTo n cs ts count
came_done n cs ds ts wanted place count applied stands few short =
    let both = and_parts (all_apply cs ts) (all_apply ds (after_changes cs ts)) (sym (all_apply_append cs ds ts) ∙ applied.fit) in
    record {
      applied = record { made = applied.made; fit = both.0 };
      few = omega (arith, few, short);
      keyless = stands.keyless;
      counted = stands.counted;
    }

-- a row by place behind both lists is that behind the second, on what the first made
pub row_both : (n : List ℕ) (cs ds : List Change) (ts : List Table) (p : ℕ) → row_in p (table_named n (after_changes ds (after_changes cs ts))) ≡ row_in p (table_named n (after_changes (cs ++ ds) ts))
row_both n cs ds ts p = ap (λ x. row_in p (table_named n x)) (sym (after_changes-append cs ds ts))
