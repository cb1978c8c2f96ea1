-- What is found by key behind two lists of changes, and whether a row change applies to what was found.
use Rattle.std.proofs.Common.{◌≡◌, ℕ, List, ◌++◌, Option, Some, None, Bool, true, false, cond, not, ◌&&◌, ◌||◌, is_some, length, refl, sym, ap, ◌∙◌}
use Rattle.std.specs.Prelude.{option_and_then, slice_get}
use Rattle.std.specs.List.{remove}
use Rattle.std.proofs.Common.{set}
use Rattle.sql_value.specs.declared.value.Value.{Value}
use Rattle.sql_value.specs.Values.{same_value}
use Rattle.row_format.specs.declared.schema.Schema.{Schema}
use Rattle.row_format.specs.declared.change.TableMap.{TableMap}
use Rattle.row_format.specs.declared.change.Change.{Change}
use Rattle.row_format.specs.declared.change.Change.TheVariants.{Insert, Update, Delete}
use Rattle.row_format.specs.Schemas.{same_schema}
use Rattle.row_format.proofs.SameLemmas.{same_schema-true}
use Rattle.log_tables.specs.declared.table.Table.{Table}
use Rattle.log_tables.specs.Keys.{key_in, row_with, without_key, in_key_order, is_row, inserted, deleted, updated}
use Rattle.log_tables.specs.Tables.{table_named}
use Rattle.log_tables.specs.Changes.{after_changes, takes}
use Rattle.log_tables.proofs.KeyLemmas.{row_with-without}
use Rattle.engine_api.specs.Live.{schema_found, rows_found, row_found, row_at, is_key_taken, is_taken_in}
use Rattle.live_tables.specs.Folds.{Applied, through, rows_step, row_step, is_there, same_keys, key_found}
use Rattle.live_tables.proofs.FoldLemmas.{through_append, row_after, count_after}

none_some : {X : Type 0} {x : X} → None ≡ Some x → ⊥
none_some q = cc

inner : {X : Type 0} {x y : X} → Some x ≡ Some y → x ≡ y
inner q = cc

-- The row with a key.
pub row_behind : (n : List ℕ) (column : ℕ) (key : Value) (cs ds : List Change) (ts : List Table) → Applied ts (cs ++ ds) → key_found (table_named n (after_changes (cs ++ ds) ts)) ≡ Some column
    → through (row_step n column key) ds (through (row_step n column key) cs (row_found (table_named n ts) key)) ≡ row_found (table_named n (after_changes (cs ++ ds) ts)) key
row_behind n column key cs ds ts applied keyed =
    sym (through_append (row_step n column key) cs ds (row_found (table_named n ts) key)) ∙ row_after n column key (cs ++ ds) ts applied.made applied.fit keyed

-- How many rows there are.
pub rows_behind : (n : List ℕ) (cs ds : List Change) (ts : List Table) → Applied ts (cs ++ ds)
    → through (rows_step n) ds (through (rows_step n) cs (length (rows_found (table_named n ts)))) ≡ length (rows_found (table_named n (after_changes (cs ++ ds) ts)))
rows_behind n cs ds ts applied =
    sym (through_append (rows_step n) cs ds (length (rows_found (table_named n ts)))) ∙ sym (count_after n (cs ++ ds) ts applied.made applied.fit)

-- the key column of the schema of what was found
pub key_of_schema : (o : Option Table) (s : Schema) → Some s ≡ schema_found o → s.key ≡ key_found o
key_of_schema None s is = absurd (none_some (sym is))
key_of_schema (Some t) s is = ap (λ (x : Schema). x.key) (inner is)

pub no_key : (o : Option Table) → None ≡ schema_found o → None ≡ key_found o
no_key None is = refl
no_key (Some t) is = absurd (none_some is)

-- whether a key is taken in what was found
pub taken_by_key : (o : Option Table) (column : ℕ) (row : List Value) → key_found o ≡ Some column → is_some (row_found o (key_in column row)) ≡ is_taken_in o row
taken_by_key None column row is = refl
taken_by_key (Some t) column row is =
    ap (λ k. is_some (row_at k t.rows (key_in column row))) is ∙ sym (ap (λ k. is_key_taken k t.rows row) is)

pub taken_without_key : (o : Option Table) (row : List Value) → None ≡ key_found o → false ≡ is_taken_in o row
taken_without_key None row is = refl
taken_without_key (Some t) row is = ap (λ k. is_key_taken k t.rows row) is

-- what was found is a table of this schema
pub table_of_schema : (o : Option Table) (s : Schema) → Some s ≡ schema_found o → (t : Table) × (o ≡ Some t) × (t.definition.schema ≡ s)
table_of_schema None s is = absurd (none_some (sym is))
table_of_schema (Some t) s is = (t, refl, sym (inner is))

-- nothing applies where nothing was found
pub takes_nothing : (c : Change) (o : Option Table) → None ≡ schema_found o → false ≡ takes c o
takes_nothing c None is = refl
takes_nothing c (Some t) is = absurd (none_some is)

-- tests of a choice
flip : {X : Type 0} (b : Bool) (x : X) → is_some (cond b None (Some x)) ≡ not b
flip true x = refl
flip false x = refl

plain : {X : Type 0} (b : Bool) (x : X) → is_some (cond b (Some x) None) ≡ b
plain true x = refl
plain false x = refl

suited : {X : Type 0} (a : Bool) (o : Option X) → is_some (cond a o None) ≡ (a && is_some o)
suited true o = refl
suited false o = refl

inserts : (key : Option ℕ) (row : List Value) (rows : List (List Value)) → is_some (inserted key row rows) ≡ not (is_key_taken key rows row)
inserts None row rows = refl
inserts (Some column) row rows = flip (is_some (row_with column (key_in column row) rows)) (in_key_order column row rows)

deletes : (key : Option ℕ) (place : ℕ) (before : List Value) (rows : List (List Value)) → is_some (deleted key place before rows) ≡ is_there key place before rows
deletes None place before rows = plain (is_row (slice_get rows place) before) (remove rows place)
deletes (Some column) place before rows = plain (is_row (row_with column (key_in column before) rows) before) (without_key column (key_in column before) rows)

updates : (key : Option ℕ) (place : ℕ) (before after : List Value) (rows : List (List Value))
    → is_some (updated key place before after rows) ≡ (is_there key place before rows && (same_keys key before after || not (is_key_taken key rows after)))
updates None place before after rows = plain (is_row (slice_get rows place) before) (set rows place after) ∙ sym (both (is_row (slice_get rows place) before))
  where
    both : (b : Bool) → (b && (true || not false)) ≡ b
    both true = refl
    both false = refl
updates (Some column) place before after rows = go (is_row (row_with column (key_in column before) rows) before)
  where
    rest : List (List Value)
    rest = without_key column (key_in column before) rows

    free : (b : Bool) (o : Option (List Value)) → not (is_some (cond b None o)) ≡ (b || not (is_some o))
    free true o = refl
    free false o = refl

    go : (b : Bool) → is_some (option_and_then (inserted (Some column) after) (cond b (Some rest) None))
        ≡ (b && (same_value (key_in column before) (key_in column after) || not (is_some (row_with column (key_in column after) rows))))
    go true =
        flip (is_some (row_with column (key_in column after) rest)) (in_key_order column after rest)
        ∙ ap (λ o. not (is_some o)) (row_with-without column (key_in column before) (key_in column after) rows)
        ∙ free (same_value (key_in column before) (key_in column after)) (row_with column (key_in column after) rows)
    go false = refl

-- An Insert applies where the schema is its own and the key is free.
pub takes_found : (map : TableMap) (row : List Value) (o : Option Table) (s : Schema) → Some s ≡ schema_found o
    → (same_schema map.schema s && not (is_taken_in o row)) ≡ takes (Insert map row) o
takes_found map row None s is = absurd (none_some (sym is))
takes_found map row (Some t) s is =
    ap (λ (x : Schema). same_schema map.schema x && not (is_key_taken t.definition.schema.key t.rows row)) (inner is)
    ∙ sym (suited (same_schema map.schema t.definition.schema) (inserted t.definition.schema.key row t.rows) ∙ ap (λ b. same_schema map.schema t.definition.schema && b) (inserts t.definition.schema.key row t.rows))

-- A Delete applies where the schema is its own and the row is there.
pub delete_found : (map : TableMap) (place : ℕ) (before : List Value) (o : Option Table) (s : Schema) (there : Bool) → Some s ≡ schema_found o
    → ((t : Table) → o ≡ Some t → t.definition.schema.key ≡ s.key → there ≡ is_there s.key place before t.rows)
    → (same_schema map.schema s && there) ≡ takes (Delete map place before) o
delete_found map place before None s there is told = absurd (none_some (sym is))
delete_found map place before (Some t) s there is told =
    let same : t.definition.schema ≡ s = sym (inner is) in
    ap (λ b. same_schema map.schema s && b) (told t refl (ap (λ (x : Schema). x.key) same))
    ∙ ap (λ (x : Schema). same_schema map.schema x && is_there x.key place before t.rows) (sym same)
    ∙ sym (suited (same_schema map.schema t.definition.schema) (deleted t.definition.schema.key place before t.rows)
    ∙ ap (λ b. same_schema map.schema t.definition.schema && b) (deletes t.definition.schema.key place before t.rows))

-- An Update applies where a Delete of its row does, and the new row has its key, or one that is free.
pub update_found : (map : TableMap) (place : ℕ) (before after : List Value) (o : Option Table)
    → takes (Update map place before after) o ≡ (takes (Delete map place before) o && (same_keys map.schema.key before after || not (is_taken_in o after)))
update_found map place before after None = refl
update_found map place before after (Some t) =
    let same = same_schema map.schema t.definition.schema in
    suited same (updated t.definition.schema.key place before after t.rows)
    ∙ ap (λ b. same && b) (updates t.definition.schema.key place before after t.rows)
    ∙ key_same same refl
    ∙ ap (λ b. b && (same_keys map.schema.key before after || not (is_key_taken t.definition.schema.key t.rows after)))
    (sym (suited same (deleted t.definition.schema.key place before t.rows) ∙ ap (λ b. same && b) (deletes t.definition.schema.key place before t.rows)))
  where
    key_same : (b : Bool) → same_schema map.schema t.definition.schema ≡ b
        → (b && (is_there t.definition.schema.key place before t.rows && (same_keys t.definition.schema.key before after || not (is_key_taken t.definition.schema.key t.rows after))))
        ≡ ((b && is_there t.definition.schema.key place before t.rows) && (same_keys map.schema.key before after || not (is_key_taken t.definition.schema.key t.rows after)))
    key_same true e =
        ap (λ (x : Schema). is_there t.definition.schema.key place before t.rows && (same_keys x.key before after || not (is_key_taken t.definition.schema.key t.rows after)))
        (sym (same_schema-true map.schema t.definition.schema e))
    key_same false e = refl
