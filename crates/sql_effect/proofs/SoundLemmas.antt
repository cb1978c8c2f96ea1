-- Changes that fit keep tables sound, so those of a log are.
use Rattle.std.proofs.Common.{◌≡◌, ℕ, suc, take, drop, List, [], ◌∷◌, ◌++◌, All, Option, Some, None, Bool, true, false, cond, refl, subst, set}
use Rattle.std.specs.Prelude.{IfSome, is_some, slice_get, option_and_then, not}
use Rattle.std.specs.List.{remove}
use Rattle.std.specs.Ordering.{is_lt}
use Rattle.std.proofs.lemmas.List.Elements.{All-nil, All-cons, All-head, All-tail, All-append, All-push, All-set, All-take, All-drop, All-filter}
use Rattle.sql_value.specs.declared.value.Value.{Value}
use Rattle.sql_value.specs.Values.{value_cmp}
use Rattle.row_format.specs.declared.change.Change.{Change}
use Rattle.row_format.specs.declared.change.Change.TheVariants.{Install, Uninstall, Create, Drop, Insert, Update, Delete}
use Rattle.row_format.specs.declared.change.TableMap.{TableMap}
use Rattle.row_format.specs.declared.change.Transaction.{Transaction}
use Rattle.row_format.specs.declared.schema.Schema.{Schema}
use Rattle.row_format.specs.Changes.{IsFitChange, AreFitChanges}
use Rattle.row_format.specs.Rows.{IsRow}
use Rattle.row_format.specs.Schemas.{same_schema}
use Rattle.row_format.proofs.SameLemmas.{same_schema-true}
use Rattle.log_tables.specs.declared.table.Table.{Table}
use Rattle.log_tables.specs.Keys.{key_in, has_key, row_with, without_key, in_key_order, is_row, inserted, deleted, updated, IsOrdered}
use Rattle.log_tables.specs.Tables.{is_named, table_named, at_table, new_table}
use Rattle.log_tables.specs.Changes.{if_suits, rows_after, with_rows, changed, after_change, after_changes, after_all, tables_after}
use Rattle.log_tables.proofs.OrderLemmas.{IsOrdered-inserted, IsOrdered-updated, IsOrdered-deleted}
use Rattle.sql_effect.specs.Logs.{IsSound}

-- what is there under a test
if_so : {A : Type 0} (P : A → Type 0) (b : Bool) (o : Option A) → IfSome o P → IfSome (cond b o None) P
if_so P true o all = all
if_so P false o all = tt

unless_so : {A : Type 0} (P : A → Type 0) (b : Bool) (o : Option A) → IfSome o P → IfSome (cond b None o) P
unless_so P true o all = tt
unless_so P false o all = all

-- Rows of which all this holds, and one more.

module _ (P : List Value → Type 0) where
  all_in_order : (column : ℕ) (row : List Value) (rows : List (List Value)) → P row → All P rows → All P (in_key_order column row rows)
  all_in_order column row [] one all = All-cons P row [] one all
  all_in_order column row (it ∷ rest) one all = by_place (is_lt (value_cmp (key_in column row) (key_in column it))) (all_in_order column row rest one (All-tail P it rest all))
    where
      by_place : (b : Bool) → All P (in_key_order column row rest) → All P (cond b (row ∷ it ∷ rest) (it ∷ in_key_order column row rest))
      by_place true others = All-cons P row (it ∷ rest) one all
      by_place false others = All-cons P it (in_key_order column row rest) (All-head P it rest all) others

  all_inserted : (key : Option ℕ) (row : List Value) (rows : List (List Value)) → P row → All P rows → IfSome (inserted key row rows) (All P)
  all_inserted None row rows one all = All-push P rows row all one
  all_inserted (Some column) row rows one all =
      unless_so (All P) (is_some (row_with column (key_in column row) rows)) (Some (in_key_order column row rows)) (all_in_order column row rows one all)

  all_removed : (rows : List (List Value)) (i : ℕ) → All P rows → All P (remove rows i)
  all_removed rows i all = All-append P (take i rows) (drop (suc i) rows) (All-take P i rows all) (All-drop P (suc i) rows all)

  all_deleted : (key : Option ℕ) (place : ℕ) (before : List Value) (rows : List (List Value)) → All P rows → IfSome (deleted key place before rows) (All P)
  all_deleted None place before rows all = if_so (All P) (is_row (slice_get rows place) before) (Some (remove rows place)) (all_removed rows place all)
  all_deleted (Some column) place before rows all =
      if_so (All P) (is_row (row_with column (key_in column before) rows) before) (Some (without_key column (key_in column before) rows))
      (All-filter (λ (it : List Value). not (has_key column (key_in column before) it)) P rows all)

  all_moved : (column : ℕ) (after : List Value) (o : Option (List (List Value))) → P after → IfSome o (All P) → IfSome (option_and_then (inserted (Some column) after) o) (All P)
  all_moved column after None one all = tt
  all_moved column after (Some rows) one all = all_inserted (Some column) after rows one all

  all_updated : (key : Option ℕ) (place : ℕ) (before after : List Value) (rows : List (List Value)) → P after → All P rows → IfSome (updated key place before after rows) (All P)
  all_updated None place before after rows one all = if_so (All P) (is_row (slice_get rows place) before) (Some (set rows place after)) (All-set P rows place after one all)
  all_updated (Some column) place before after rows one all =
      all_moved column after (deleted (Some column) place before rows) one (all_deleted (Some column) place before rows all)

-- A row change that makes rows makes rows that go into the table, in order.
abbrev AreSoundIn : Table → Option (List (List Value)) → Type 0
AreSoundIn table o = IfSome o (All (IsRow table.definition.schema)) × ((rows : List (List Value)) → o ≡ Some rows → IsOrdered table.definition.schema.key rows)

sound_with : (table : Table) (o : Option (List (List Value))) → IsSound table → AreSoundIn table o → IsSound (with_rows table o)
sound_with table None is made = is
sound_with table (Some rows) is made = record { named = is.named; schema = is.schema; rows = made.0; ordered = made.1 rows refl }

sound_suited : (map : TableMap) (table : Table) (o : Option (List (List Value))) → IsSound table → (map.schema ≡ table.definition.schema → AreSoundIn table o)
    → IsSound (with_rows table (if_suits map table o))
sound_suited map table o is makes = by_schema (same_schema map.schema table.definition.schema) refl
  where
    by_schema : (b : Bool) → same_schema map.schema table.definition.schema ≡ b → IsSound (with_rows table (cond b o None))
    by_schema true same = sound_with table o is (makes (same_schema-true map.schema table.definition.schema same))
    by_schema false other = is

suits : (map : TableMap) (table : Table) (row : List Value) → IsRow map.schema row → map.schema ≡ table.definition.schema → IsRow table.definition.schema row
suits map table row one same = subst (λ (s : Schema). IsRow s row) same one

sound_changed : (c : Change) → IsFitChange c → (table : Table) → IsSound table → IsSound (with_rows table (rows_after c table))
sound_changed (Insert map row) fit table is =
    let key = table.definition.schema.key in
    sound_suited map table (inserted key row table.rows) is (λ same. (
      all_inserted (IsRow table.definition.schema) key row table.rows (suits map table row fit.1 same) is.rows,
      λ rows made. IsOrdered-inserted key row table.rows rows made is.ordered,
    ))
sound_changed (Update map place before after) fit table is =
    let key = table.definition.schema.key in
    sound_suited map table (updated key place before after table.rows) is (λ same. (
      all_updated (IsRow table.definition.schema) key place before after table.rows (suits map table after fit.1 same) is.rows,
      λ rows made. IsOrdered-updated key place before after table.rows rows made is.ordered,
    ))
sound_changed (Delete map place before) fit table is =
    let key = table.definition.schema.key in
    sound_suited map table (deleted key place before table.rows) is (λ same. (
      all_deleted (IsRow table.definition.schema) key place before table.rows is.rows,
      λ rows made. IsOrdered-deleted key place before table.rows rows made is.ordered,
    ))
sound_changed (Install name) fit table is = is
sound_changed (Uninstall name) fit table is = is
sound_changed (Create name engine schema) fit table is = is
sound_changed (Drop name) fit table is = is

-- a table gives way to sound ones
sound_at : (name : List ℕ) (make : Table → List Table) (tables : List Table) → ((it : Table) → IsSound it → All IsSound (make it)) → All IsSound tables
    → All IsSound (at_table name make tables)
sound_at name make [] makes all = all
sound_at name make (it ∷ rest) makes all = by_name (is_named name it) (sound_at name make rest makes (All-tail IsSound it rest all))
  where
    by_name : (b : Bool) → All IsSound (at_table name make rest) → All IsSound (cond b (make it ++ rest) (it ∷ at_table name make rest))
    by_name true others = All-append IsSound (make it) rest (makes it (All-head IsSound it rest all)) (All-tail IsSound it rest all)
    by_name false others = All-cons IsSound it (at_table name make rest) (All-head IsSound it rest all) others

sound_one : (table : Table) → IsSound table → All IsSound (table ∷ [])
sound_one table is = All-cons IsSound table [] is (All-nil IsSound)

sound_rows : (c : Change) → IsFitChange c → (name : List ℕ) (tables : List Table) → All IsSound tables → All IsSound (at_table name (changed c) tables)
sound_rows c fit name tables all = sound_at name (changed c) tables (λ it is. sound_one (with_rows it (rows_after c it)) (sound_changed c fit it is)) all

none_ordered : (key : Option ℕ) → IsOrdered key []
none_ordered None = tt
none_ordered (Some column) = tt

sound_after : (c : Change) (tables : List Table) → IsFitChange c → All IsSound tables → All IsSound (after_change c tables)
sound_after (Install name) tables fit all = all
sound_after (Uninstall name) tables fit all = all
sound_after (Create name engine schema) tables fit all = by_name (is_some (table_named name tables))
  where
    by_name : (b : Bool) → All IsSound (cond b tables (tables ++ new_table name engine schema ∷ []))
    by_name true = all
    by_name false = All-push IsSound tables (new_table name engine schema) all
        (record { named = fit.0; schema = fit.2; rows = All-nil (IsRow schema); ordered = none_ordered schema.key })
sound_after (Drop name) tables fit all = sound_at name (λ _. []) tables (λ it is. All-nil IsSound) all
sound_after (Insert map row) tables fit all = sound_rows (Insert map row) fit map.table tables all
sound_after (Update map place before after) tables fit all = sound_rows (Update map place before after) fit map.table tables all
sound_after (Delete map place before) tables fit all = sound_rows (Delete map place before) fit map.table tables all

-- Sound tables stay sound over changes that fit.
pub stay_sound : (changes : List Change) (tables : List Table) → AreFitChanges changes → All IsSound tables → All IsSound (after_changes changes tables)
stay_sound [] tables fit all = all
stay_sound (it ∷ rest) tables fit all = stay_sound rest (after_change it tables) fit.1 (sound_after it tables fit.0 all)

sound_behind : (log : List Transaction) (tables : List Table) → All (λ (it : Transaction). AreFitChanges it.changes) log → All IsSound tables → All IsSound (after_all log tables)
sound_behind [] tables fit all = all
sound_behind (it ∷ rest) tables fit all =
    let each = λ (t : Transaction). AreFitChanges t.changes in
    sound_behind rest (after_changes it.changes tables) (All-tail each it rest fit) (stay_sound it.changes tables (All-head each it rest fit) all)

-- The tables of a log are sound.
pub log_sound : (log : List Transaction) → All (λ (it : Transaction). AreFitChanges it.changes) log → All IsSound (tables_after log)
log_sound log fit = sound_behind log [] fit (All-nil IsSound)
