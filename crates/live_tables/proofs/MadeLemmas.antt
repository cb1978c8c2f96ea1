-- Tables stay as changes make them: no name stands twice, and the rows of each are in order.
use Rattle.std.proofs.Common.{◌≡◌, ℕ, List, [], ◌∷◌, ◌++◌, Option, Some, None, Bool, true, false, cond, is_some, refl, sym, subst, inl, inr}
use Rattle.sql_value.specs.declared.value.Value.{Value}
use Rattle.row_format.specs.declared.change.Change.{Change}
use Rattle.row_format.specs.declared.change.Change.TheVariants.{Install, Uninstall, Create, Drop, Insert, Update, Delete}
use Rattle.log_tables.specs.declared.table.Table.{Table}
use Rattle.log_tables.specs.Keys.{IsOrdered}
use Rattle.log_tables.specs.Tables.{is_named, table_named, at_table, new_table}
use Rattle.log_tables.specs.Changes.{after_change, after_changes, changed, with_rows, rows_after}
use Rattle.log_tables.proofs.PartLemmas.{cases, cond_true, cond_false, IsDictionary-after_change}
use Rattle.live_tables.specs.Folds.{AreInOrder, AreMade}
use Rattle.live_tables.proofs.EditLemmas.{IsEdit, insert_edit, update_edit, delete_edit}

-- the rows of what was found are in order
abbrev pub IsInOrder : Option Table → Type 0
IsInOrder None = Unit {0}
IsInOrder (Some it) = IsOrdered it.definition.schema.key it.rows

pub found_in_order : (n : List ℕ) (ts : List Table) → AreInOrder ts → IsInOrder (table_named n ts)
found_in_order n [] all = tt
found_in_order n (t ∷ ts) all = elim (cases (is_named n t)) [
  | inl here ↦ subst IsInOrder (sym (cond_true (is_named n t) (Some t) (table_named n ts) here)) all.0
  | inr past ↦ subst IsInOrder (sym (cond_false (is_named n t) (Some t) (table_named n ts) past)) (found_in_order n ts all.1)
]

in_order-append : (ts us : List Table) → AreInOrder ts → AreInOrder us → AreInOrder (ts ++ us)
in_order-append [] us all others = others
in_order-append (t ∷ ts) us all others = (all.0, in_order-append ts us all.1 others)

in_order-at : (n : List ℕ) (make : Table → List Table) (ts : List Table) → ((t : Table) → IsOrdered t.definition.schema.key t.rows → AreInOrder (make t)) → AreInOrder ts → AreInOrder (at_table n make ts)
in_order-at n make [] makes all = tt
in_order-at n make (t ∷ ts) makes all = elim (cases (is_named n t)) [
  | inl here ↦ subst AreInOrder (sym (cond_true (is_named n t) (make t ++ ts) (t ∷ at_table n make ts) here)) (in_order-append (make t) ts (makes t all.0) all.1)
  | inr past ↦ subst AreInOrder (sym (cond_false (is_named n t) (make t ++ ts) (t ∷ at_table n make ts) past)) (all.0, in_order-at n make ts makes all.1)
]

-- A row change keeps the rows in order.
pub edit_in_order : (c : Change) → IsEdit c → (t : Table) → IsOrdered t.definition.schema.key t.rows → AreInOrder (changed c t)
edit_in_order c e t ordered = go (rows_after c t) refl
  where
    go : (o : Option (List (List Value))) → rows_after c t ≡ o → AreInOrder (with_rows t o ∷ [])
    go None is = (ordered, tt)
    go (Some rows) is = (e.ordered t rows is ordered, tt)

empty_in_order : (key : Option ℕ) → IsOrdered key []
empty_in_order None = tt
empty_in_order (Some column) = tt

rows_made : (c : Change) (ts : List Table) → AreInOrder ts → AreInOrder (after_change c ts)
rows_made (Create n e s) ts all = go (is_some (table_named n ts))
  where
    go : (b : Bool) → AreInOrder (cond b ts (ts ++ new_table n e s ∷ []))
    go true = all
    go false = in_order-append ts (new_table n e s ∷ []) all (empty_in_order s.key, tt)
rows_made (Drop n) ts all = in_order-at n (λ _. []) ts (λ t ordered. tt) all
rows_made (Insert map row) ts all = in_order-at map.table (changed (Insert map row)) ts (edit_in_order (Insert map row) (insert_edit map row)) all
rows_made (Update map place before after) ts all =
    in_order-at map.table (changed (Update map place before after)) ts (edit_in_order (Update map place before after) (update_edit map place before after)) all
rows_made (Delete map place before) ts all = in_order-at map.table (changed (Delete map place before)) ts (edit_in_order (Delete map place before) (delete_edit map place before)) all
rows_made (Install e) ts all = all
rows_made (Uninstall e) ts all = all

-- A change keeps tables as changes make them.
pub made_after : (c : Change) (ts : List Table) → AreMade ts → AreMade (after_change c ts)
made_after c ts made = record { names = IsDictionary-after_change c ts made.names; rows = rows_made c ts made.rows }

-- So do changes.
pub all_made : (cs : List Change) (ts : List Table) → AreMade ts → AreMade (after_changes cs ts)
all_made [] ts made = made
all_made (c ∷ cs) ts made = all_made cs (after_change c ts) (made_after c ts made)
