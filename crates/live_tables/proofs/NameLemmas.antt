-- What a change makes of what stands under one name, and when it applies.
use Rattle.std.proofs.Common.{◌≡◌, ℕ, List, [], ◌∷◌, ◌++◌, Option, Some, None, Bool, true, false, cond, not, is_some, is_none, refl, sym, ap, subst, ◌∙◌, inl, inr}
use Rattle.std.specs.Option.{option_or}
use Rattle.std.specs.Str.{bytes_eq}
use Rattle.std.proofs.lemmas.List.Folds.{find-append}
use Rattle.std.proofs.lemmas.Slice.Eq.{bytes_eq-Decides}
use Rattle.sql_value.specs.declared.value.Value.{Value}
use Rattle.row_format.specs.declared.schema.Schema.{Schema}
use Rattle.row_format.specs.declared.change.Change.{Change}
use Rattle.row_format.specs.declared.change.Change.TheVariants.{Install, Uninstall, Create, Drop, Insert, Update, Delete}
use Rattle.log_tables.specs.Keys.{in_key_order}
use Rattle.log_tables.specs.declared.table.Table.{Table}
use Rattle.log_tables.specs.Tables.{is_named, table_named, at_table, new_table, IsDictionary}
use Rattle.log_tables.specs.Changes.{after_change, changed, with_rows, rows_after, takes, applies, names_table}
use Rattle.log_tables.proofs.PartLemmas.{cases, cond_true, cond_false, table_named-other}
use Rattle.live_tables.specs.Folds.{rows_changed, found_after, fits}

pub no : false ≡ true → ⊥
no q = cc

pub yes_no : (b : Bool) → b ≡ true → b ≡ false → ⊥
yes_no b p q = no (sym q ∙ p)

pub not_true : (b : Bool) → not b ≡ true → b ≡ false
not_true true h = absurd (no h)
not_true false h = refl

pub none_when : {X : Type 0} (o : Option X) → is_some o ≡ false → o ≡ None
none_when None h = refl
none_when (Some x) h = absurd (no (sym h))

pub none_is : {X : Type 0} (o : Option X) → is_none o ≡ true → o ≡ None
none_is None h = refl
none_is (Some x) h = absurd (no h)

-- an edit of the first table of a name is seen under it
at_found : (n : List ℕ) (c : Change) (ts : List Table) → table_named n (at_table n (changed c) ts) ≡ rows_changed c (table_named n ts)
at_found n c [] = refl
at_found n c (t ∷ ts) = elim (cases (is_named n t)) [
  | inl here ↦
      ap (table_named n) (cond_true (is_named n t) (changed c t ++ ts) (t ∷ at_table n (changed c) ts) here)
      ∙ cond_true (is_named n (with_rows t (rows_after c t))) (Some (with_rows t (rows_after c t))) (table_named n ts) (named (rows_after c t) ∙ here)
      ∙ sym (ap (rows_changed c) (cond_true (is_named n t) (Some t) (table_named n ts) here))
  | inr past ↦
      ap (table_named n) (cond_false (is_named n t) (changed c t ++ ts) (t ∷ at_table n (changed c) ts) past)
      ∙ cond_false (is_named n t) (Some t) (table_named n (at_table n (changed c) ts)) past
      ∙ at_found n c ts
      ∙ sym (ap (rows_changed c) (cond_false (is_named n t) (Some t) (table_named n ts) past))
]
  where
    named : (o : Option (List (List Value))) → is_named n (with_rows t o) ≡ is_named n t
    named None = refl
    named (Some rows) = refl

-- a new table is found under its name, where nothing was
new_found : (n e : List ℕ) (s : Schema) (ts : List Table)
    → table_named n (cond (is_some (table_named n ts)) ts (ts ++ new_table n e s ∷ [])) ≡ option_or (table_named n ts) (Some (new_table n e s))
new_found n e s ts = elim (cases (is_some (table_named n ts))) [
  | inl there ↦
      ap (table_named n) (cond_true (is_some (table_named n ts)) ts (ts ++ new_table n e s ∷ []) there)
      ∙ full (table_named n ts) there
  | inr free ↦
      ap (table_named n) (cond_false (is_some (table_named n ts)) ts (ts ++ new_table n e s ∷ []) free)
      ∙ find-append (is_named n) ts (new_table n e s ∷ [])
      ∙ ap (option_or (table_named n ts)) (cond_true (bytes_eq n n) (Some (new_table n e s)) None ((bytes_eq-Decides n n).1 refl))
]
  where
    full : (o : Option Table) → is_some o ≡ true → o ≡ option_or o (Some (new_table n e s))
    full None h = absurd (no h)
    full (Some t) h = refl

-- a table that was taken out is not found, where no name stands twice
gone_found : (n : List ℕ) (ts : List Table) → IsDictionary ts → table_named n (at_table n (λ _. []) ts) ≡ None
gone_found n [] d = refl
gone_found n (t ∷ ts) d = elim (cases (is_named n t)) [
  | inl here ↦
      ap (table_named n) (cond_true (is_named n t) ts (t ∷ at_table n (λ _. []) ts) here)
      ∙ subst (λ m. table_named m ts ≡ None) ((bytes_eq-Decides t.definition.table n).0 here) (none_is (table_named t.definition.table ts) d.0)
  | inr past ↦
      ap (table_named n) (cond_false (is_named n t) ts (t ∷ at_table n (λ _. []) ts) past)
      ∙ cond_false (is_named n t) (Some t) (table_named n (at_table n (λ _. []) ts)) past
      ∙ gone_found n ts d.1
]

-- a row change is seen under the name of its table
row_change_found : (n m : List ℕ) (c : Change) (ts : List Table) → bytes_eq m n ≡ true
    → table_named n (at_table m (changed c) ts) ≡ cond (bytes_eq m n) (rows_changed c (table_named n ts)) (table_named n ts)
row_change_found n m c ts own =
    subst (λ k. table_named k (at_table m (changed c) ts) ≡ rows_changed c (table_named k ts)) ((bytes_eq-Decides m n).0 own) (at_found m c ts)
    ∙ sym (cond_true (bytes_eq m n) (rows_changed c (table_named n ts)) (table_named n ts) own)

own_after : (n : List ℕ) (c : Change) (ts : List Table) → IsDictionary ts → names_table n c ≡ true → table_named n (after_change c ts) ≡ found_after n c (table_named n ts)
own_after n (Create m e s) ts d own =
    subst (λ k. table_named k (after_change (Create m e s) ts) ≡ option_or (table_named k ts) (Some (new_table m e s))) ((bytes_eq-Decides m n).0 own) (new_found m e s ts)
    ∙ sym (cond_true (bytes_eq m n) (option_or (table_named n ts) (Some (new_table m e s))) (table_named n ts) own)
own_after n (Drop m) ts d own =
    subst (λ k. table_named k (at_table m (λ _. []) ts) ≡ None) ((bytes_eq-Decides m n).0 own) (gone_found m ts d)
    ∙ sym (cond_true (bytes_eq m n) None (table_named n ts) own)
own_after n (Insert map row) ts d own = row_change_found n map.table (Insert map row) ts own
own_after n (Update map place before after) ts d own = row_change_found n map.table (Update map place before after) ts own
own_after n (Delete map place before) ts d own = row_change_found n map.table (Delete map place before) ts own
own_after n (Install e) ts d own = absurd (no own)
own_after n (Uninstall e) ts d own = absurd (no own)

-- A change that does not name the table leaves what was found.
pub found_stays : (n : List ℕ) (c : Change) (o : Option Table) → names_table n c ≡ false → found_after n c o ≡ o
found_stays n (Create m e s) o other = cond_false (bytes_eq m n) (option_or o (Some (new_table m e s))) o other
found_stays n (Drop m) o other = cond_false (bytes_eq m n) None o other
found_stays n (Insert map row) o other = cond_false (bytes_eq map.table n) (rows_changed (Insert map row) o) o other
found_stays n (Update map place before after) o other = cond_false (bytes_eq map.table n) (rows_changed (Update map place before after) o) o other
found_stays n (Delete map place before) o other = cond_false (bytes_eq map.table n) (rows_changed (Delete map place before) o) o other
found_stays n (Install e) o other = refl
found_stays n (Uninstall e) o other = refl

-- What stands under a name after a change is told by what stood there.
pub named_after : (n : List ℕ) (c : Change) (ts : List Table) → IsDictionary ts → table_named n (after_change c ts) ≡ found_after n c (table_named n ts)
named_after n c ts d = elim (cases (names_table n c)) [
  | inl own ↦ own_after n c ts d own
  | inr other ↦ table_named-other n c ts other ∙ sym (found_stays n c (table_named n ts) other)
]

-- And so is whether it applies.
pub applies_found : (n : List ℕ) (c : Change) (ts : List Table) → names_table n c ≡ true → applies c ts ≡ fits c (table_named n ts)
applies_found n (Create m e s) ts own = ap (λ k. is_none (table_named k ts)) ((bytes_eq-Decides m n).0 own)
applies_found n (Drop m) ts own = ap (λ k. is_some (table_named k ts)) ((bytes_eq-Decides m n).0 own)
applies_found n (Insert map row) ts own = ap (λ k. takes (Insert map row) (table_named k ts)) ((bytes_eq-Decides map.table n).0 own)
applies_found n (Update map place before after) ts own = ap (λ k. takes (Update map place before after) (table_named k ts)) ((bytes_eq-Decides map.table n).0 own)
applies_found n (Delete map place before) ts own = ap (λ k. takes (Delete map place before) (table_named k ts)) ((bytes_eq-Decides map.table n).0 own)
applies_found n (Install e) ts own = absurd (no own)
applies_found n (Uninstall e) ts own = absurd (no own)

-- the rows with one more: in key order, or at the end
abbrev pub placed : Option ℕ → List Value → List (List Value) → List (List Value)
placed None row rows = rows ++ row ∷ []
placed (Some column) row rows = in_key_order column row rows
