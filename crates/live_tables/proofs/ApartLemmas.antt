-- Changes that do not meet may change places.
use Rattle.std.proofs.Common.{◌≡◌, ℕ, List, [], ◌∷◌, ◌++◌, Option, Some, None, Bool, true, false, ◌&&◌, ◌||◌, refl, sym, ap, subst, ◌∙◌, inl, inr, ◌⊎◌}
use Rattle.std.specs.Str.{bytes_eq}
use Rattle.std.proofs.lemmas.Bool.{and_parts, and_from}
use Rattle.std.proofs.lemmas.Slice.Eq.{bytes_eq-Decides}
use Rattle.sql_value.specs.declared.value.Value.{Value}
use Rattle.row_format.specs.declared.schema.Schema.{Schema}
use Rattle.row_format.specs.declared.change.Change.{Change}
use Rattle.row_format.specs.declared.change.Change.TheVariants.{Install, Uninstall, Create, Drop, Insert, Update, Delete}
use Rattle.row_format.specs.Schemas.{same_schema}
use Rattle.row_format.proofs.SameLemmas.{same_schema-true}
use Rattle.log_tables.specs.declared.table.Table.{Table}
use Rattle.log_tables.specs.Keys.{has_key, IsOrdered}
use Rattle.log_tables.specs.Tables.{table_named}
use Rattle.log_tables.specs.Changes.{after_change, after_changes, all_apply, with_rows, rows_after, takes, applies, names_table}
use Rattle.log_tables.proofs.FoldLemmas.{after_changes-append}
use Rattle.log_tables.proofs.PartLemmas.{cases, cond_true}
use Rattle.engine_api.specs.Live.{meets, meets_any, table_of, keys_of, same_found, keys_meet}
use Rattle.live_tables.specs.Folds.{AreMade, rows_changed, found_after, fits, Agree, Apart}
use Rattle.live_tables.proofs.NameLemmas.{no, found_stays, named_after, applies_found}
use Rattle.live_tables.proofs.EditLemmas.{some_of, suited, keys_at, IsEdit, edit_of, edit_takes, can_replace, replace, names, AreSeparate, separate_sym, fit_either, same_end}
use Rattle.live_tables.proofs.MadeLemmas.{IsInOrder, found_in_order, made_after, all_made}
use Rattle.live_tables.proofs.FoldLemmas.{all_apply_append}
use Rattle.live_tables.proofs.MeetLemmas.{holds, keys_none, keys_apart, or_false, apart_sym}
use Rattle.live_tables.proofs.AgreeLemmas.{agree_itself, agree_trans, agree_all_apply, agree_changes}

-- What is said of two changes under one name: the second applies before the first, the first behind it, and both orders agree.
pub record Passes (n : List ℕ) (a b : Change) (o : Option Table) : Type 0 where
  pub second : names_table n b ≡ true → fits b o ≡ true
  pub first : names_table n a ≡ true → fits a (found_after n b o) ≡ true
  pub agree : found_after n b (found_after n a o) ≡ found_after n a (found_after n b o)

passes_first : (n : List ℕ) (a b : Change) (o : Option Table) → names_table n a ≡ false → (names_table n b ≡ true → fits b (found_after n a o) ≡ true) → Passes n a b o
passes_first n a b o other fit_b = record {
  second = λ own. sym (ap (fits b) (found_stays n a o other)) ∙ fit_b own;
  first = λ own. absurd (no (sym other ∙ own));
  agree = ap (found_after n b) (found_stays n a o other) ∙ sym (found_stays n a (found_after n b o) other);
}

passes_second : (n : List ℕ) (a b : Change) (o : Option Table) → names_table n b ≡ false → (names_table n a ≡ true → fits a o ≡ true) → Passes n a b o
passes_second n a b o other fit_a = record {
  second = λ own. absurd (no (sym other ∙ own));
  first = λ own. ap (fits a) (found_stays n b o other) ∙ fit_a own;
  agree = found_stays n b (found_after n a o) other ∙ sym (ap (found_after n a) (found_stays n b o other));
}

-- the table with these rows
abbrev edited : Table → List (List Value) → Table
edited table rows = record { definition = table.definition; rows = rows }

or_none : (b : Bool) → (b || false) ≡ b
or_none true = refl
or_none false = refl

-- the keys that an edit names are those of its rows
names_held : (column : ℕ) (key : Value) (before after : Option (List Value)) → names column key before after ≡ holds key (keys_at column before ++ keys_at column after)
names_held column key None None = refl
names_held column key None (Some row) = sym (or_none (has_key column key row))
names_held column key (Some row) None = refl
names_held column key (Some row) (Some other) = ap (λ b. has_key column key row || b) (sym (or_none (has_key column key other)))

separate : (column : ℕ) (a b : Change) (ea : IsEdit a) (eb : IsEdit b) → ea.map.schema.key ≡ Some column → eb.map.schema.key ≡ Some column → keys_meet (keys_of b) (keys_of a) ≡ false
    → AreSeparate column ea.before ea.after eb.before eb.after
separate column a b ea eb at_a at_b apart key = elim (keys_apart (keys_of b) (keys_of a) apart key) [
  | inl free ↦ inl (names_held column key ea.before ea.after ∙ ap (holds key) (sym (ea.keys column at_a)) ∙ free)
  | inr free ↦ inr (names_held column key eb.before eb.after ∙ ap (holds key) (sym (eb.keys column at_b)) ∙ free)
]

-- the key column of a table is that of the map of a row change that applies to it
map_key : (c : Change) (e : IsEdit c) (t : Table) → takes c (Some t) ≡ true → e.map.schema.key ≡ t.definition.schema.key
map_key c e t fit = ap (λ (s : Schema). s.key) (same_schema-true e.map.schema t.definition.schema (e.suits t fit))

-- What a row change that applies makes of the table of its name, which has a key.
record Made (n : List ℕ) (c : Change) (e : IsEdit c) (column : ℕ) (t : Table) : Type 0 where
  rows : List (List Value)
  is : rows_after c t ≡ Some rows
  replaces : replace column e.before e.after t.rows ≡ Some rows
  after : found_after n c (Some t) ≡ Some (edited t rows)

made_of : (n : List ℕ) (c : Change) (e : IsEdit c) (column : ℕ) (t : Table) → bytes_eq e.map.table n ≡ true → t.definition.schema.key ≡ Some column → takes c (Some t) ≡ true → Made n c e column t
made_of n c e column t own at fit =
    let rows = some_of (rows_after c t) fit in
    record {
      rows = rows.0;
      is = rows.1;
      replaces = suited (same_schema e.map.schema t.definition.schema) (replace column e.before e.after t.rows) rows.0 (sym (e.rows t column at) ∙ rows.1);
      after = e.found n (Some t) ∙ cond_true (bytes_eq e.map.table n) (rows_changed c (Some t)) (Some t) own ∙ ap (λ o. Some (with_rows t o)) rows.1;
    }

-- two row changes of one table with a key, that name other keys
passes_keyed : (n : List ℕ) (a b : Change) (ea : IsEdit a) (eb : IsEdit b) (column : ℕ) (t : Table) → t.definition.schema.key ≡ Some column → IsOrdered t.definition.schema.key t.rows
    → bytes_eq ea.map.table n ≡ true → bytes_eq eb.map.table n ≡ true → keys_meet (keys_of b) (keys_of a) ≡ false → takes a (Some t) ≡ true
    → takes b (found_after n a (Some t)) ≡ true → Passes n a b (Some t)
passes_keyed n a b ea eb column t at ordered own_a own_b apart fit_a fit_b =
    let first_a = made_of n a ea column t own_a at fit_a in
    let mid = edited t first_a.rows in
    let b_behind : takes b (Some mid) ≡ true = sym (ap (takes b) first_a.after) ∙ fit_b in
    let apart_keys = separate column a b ea eb (map_key a ea t fit_a ∙ at) (map_key b eb mid b_behind ∙ at) apart in
    let tests_b = and_parts (same_schema eb.map.schema t.definition.schema) (can_replace column eb.before eb.after first_a.rows) (sym (edit_takes b eb mid column at) ∙ b_behind) in
    let can_b = sym (fit_either column ea.before ea.after eb.before eb.after t.rows first_a.rows apart_keys first_a.replaces) ∙ tests_b.1 in
    let b_first : takes b (Some t) ≡ true = edit_takes b eb t column at ∙ and_from (same_schema eb.map.schema t.definition.schema) (can_replace column eb.before eb.after t.rows) tests_b.0 can_b in
    let first_b = made_of n b eb column t own_b at b_first in
    let other = edited t first_b.rows in
    let tests_a = and_parts (same_schema ea.map.schema t.definition.schema) (can_replace column ea.before ea.after t.rows) (sym (edit_takes a ea t column at) ∙ fit_a) in
    let turned = separate_sym column ea.before ea.after eb.before eb.after apart_keys in
    let can_a = fit_either column eb.before eb.after ea.before ea.after t.rows first_b.rows turned first_b.replaces ∙ tests_a.1 in
    let a_behind : takes a (Some other) ≡ true = edit_takes a ea other column at ∙ and_from (same_schema ea.map.schema t.definition.schema) (can_replace column ea.before ea.after first_b.rows) tests_a.0 can_a in
    let second_b = made_of n b eb column mid own_b at b_behind in
    let second_a = made_of n a ea column other own_a at a_behind in
    let mid_ordered = ea.ordered t first_a.rows first_a.is ordered in
    let other_ordered = eb.ordered t first_b.rows first_b.is ordered in
    let x_ordered = subst (λ k. IsOrdered k second_b.rows) at (eb.ordered mid second_b.rows second_b.is mid_ordered) in
    let y_ordered = subst (λ k. IsOrdered k second_a.rows) at (ea.ordered other second_a.rows second_a.is other_ordered) in
    let same = same_end column ea.before ea.after eb.before eb.after t.rows first_a.rows first_b.rows second_b.rows second_a.rows apart_keys first_a.replaces second_b.replaces first_b.replaces second_a.replaces x_ordered y_ordered in
    record {
      second = λ own. eb.fit (Some t) ∙ b_first;
      first = λ own. ap (fits a) first_b.after ∙ ea.fit (Some other) ∙ a_behind;
      agree = ap (found_after n b) first_a.after ∙ second_b.after ∙ ap (λ l. Some (edited t l)) same ∙ sym (ap (found_after n a) first_b.after ∙ second_a.after);
    }

passes_edits : (n : List ℕ) (a b : Change) (ea : IsEdit a) (eb : IsEdit b) (o : Option Table) → IsInOrder o → bytes_eq ea.map.table n ≡ true → bytes_eq eb.map.table n ≡ true
    → keys_meet (keys_of b) (keys_of a) ≡ false → takes a o ≡ true → takes b (found_after n a o) ≡ true → Passes n a b o
passes_edits n a b ea eb None ordered own_a own_b apart fit_a fit_b = absurd (no fit_a)
passes_edits n a b ea eb (Some t) ordered own_a own_b apart fit_a fit_b = go t.definition.schema.key refl
  where
    go : (key : Option ℕ) → t.definition.schema.key ≡ key → Passes n a b (Some t)
    go None at = absurd (no (sym apart ∙ ap (keys_meet (keys_of b)) (ea.keyless (map_key a ea t fit_a ∙ at)) ∙ keys_none (keys_of b)))
    go (Some column) at = passes_keyed n a b ea eb column t at ordered own_a own_b apart fit_a fit_b

named : (n : List ℕ) (c : Change) → names_table n c ≡ true → table_of c ≡ Some n
named n (Create m e s) own = ap Some ((bytes_eq-Decides m n).0 own)
named n (Drop m) own = ap Some ((bytes_eq-Decides m n).0 own)
named n (Insert map row) own = ap Some ((bytes_eq-Decides map.table n).0 own)
named n (Update map place before after) own = ap Some ((bytes_eq-Decides map.table n).0 own)
named n (Delete map place before) own = ap Some ((bytes_eq-Decides map.table n).0 own)
named n (Install e) own = absurd (no own)
named n (Uninstall e) own = absurd (no own)

-- two changes on one table that do not meet have keys that do not
pub keys_only : (n : List ℕ) (a b : Change) → names_table n a ≡ true → names_table n b ≡ true → meets b a ≡ false → keys_meet (keys_of b) (keys_of a) ≡ false
keys_only n a b own_a own_b h =
    let one : same_found (table_of b) (table_of a) ≡ true =
    ap (λ x. same_found x (table_of a)) (named n b own_b) ∙ ap (same_found (Some n)) (named n a own_a) ∙ (bytes_eq-Decides n n).1 refl in
    sym (ap (λ x. x && keys_meet (keys_of b) (keys_of a)) one) ∙ h

-- two changes of one table that do not meet are row changes
pub both_edits : {P : Type 0} → (a b : Change) → keys_meet (keys_of b) (keys_of a) ≡ false → (IsEdit a → IsEdit b → P) → P
both_edits {P} a b apart then = go (edit_of a) (edit_of b)
  where
    go : (keys_of a ≡ []) ⊎ IsEdit a → (keys_of b ≡ []) ⊎ IsEdit b → P
    go (inl none) of_b = absurd (no (sym apart ∙ ap (keys_meet (keys_of b)) none ∙ keys_none (keys_of b)))
    go (inr ea) (inl none) = absurd (no (sym apart ∙ ap (λ l. keys_meet l (keys_of a)) none))
    go (inr ea) (inr eb) = then ea eb

passes_both : (n : List ℕ) (a b : Change) (o : Option Table) → IsInOrder o → names_table n a ≡ true → names_table n b ≡ true → keys_meet (keys_of b) (keys_of a) ≡ false
    → fits a o ≡ true → fits b (found_after n a o) ≡ true → Passes n a b o
passes_both n a b o ordered own_a own_b apart fit_a fit_b = both_edits a b apart (λ ea eb.
    passes_edits n a b ea eb o ordered (sym (ea.named n) ∙ own_a) (sym (eb.named n) ∙ own_b) apart (sym (ea.fit o) ∙ fit_a) (sym (eb.fit (found_after n a o)) ∙ fit_b))

passes : (n : List ℕ) (a b : Change) (o : Option Table) → IsInOrder o → meets b a ≡ false → (names_table n a ≡ true → fits a o ≡ true)
    → (names_table n b ≡ true → fits b (found_after n a o) ≡ true) → Passes n a b o
passes n a b o ordered apart fit_a fit_b = elim (cases (names_table n a)) [
  | inr other ↦ passes_first n a b o other fit_b
  | inl own_a ↦ elim (cases (names_table n b)) [
    | inr other ↦ passes_second n a b o other fit_a
    | inl own_b ↦ passes_both n a b o ordered own_a own_b (keys_only n a b own_a own_b apart) (fit_a own_a) (fit_b own_b)
  ]
]

-- of two row changes that both apply to what was found and name other keys, the first applies behind the second
beside_keyed : (n : List ℕ) (a b : Change) (ea : IsEdit a) (eb : IsEdit b) (t : Table) → bytes_eq eb.map.table n ≡ true → keys_meet (keys_of b) (keys_of a) ≡ false
    → takes a (Some t) ≡ true → takes b (Some t) ≡ true → takes a (found_after n b (Some t)) ≡ true
beside_keyed n a b ea eb t own_b apart fit_a fit_b = go t.definition.schema.key refl
  where
    go : (key : Option ℕ) → t.definition.schema.key ≡ key → takes a (found_after n b (Some t)) ≡ true
    go None at = absurd (no (sym apart ∙ ap (keys_meet (keys_of b)) (ea.keyless (map_key a ea t fit_a ∙ at)) ∙ keys_none (keys_of b)))
    go (Some column) at =
        let first_b = made_of n b eb column t own_b at fit_b in
        let apart_keys = separate column a b ea eb (map_key a ea t fit_a ∙ at) (map_key b eb t fit_b ∙ at) apart in
        let turned = separate_sym column ea.before ea.after eb.before eb.after apart_keys in
        let tests_a = and_parts (same_schema ea.map.schema t.definition.schema) (can_replace column ea.before ea.after t.rows) (sym (edit_takes a ea t column at) ∙ fit_a) in
        let can_a = fit_either column eb.before eb.after ea.before ea.after t.rows first_b.rows turned first_b.replaces ∙ tests_a.1 in
        ap (takes a) first_b.after
        ∙ edit_takes a ea (edited t first_b.rows) column at
        ∙ and_from (same_schema ea.map.schema t.definition.schema) (can_replace column ea.before ea.after first_b.rows) tests_a.0 can_a

beside_edits : (n : List ℕ) (a b : Change) (ea : IsEdit a) (eb : IsEdit b) (o : Option Table) → bytes_eq eb.map.table n ≡ true → keys_meet (keys_of b) (keys_of a) ≡ false
    → takes a o ≡ true → takes b o ≡ true → takes a (found_after n b o) ≡ true
beside_edits n a b ea eb None own_b apart fit_a fit_b = absurd (no fit_a)
beside_edits n a b ea eb (Some t) own_b apart fit_a fit_b = beside_keyed n a b ea eb t own_b apart fit_a fit_b

-- Of two changes on one table that do not meet and both apply, the first applies behind the second.
pub both_fit : (n : List ℕ) (a b : Change) (o : Option Table) → names_table n b ≡ true → keys_meet (keys_of b) (keys_of a) ≡ false → fits a o ≡ true → fits b o ≡ true
    → fits a (found_after n b o) ≡ true
both_fit n a b o own_b apart fit_a fit_b = both_edits a b apart (λ ea eb.
    ea.fit (found_after n b o) ∙ beside_edits n a b ea eb o (sym (eb.named n) ∙ own_b) apart (sym (ea.fit o) ∙ fit_a) (sym (eb.fit o) ∙ fit_b))

-- a change applies where it does by what is found under the name that it has
pub applies_from : (c : Change) (ts : List Table) → ((n : List ℕ) → names_table n c ≡ true → fits c (table_named n ts) ≡ true) → applies c ts ≡ true
applies_from (Create m e s) ts h = h m ((bytes_eq-Decides m m).1 refl)
applies_from (Drop m) ts h = h m ((bytes_eq-Decides m m).1 refl)
applies_from (Insert map row) ts h = h map.table ((bytes_eq-Decides map.table map.table).1 refl)
applies_from (Update map place before after) ts h = h map.table ((bytes_eq-Decides map.table map.table).1 refl)
applies_from (Delete map place before) ts h = h map.table ((bytes_eq-Decides map.table map.table).1 refl)
applies_from (Install e) ts h = refl
applies_from (Uninstall e) ts h = refl

-- Of two changes that do not meet and apply one after the other, the second applies first and the first behind it, and the tables agree.
pub pass_one : (a b : Change) (ts : List Table) → AreMade ts → meets b a ≡ false → applies a ts ≡ true → applies b (after_change a ts) ≡ true
    → (applies b ts ≡ true) × (applies a (after_change b ts) ≡ true) × Agree (after_change b (after_change a ts)) (after_change a (after_change b ts))
pass_one a b ts made apart fit_a fit_b = (
  applies_from b ts (λ n own. (under n).second own),
  applies_from a (after_change b ts) (λ n own. ap (fits a) (named_after n b ts made.names) ∙ (under n).first own),
  λ n.
      named_after n b (after_change a ts) (made_after a ts made).names
      ∙ ap (found_after n b) (named_after n a ts made.names)
      ∙ (under n).agree
      ∙ sym (named_after n a (after_change b ts) (made_after b ts made).names ∙ ap (found_after n a) (named_after n b ts made.names)),
)
  where
    under : (n : List ℕ) → Passes n a b (table_named n ts)
    under n = passes n a b (table_named n ts) (found_in_order n ts made.rows) apart
        (λ own. sym (applies_found n a ts own) ∙ fit_a)
        (λ own. sym (ap (fits b) (named_after n a ts made.names)) ∙ sym (applies_found n b (after_change a ts) own) ∙ fit_b)

-- A change passes all those before it that it does not meet.
pub pass_list : (b : Change) (cs : List Change) (ts : List Table) → AreMade ts → meets_any b cs ≡ false → all_apply cs ts ≡ true → applies b (after_changes cs ts) ≡ true
    → (applies b ts ≡ true) × (all_apply cs (after_change b ts) ≡ true) × Agree (after_change b (after_changes cs ts)) (after_changes cs (after_change b ts))
pass_list b [] ts made apart fit_cs fit_b = (fit_b, refl, agree_itself (after_change b ts))
pass_list b (a ∷ cs) ts made apart fit_cs fit_b =
    let none = or_false (meets b a) (meets_any b cs) apart in
    let fit = and_parts (applies a ts) (all_apply cs (after_change a ts)) fit_cs in
    let of_a = made_after a ts made in
    let of_b = made_after b ts made in
    let of_ab = made_after b (after_change a ts) of_a in
    let of_ba = made_after a (after_change b ts) of_b in
    let rest = pass_list b cs (after_change a ts) of_a none.1 fit.1 fit_b in
    let one = pass_one a b ts made none.0 fit.0 rest.0 in
    let turned = agree_changes cs (after_change b (after_change a ts)) (after_change a (after_change b ts)) of_ab of_ba one.2 in (
      one.0,
      and_from (applies a (after_change b ts)) (all_apply cs (after_change a (after_change b ts))) one.1
          (sym (agree_all_apply cs (after_change b (after_change a ts)) (after_change a (after_change b ts)) of_ab of_ba one.2) ∙ rest.1),
      agree_trans (after_change b (after_changes cs (after_change a ts))) (after_changes cs (after_change b (after_change a ts))) (after_changes cs (after_change a (after_change b ts))) rest.2 turned,
    )

-- the second list, apart from the first one by one, passes it
pass_all : (cs ds : List Change) (ts : List Table) → AreMade ts → Apart ds cs → all_apply (cs ++ ds) ts ≡ true
    → (all_apply (ds ++ cs) ts ≡ true) × Agree (after_changes (cs ++ ds) ts) (after_changes (ds ++ cs) ts)
pass_all cs [] ts made apart fit =
    let both = and_parts (all_apply cs ts) true (sym (all_apply_append cs [] ts) ∙ fit) in
    (both.0, subst (λ x. Agree x (after_changes cs ts)) (sym (after_changes-append cs [] ts)) (agree_itself (after_changes cs ts)))
pass_all cs (b ∷ ds) ts made apart fit =
    let both = and_parts (all_apply cs ts) (all_apply (b ∷ ds) (after_changes cs ts)) (sym (all_apply_append cs (b ∷ ds) ts) ∙ fit) in
    let tail = and_parts (applies b (after_changes cs ts)) (all_apply ds (after_change b (after_changes cs ts))) both.1 in
    let one = pass_list b cs ts made apart.0 both.0 tail.0 in
    let of_b = made_after b ts made in
    let of_cs_b = made_after b (after_changes cs ts) (all_made cs ts made) in
    let of_b_cs = all_made cs (after_change b ts) of_b in
    let behind = sym (agree_all_apply ds (after_change b (after_changes cs ts)) (after_changes cs (after_change b ts)) of_cs_b of_b_cs one.2) ∙ tail.1 in
    let here = all_apply_append cs ds (after_change b ts) ∙ and_from (all_apply cs (after_change b ts)) (all_apply ds (after_changes cs (after_change b ts))) one.1 behind in
    let rest = pass_all cs ds (after_change b ts) of_b apart.1 here in
    let turned = agree_changes ds (after_change b (after_changes cs ts)) (after_changes cs (after_change b ts)) of_cs_b of_b_cs one.2 in (
      and_from (applies b ts) (all_apply (ds ++ cs) (after_change b ts)) one.0 rest.0,
      subst (λ x. Agree x (after_changes (ds ++ cs) (after_change b ts))) (sym (after_changes-append cs (b ∷ ds) ts))
          (agree_trans (after_changes ds (after_change b (after_changes cs ts))) (after_changes ds (after_changes cs (after_change b ts))) (after_changes (ds ++ cs) (after_change b ts))
          turned
          (subst (λ x. Agree x (after_changes (ds ++ cs) (after_change b ts))) (after_changes-append cs ds (after_change b ts)) rest.1)),
    )

-- Two lists that are apart may change places: all apply, and the tables agree.
pub pass : (cs ds : List Change) (ts : List Table) → AreMade ts → Apart cs ds → all_apply (cs ++ ds) ts ≡ true
    → (all_apply (ds ++ cs) ts ≡ true) × Agree (after_changes (cs ++ ds) ts) (after_changes (ds ++ cs) ts)
pass cs ds ts made apart fit = pass_all cs ds ts made (apart_sym cs ds apart) fit

-- The second applies without the first.
pub drop_first : (cs ds : List Change) (ts : List Table) → AreMade ts → Apart cs ds → all_apply (cs ++ ds) ts ≡ true → all_apply ds ts ≡ true
drop_first cs ds ts made apart fit =
    (and_parts (all_apply ds ts) (all_apply cs (after_changes ds ts)) (sym (all_apply_append ds cs ts) ∙ (pass cs ds ts made apart fit).0)).0
