-- How many bytes changes take from the tables, and what they make of the bytes of one.
use Rattle.std.proofs.Common.{◌≡◌, ◌≤◌, ℕ, ◌+◌, ◌-◌, List, [], ◌∷◌, ◌++◌, Option, Some, None, Bool, true, false, cond, is_none, refl, sym, ap, ◌∙◌, inl, inr, arith, sum_by}
use Rattle.std.specs.Option.{option_or}
use Rattle.std.specs.Str.{bytes_eq}
use Rattle.std.proofs.lemmas.Bool.{and_parts}
use Rattle.std.proofs.lemmas.Slice.Eq.{bytes_eq-Decides}
use Rattle.std.proofs.lemmas.List.Sums.{sum_by-cons}
use Rattle.row_format.specs.declared.change.Change.{Change}
use Rattle.row_format.specs.declared.change.Change.TheVariants.{Install, Uninstall, Create, Drop, Insert, Update, Delete}
use Rattle.log_tables.specs.declared.table.Table.{Table}
use Rattle.log_tables.specs.Tables.{is_named, table_named, at_table, new_table, IsDictionary}
use Rattle.log_tables.specs.Changes.{after_change, after_changes, all_apply, takes, applies, names_table}
use Rattle.log_tables.proofs.PartLemmas.{cases, cond_true, cond_false}
use Rattle.engine_api.specs.Live.{live_bytes, table_bytes}
use Rattle.live_tables.specs.Folds.{AreMade, rows_changed, found_after, fits, through, bytes_found, change_bytes, Agree}
use Rattle.live_tables.specs.Gone.{gone, bytes_step}
use Rattle.live_tables.proofs.NameLemmas.{no, none_is, named_after}
use Rattle.live_tables.proofs.EditLemmas.{IsEdit, sum_of, insert_edit, update_edit, delete_edit}
use Rattle.live_tables.proofs.MadeLemmas.{IsInOrder, found_in_order, made_after}
use Rattle.live_tables.proofs.FoldLemmas.{image, edit_bytes, drop_bytes, bytes_one, fits_named}

-- Changes that apply add their bytes, and take some.
pub bytes_after : (cs : List Change) (ts : List Table) → AreMade ts → all_apply cs ts ≡ true
    → live_bytes (after_changes cs ts) + gone cs ts ≡ live_bytes ts + sum_by change_bytes cs
bytes_after [] ts made fit = omega arith
bytes_after (c ∷ cs) ts made fit =
    let both = and_parts (applies c ts) (all_apply cs (after_change c ts)) fit in
    let first = bytes_one c ts both.0 made.rows in
    let rest = bytes_after cs (after_change c ts) (made_after c ts made) both.1 in
    let all = sum_by-cons change_bytes c cs in
    omega (arith, first, rest, all)

-- Two lists of changes take what each takes.
pub gone_append : (cs ds : List Change) (ts : List Table) → gone (cs ++ ds) ts ≡ gone cs ts + gone ds (after_changes cs ts)
gone_append [] ds ts = omega arith
gone_append (c ∷ cs) ds ts = let rest = gone_append cs ds (after_change c ts) in omega (arith, rest)

-- the bytes of what was found, after a row change that applies
edit_found_bytes : (c : Change) (e : IsEdit c) (o : Option Table) → takes c o ≡ true → IsInOrder o
    → bytes_found (rows_changed c o) + sum_of image e.before ≡ bytes_found o + sum_of image e.after
edit_found_bytes c e None fit ordered = absurd (no fit)
edit_found_bytes c e (Some t) fit ordered = edit_bytes c e t fit ordered

found_bytes : (n : List ℕ) (c : Change) (o : Option Table) → (names_table n c ≡ true → fits c o ≡ true) → IsInOrder o → bytes_found (found_after n c o) ≡ bytes_step n c (bytes_found o)
found_bytes n (Create m e s) o fit ordered = go (bytes_eq m n) o fit
  where
    go : (b : Bool) (o : Option Table) → (b ≡ true → is_none o ≡ true)
        → bytes_found (cond b (option_or o (Some (new_table m e s))) o) ≡ cond b (bytes_found o + change_bytes (Create m e s)) (bytes_found o)
    go true None fit = omega arith
    go true (Some t) fit = absurd (no (fit refl))
    go false o fit = refl
found_bytes n (Drop m) o fit ordered = go (bytes_eq m n)
  where
    go : (b : Bool) → bytes_found (cond b None o) ≡ cond b 0 (bytes_found o)
    go true = refl
    go false = refl
found_bytes n (Insert map row) o fit ordered = go (bytes_eq map.table n) fit
  where
    go : (b : Bool) → (b ≡ true → takes (Insert map row) o ≡ true)
        → bytes_found (cond b (rows_changed (Insert map row) o) o) ≡ cond b (bytes_found o + image row) (bytes_found o)
    go true fit = let all = edit_found_bytes (Insert map row) (insert_edit map row) o (fit refl) ordered in omega (arith, all)
    go false fit = refl
found_bytes n (Update map place before after) o fit ordered = go (bytes_eq map.table n) fit
  where
    go : (b : Bool) → (b ≡ true → takes (Update map place before after) o ≡ true)
        → bytes_found (cond b (rows_changed (Update map place before after) o) o) ≡ cond b (bytes_found o + image after - image before) (bytes_found o)
    go true fit = let all = edit_found_bytes (Update map place before after) (update_edit map place before after) o (fit refl) ordered in omega (arith, all)
    go false fit = refl
found_bytes n (Delete map place before) o fit ordered = go (bytes_eq map.table n) fit
  where
    go : (b : Bool) → (b ≡ true → takes (Delete map place before) o ≡ true)
        → bytes_found (cond b (rows_changed (Delete map place before) o) o) ≡ cond b (bytes_found o - image before) (bytes_found o)
    go true fit = let all = edit_found_bytes (Delete map place before) (delete_edit map place before) o (fit refl) ordered in omega (arith, all)
    go false fit = refl
found_bytes n (Install e) o fit ordered = refl
found_bytes n (Uninstall e) o fit ordered = refl

-- The bytes of a table after changes that apply.
pub bytes_under : (n : List ℕ) (cs : List Change) (ts : List Table) → AreMade ts → all_apply cs ts ≡ true
    → bytes_found (table_named n (after_changes cs ts)) ≡ through (bytes_step n) cs (bytes_found (table_named n ts))
bytes_under n [] ts made fit = refl
bytes_under n (c ∷ cs) ts made fit =
    let both = and_parts (applies c ts) (all_apply cs (after_change c ts)) fit in
    bytes_under n cs (after_change c ts) (made_after c ts made) both.1
    ∙ ap (through (bytes_step n) cs)
    (ap bytes_found (named_after n c ts made.names) ∙ found_bytes n c (table_named n ts) (fits_named n c ts both.0) (found_in_order n ts made.rows))

-- A table has at most the bytes of all.
pub bytes_within : (n : List ℕ) (ts : List Table) → bytes_found (table_named n ts) ≤ live_bytes ts
bytes_within n ts = let all = drop_bytes n ts in omega (arith, all)

-- no table is found under any name where there is none
none_found : (ts : List Table) → Agree [] ts → live_bytes ts ≡ 0
none_found [] agree = refl
none_found (t ∷ ts) agree = absurd (never (agree t.definition.table ∙ found))
  where
    found : table_named t.definition.table (t ∷ ts) ≡ Some t
    found = cond_true (is_named t.definition.table t) (Some t) (table_named t.definition.table ts) ((bytes_eq-Decides t.definition.table t.definition.table).1 refl)

    never : None ≡ Some t → ⊥
    never q = cc

-- without the first table the others agree with what is left
agree_rest : (t : Table) (ts us : List Table) → IsDictionary (t ∷ ts) → IsDictionary us → Agree (t ∷ ts) us → Agree ts (at_table t.definition.table (λ _. []) us)
agree_rest t ts us of_ts of_us agree n = elim (cases (bytes_eq t.definition.table n)) [
  | inl own ↦
      ap (λ k. table_named k ts) (sym ((bytes_eq-Decides t.definition.table n).0 own))
      ∙ none_is (table_named t.definition.table ts) of_ts.0
      ∙ sym (after ∙ cond_true (bytes_eq t.definition.table n) None (table_named n us) own)
  | inr other ↦
      sym (cond_false (is_named n t) (Some t) (table_named n ts) other)
      ∙ agree n
      ∙ sym (after ∙ cond_false (bytes_eq t.definition.table n) None (table_named n us) other)
]
  where
    after : table_named n (after_change (Drop t.definition.table) us) ≡ found_after n (Drop t.definition.table) (table_named n us)
    after = named_after n (Drop t.definition.table) us of_us

-- Tables that agree have as many bytes.
pub agree_bytes : (ts us : List Table) → AreMade ts → AreMade us → Agree ts us → live_bytes ts ≡ live_bytes us
agree_bytes [] us of_ts of_us agree = sym (none_found us agree)
agree_bytes (t ∷ ts) us of_ts of_us agree =
    let name = t.definition.table in
    let found = sym (agree name) ∙ cond_true (is_named name t) (Some t) (table_named name ts) ((bytes_eq-Decides name name).1 refl) in
    let own = ap bytes_found found in
    let without = drop_bytes name us in
    let all = sum_by-cons table_bytes t ts in
    let rest = agree_bytes ts (at_table name (λ _. []) us) (record { names = of_ts.names.1; rows = of_ts.rows.1 }) (made_after (Drop name) us of_us)
    (agree_rest t ts us of_ts.names of_us.names agree) in
    omega (arith, own, without, all, rest)
