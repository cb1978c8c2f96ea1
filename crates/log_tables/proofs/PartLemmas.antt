-- An engine's part of the tables, under one change and under a list of changes.
use Rattle.std.proofs.Common.{◌≡◌, ℕ, List, [], ◌∷◌, ◌++◌, Some, None, Bool, true, false, cond, refl, sym, ap, subst, ◌∙◌, inl, inr, ◌⊎◌}
use Rattle.std.proofs.lemmas.List.{append-nil}
use Rattle.std.proofs.lemmas.List.Folds.{find-append}
use Rattle.std.specs.Option.{option_or}
use Rattle.std.proofs.lemmas.List.Elements.{filter-append}
use Rattle.std.proofs.lemmas.Slice.Eq.{bytes_eq-Decides}
use Rattle.std.specs.Prelude.{Option, is_some, is_none}
use Rattle.std.specs.Str.{bytes_eq}
use Rattle.row_format.specs.declared.schema.Schema.{Schema}
use Rattle.row_format.specs.declared.change.Change.{Change}
use Rattle.row_format.specs.declared.change.Change.TheVariants.{Create, Drop, Insert, Update, Delete, Install, Uninstall}
use Rattle.sql_value.specs.declared.value.Value.{Value}
use Rattle.log_tables.specs.Tables.{Table, is_named, is_of, table_named, part_of, at_table, new_table, IsDictionary}
use Rattle.log_tables.specs.Changes.{after_change, after_changes, changed, with_rows, rows_after, Applies, takes, found_of, is_on, changes_on, EachApplies, names_table}

-- a test answers yes or no
pub cases : (b : Bool) → (b ≡ true) ⊎ (b ≡ false)
cases true = inl refl
cases false = inr refl

pub cond_true : {X : Type 0} (b : Bool) (x y : X) → b ≡ true → cond b x y ≡ x
cond_true b x y e = ap (λ t. cond t x y) e

pub cond_false : {X : Type 0} (b : Bool) (x y : X) → b ≡ false → cond b x y ≡ y
cond_false b x y e = ap (λ t. cond t x y) e

-- what is made of a table of another engine leaves the part
pub at_table-other : (e n : List ℕ) (make : Table → List Table) → ((t : Table) → is_of e t ≡ false → part_of e (make t) ≡ [])
    → (ts : List Table) → found_of e (table_named n ts) ≡ false → part_of e (at_table n make ts) ≡ part_of e ts
at_table-other e n make away [] h = refl
at_table-other e n make away (t ∷ ts) h = elim (cases (is_named n t)) [
  | inl here ↦
      let other : is_of e t ≡ false = sym (ap (found_of e) (cond_true (is_named n t) (Some t) (table_named n ts) here)) ∙ h in
      ap (part_of e) (cond_true (is_named n t) (make t ++ ts) (t ∷ at_table n make ts) here)
      ∙ filter-append (is_of e) (make t) ts
      ∙ ap (λ xs. xs ++ part_of e ts) (away t other)
      ∙ sym (cond_false (is_of e t) (t ∷ part_of e ts) (part_of e ts) other)
  | inr past ↦
      let later = sym (ap (found_of e) (cond_false (is_named n t) (Some t) (table_named n ts) past)) ∙ h in
      ap (part_of e) (cond_false (is_named n t) (make t ++ ts) (t ∷ at_table n make ts) past)
      ∙ ap (λ xs. cond (is_of e t) (t ∷ xs) xs) (at_table-other e n make away ts later)
]

-- what is made of a table of the engine is made of it in the part
pub at_table-own : (e n : List ℕ) (make : Table → List Table) → ((t : Table) → is_of e t ≡ true → part_of e (make t) ≡ make t)
    → (ts : List Table) → found_of e (table_named n ts) ≡ true → part_of e (at_table n make ts) ≡ at_table n make (part_of e ts)
at_table-own e n make own [] h = refl
at_table-own e n make own (t ∷ ts) h = elim (cases (is_named n t)) [
  | inl here ↦
      let ours : is_of e t ≡ true = sym (ap (found_of e) (cond_true (is_named n t) (Some t) (table_named n ts) here)) ∙ h in
      ap (part_of e) (cond_true (is_named n t) (make t ++ ts) (t ∷ at_table n make ts) here)
      ∙ filter-append (is_of e) (make t) ts
      ∙ ap (λ xs. xs ++ part_of e ts) (own t ours)
      ∙ sym (cond_true (is_named n t) (make t ++ part_of e ts) (t ∷ at_table n make (part_of e ts)) here)
      ∙ sym (ap (at_table n make) (cond_true (is_of e t) (t ∷ part_of e ts) (part_of e ts) ours))
  | inr past ↦
      let later = sym (ap (found_of e) (cond_false (is_named n t) (Some t) (table_named n ts) past)) ∙ h in
      let rest = at_table-own e n make own ts later in
      ap (part_of e) (cond_false (is_named n t) (make t ++ ts) (t ∷ at_table n make ts) past)
      ∙ elim (cases (is_of e t)) as (λ _. cond (is_of e t) (t ∷ part_of e (at_table n make ts)) (part_of e (at_table n make ts)) ≡ at_table n make (cond (is_of e t) (t ∷ part_of e ts) (part_of e ts))) [
        | inl ours ↦
            cond_true (is_of e t) (t ∷ part_of e (at_table n make ts)) (part_of e (at_table n make ts)) ours
            ∙ ap (λ xs. t ∷ xs) rest
            ∙ sym (cond_false (is_named n t) (make t ++ part_of e ts) (t ∷ at_table n make (part_of e ts)) past)
            ∙ sym (ap (at_table n make) (cond_true (is_of e t) (t ∷ part_of e ts) (part_of e ts) ours))
        | inr other ↦
            cond_false (is_of e t) (t ∷ part_of e (at_table n make ts)) (part_of e (at_table n make ts)) other
            ∙ rest
            ∙ sym (ap (at_table n make) (cond_false (is_of e t) (t ∷ part_of e ts) (part_of e ts) other))
      ]
]

-- a table of the engine is found in the part as it is in all
pub table_named-part : (e n : List ℕ) (ts : List Table) → found_of e (table_named n ts) ≡ true → table_named n (part_of e ts) ≡ table_named n ts
table_named-part e n [] h = refl
table_named-part e n (t ∷ ts) h = elim (cases (is_named n t)) [
  | inl here ↦
      let ours : is_of e t ≡ true = sym (ap (found_of e) (cond_true (is_named n t) (Some t) (table_named n ts) here)) ∙ h in
      ap (table_named n) (cond_true (is_of e t) (t ∷ part_of e ts) (part_of e ts) ours)
      ∙ cond_true (is_named n t) (Some t) (table_named n (part_of e ts)) here
      ∙ sym (cond_true (is_named n t) (Some t) (table_named n ts) here)
  | inr past ↦
      let later = sym (ap (found_of e) (cond_false (is_named n t) (Some t) (table_named n ts) past)) ∙ h in
      let rest = table_named-part e n ts later in
      elim (cases (is_of e t)) as (λ _. table_named n (cond (is_of e t) (t ∷ part_of e ts) (part_of e ts)) ≡ cond (is_named n t) (Some t) (table_named n ts)) [
        | inl ours ↦
            ap (table_named n) (cond_true (is_of e t) (t ∷ part_of e ts) (part_of e ts) ours)
            ∙ cond_false (is_named n t) (Some t) (table_named n (part_of e ts)) past
            ∙ rest ∙ sym (cond_false (is_named n t) (Some t) (table_named n ts) past)
        | inr other ↦
            ap (table_named n) (cond_false (is_of e t) (t ∷ part_of e ts) (part_of e ts) other)
            ∙ rest ∙ sym (cond_false (is_named n t) (Some t) (table_named n ts) past)
      ]
]

-- a name that is free is free in each part
pub free-part : (e n : List ℕ) (ts : List Table) → is_none (table_named n ts) ≡ true → is_none (table_named n (part_of e ts)) ≡ true
free-part e n [] h = refl
free-part e n (t ∷ ts) h = elim (cases (is_named n t)) [
  | inl here ↦ absurd (true_false (sym (ap is_none (cond_true (is_named n t) (Some t) (table_named n ts) here)) ∙ h))
  | inr past ↦
      let later : is_none (table_named n ts) ≡ true = sym (ap is_none (cond_false (is_named n t) (Some t) (table_named n ts) past)) ∙ h in
      let rest = free-part e n ts later in
      elim (cases (is_of e t)) as (λ _. is_none (table_named n (cond (is_of e t) (t ∷ part_of e ts) (part_of e ts))) ≡ true) [
        | inl ours ↦
            ap (λ xs. is_none (table_named n xs)) (cond_true (is_of e t) (t ∷ part_of e ts) (part_of e ts) ours)
            ∙ ap is_none (cond_false (is_named n t) (Some t) (table_named n (part_of e ts)) past) ∙ rest
        | inr other ↦
            ap (λ xs. is_none (table_named n xs)) (cond_false (is_of e t) (t ∷ part_of e ts) (part_of e ts) other) ∙ rest
      ]
]
  where
    true_false : (false ≡ true) → ⊥
    true_false e = cc

-- rows change, the engine stays
of_with_rows : (e : List ℕ) (t : Table) (o : Option (List (List Value))) → is_of e (with_rows t o) ≡ is_of e t
of_with_rows e t None = refl
of_with_rows e t (Some rows) = refl

changed-away : (e : List ℕ) (c : Change) (t : Table) → is_of e t ≡ false → part_of e (changed c t) ≡ []
changed-away e c t h = cond_false (is_of e (with_rows t (rows_after c t))) (with_rows t (rows_after c t) ∷ []) [] (of_with_rows e t (rows_after c t) ∙ h)

changed-own : (e : List ℕ) (c : Change) (t : Table) → is_of e t ≡ true → part_of e (changed c t) ≡ changed c t
changed-own e c t h = cond_true (is_of e (with_rows t (rows_after c t))) (with_rows t (rows_after c t) ∷ []) [] (of_with_rows e t (rows_after c t) ∙ h)

-- the part after a Create
create_part : (e n of : List ℕ) (s : Schema) (ts : List Table) → part_of e (ts ++ new_table n of s ∷ []) ≡ part_of e ts ++ cond (bytes_eq of e) (new_table n of s ∷ []) []
create_part e n of s ts = filter-append (is_of e) ts (new_table n of s ∷ [])

create-other : (e n of : List ℕ) (s : Schema) (ts : List Table) → bytes_eq of e ≡ false → (b : Bool) → part_of e (cond b ts (ts ++ new_table n of s ∷ [])) ≡ part_of e ts
create-other e n of s ts h true = refl
create-other e n of s ts h false = create_part e n of s ts ∙ ap (λ xs. part_of e ts ++ xs) (cond_false (bytes_eq of e) (new_table n of s ∷ []) [] h) ∙ append-nil (part_of e ts)

pub taken : {X : Type 0} (o : Option X) → is_none o ≡ true → is_some o ≡ false
taken None h = refl
taken (Some x) h = cc

-- A change that is not on a table of the engine leaves the engine's part.
pub change-other : (e : List ℕ) (c : Change) (ts : List Table) → is_on e c ts ≡ false → part_of e (after_change c ts) ≡ part_of e ts
change-other e (Create n of s) ts h = create-other e n of s ts h (is_some (table_named n ts))
change-other e (Drop n) ts h = at_table-other e n (λ _. []) (λ t o. refl) ts h
change-other e (Insert map row) ts h = at_table-other e map.table (changed (Insert map row)) (changed-away e (Insert map row)) ts h
change-other e (Update map place before after) ts h = at_table-other e map.table (changed (Update map place before after)) (changed-away e (Update map place before after)) ts h
change-other e (Delete map place before) ts h = at_table-other e map.table (changed (Delete map place before)) (changed-away e (Delete map place before)) ts h
change-other e (Install n) ts h = refl
change-other e (Uninstall n) ts h = refl

-- A change on a table of the engine that applies does in the engine's part what it does in all.
pub change-own : (e : List ℕ) (c : Change) (ts : List Table) → is_on e c ts ≡ true → Applies c ts → part_of e (after_change c ts) ≡ after_change c (part_of e ts)
change-own e (Create n of s) ts h a =
    let free : is_some (table_named n ts) ≡ false = taken (table_named n ts) a in
    let free_here : is_some (table_named n (part_of e ts)) ≡ false = taken (table_named n (part_of e ts)) (free-part e n ts a) in
    ap (part_of e) (cond_false (is_some (table_named n ts)) ts (ts ++ new_table n of s ∷ []) free)
    ∙ create_part e n of s ts
    ∙ ap (λ xs. part_of e ts ++ xs) (cond_true (bytes_eq of e) (new_table n of s ∷ []) [] h)
    ∙ sym (cond_false (is_some (table_named n (part_of e ts))) (part_of e ts) (part_of e ts ++ new_table n of s ∷ []) free_here)
change-own e (Drop n) ts h a = at_table-own e n (λ _. []) (λ t o. refl) ts h
change-own e (Insert map row) ts h a = at_table-own e map.table (changed (Insert map row)) (changed-own e (Insert map row)) ts h
change-own e (Update map place before after) ts h a = at_table-own e map.table (changed (Update map place before after)) (changed-own e (Update map place before after)) ts h
change-own e (Delete map place before) ts h a = at_table-own e map.table (changed (Delete map place before)) (changed-own e (Delete map place before)) ts h
change-own e (Install n) ts h a = refl
change-own e (Uninstall n) ts h a = refl

-- It applies to the part.
pub applies-part : (e : List ℕ) (c : Change) (ts : List Table) → is_on e c ts ≡ true → Applies c ts → Applies c (part_of e ts)
applies-part e (Create n of s) ts h a = free-part e n ts a
applies-part e (Drop n) ts h a = ap is_some (table_named-part e n ts h) ∙ a
applies-part e (Insert map row) ts h a = ap (takes (Insert map row)) (table_named-part e map.table ts h) ∙ a
applies-part e (Update map place before after) ts h a = ap (takes (Update map place before after)) (table_named-part e map.table ts h) ∙ a
applies-part e (Delete map place before) ts h a = ap (takes (Delete map place before)) (table_named-part e map.table ts h) ∙ a
applies-part e (Install n) ts h a = refl
applies-part e (Uninstall n) ts h a = refl

other_name : (d e n : List ℕ) → bytes_eq d e ≡ false → bytes_eq n d ≡ true → bytes_eq n e ≡ false
other_name d e n apart h = ap (λ x. bytes_eq x e) ((bytes_eq-Decides n d).0 h) ∙ apart

other_found : (d e : List ℕ) (o : Option Table) → bytes_eq d e ≡ false → found_of d o ≡ true → found_of e o ≡ false
other_found d e None apart h = refl
other_found d e (Some t) apart h = other_name d e t.definition.engine apart h

-- A change on a table of one engine is on none of another.
pub one_engine : (d e : List ℕ) (c : Change) (ts : List Table) → bytes_eq d e ≡ false → is_on d c ts ≡ true → is_on e c ts ≡ false
one_engine d e (Create n of s) ts apart h = other_name d e of apart h
one_engine d e (Drop n) ts apart h = other_found d e (table_named n ts) apart h
one_engine d e (Insert map row) ts apart h = other_found d e (table_named map.table ts) apart h
one_engine d e (Update map place before after) ts apart h = other_found d e (table_named map.table ts) apart h
one_engine d e (Delete map place before) ts apart h = other_found d e (table_named map.table ts) apart h
one_engine d e (Install n) ts apart h = refl
one_engine d e (Uninstall n) ts apart h = refl

-- A change on a table of one engine leaves the part of each other engine.
pub change-elsewhere : (d e : List ℕ) (c : Change) (ts : List Table) → bytes_eq d e ≡ false → is_on d c ts ≡ true → part_of e (after_change c ts) ≡ part_of e ts
change-elsewhere d e c ts apart h = change-other e c ts (one_engine d e c ts apart h)

-- A list of changes of which none is on a table of the engine leaves its part.
pub changes-other : (e : List ℕ) (cs : List Change) (ts : List Table) → changes_on e cs ts ≡ [] → part_of e (after_changes cs ts) ≡ part_of e ts
changes-other e [] ts h = refl
changes-other e (c ∷ cs) ts h = elim (cases (is_on e c ts)) [
  | inl on ↦ absurd (filled (sym (cond_true (is_on e c ts) (c ∷ changes_on e cs (after_change c ts)) (changes_on e cs (after_change c ts)) on) ∙ h))
  | inr off ↦
      changes-other e cs (after_change c ts) (sym (cond_false (is_on e c ts) (c ∷ changes_on e cs (after_change c ts)) (changes_on e cs (after_change c ts)) off) ∙ h)
      ∙ change-other e c ts off
]
  where
    filled : {x : Change} {xs : List Change} → x ∷ xs ≡ [] → ⊥
    filled q = cc

-- The part after a list of changes is what the changes on the engine make of the part before.
pub changes-part : (e : List ℕ) (cs : List Change) (ts : List Table) → EachApplies e cs ts → part_of e (after_changes cs ts) ≡ after_changes (changes_on e cs ts) (part_of e ts)
changes-part e [] ts a = refl
changes-part e (c ∷ cs) ts a = elim (cases (is_on e c ts)) [
  | inl on ↦
      changes-part e cs (after_change c ts) a.1
      ∙ ap (after_changes (changes_on e cs (after_change c ts))) (change-own e c ts on (a.0 on))
      ∙ sym (ap (λ xs. after_changes xs (part_of e ts)) (cond_true (is_on e c ts) (c ∷ changes_on e cs (after_change c ts)) (changes_on e cs (after_change c ts)) on))
  | inr off ↦
      changes-part e cs (after_change c ts) a.1
      ∙ ap (after_changes (changes_on e cs (after_change c ts))) (change-other e c ts off)
      ∙ sym (ap (λ xs. after_changes xs (part_of e ts)) (cond_false (is_on e c ts) (c ∷ changes_on e cs (after_change c ts)) (changes_on e cs (after_change c ts)) off))
]

-- The changes on an engine apply to its part, one after the other.
pub EachApplies-part : (e : List ℕ) (cs : List Change) (ts : List Table) → EachApplies e cs ts → EachApplies e (changes_on e cs ts) (part_of e ts)
EachApplies-part e [] ts a = tt
EachApplies-part e (c ∷ cs) ts a = elim (cases (is_on e c ts)) [
  | inl on ↦
      subst (λ xs. EachApplies e xs (part_of e ts)) (sym (cond_true (is_on e c ts) (c ∷ changes_on e cs (after_change c ts)) (changes_on e cs (after_change c ts)) on))
      (λ _. applies-part e c ts on (a.0 on), subst (EachApplies e (changes_on e cs (after_change c ts))) (change-own e c ts on (a.0 on)) (EachApplies-part e cs (after_change c ts) a.1))
  | inr off ↦
      subst (λ xs. EachApplies e xs (part_of e ts)) (sym (cond_false (is_on e c ts) (c ∷ changes_on e cs (after_change c ts)) (changes_on e cs (after_change c ts)) off))
      (subst (EachApplies e (changes_on e cs (after_change c ts))) (change-other e c ts off) (EachApplies-part e cs (after_change c ts) a.1))
]

changed-name : (c : Change) → (m : List ℕ) (t : Table) → is_named m t ≡ false → table_named m (changed c t) ≡ None
changed-name c m t h = cond_false (is_named m (with_rows t (rows_after c t))) (Some (with_rows t (rows_after c t))) None (named_with_rows m t (rows_after c t) ∙ h)
  where
    named_with_rows : (m : List ℕ) (t : Table) (o : Option (List (List Value))) → is_named m (with_rows t o) ≡ is_named m t
    named_with_rows m t None = refl
    named_with_rows m t (Some rows) = refl

find_none-append : (m : List ℕ) (xs ys : List Table) → table_named m xs ≡ None → table_named m (xs ++ ys) ≡ table_named m ys
find_none-append m xs ys h = find-append (is_named m) xs ys ∙ ap (λ o. option_or o (table_named m ys)) h

find_some-append : (m : List ℕ) (xs : List Table) (t : Table) → is_named m t ≡ false → table_named m (xs ++ t ∷ []) ≡ table_named m xs
find_some-append m [] t h = cond_false (is_named m t) (Some t) None h
find_some-append m (x ∷ xs) t h = ap (cond (is_named m x) (Some x)) (find_some-append m xs t h)

-- at another name all is as it was
at_table-elsewhere : (m n : List ℕ) (make : Table → List Table) → ((t : Table) → is_named m t ≡ false → table_named m (make t) ≡ None) → bytes_eq n m ≡ false
    → (ts : List Table) → table_named m (at_table n make ts) ≡ table_named m ts
at_table-elsewhere m n make keeps apart [] = refl
at_table-elsewhere m n make keeps apart (t ∷ ts) = elim (cases (is_named n t)) [
  | inl here ↦
      let not_m : is_named m t ≡ false = ap (λ x. bytes_eq x m) ((bytes_eq-Decides t.definition.table n).0 here) ∙ apart in
      ap (table_named m) (cond_true (is_named n t) (make t ++ ts) (t ∷ at_table n make ts) here)
      ∙ find_none-append m (make t) ts (keeps t not_m)
      ∙ sym (cond_false (is_named m t) (Some t) (table_named m ts) not_m)
  | inr past ↦
      ap (table_named m) (cond_false (is_named n t) (make t ++ ts) (t ∷ at_table n make ts) past)
      ∙ ap (cond (is_named m t) (Some t)) (at_table-elsewhere m n make keeps apart ts)
]

-- A change on a table of one name leaves the tables of all other names.
pub table_named-other : (m : List ℕ) (c : Change) (ts : List Table) → names_table m c ≡ false → table_named m (after_change c ts) ≡ table_named m ts
table_named-other m (Create n of s) ts h = created (is_some (table_named n ts))
  where
    created : (b : Bool) → table_named m (cond b ts (ts ++ new_table n of s ∷ [])) ≡ table_named m ts
    created true = refl
    created false = find_some-append m ts (new_table n of s) h
table_named-other m (Drop n) ts h = at_table-elsewhere m n (λ _. []) (λ t o. refl) h ts
table_named-other m (Insert map row) ts h = at_table-elsewhere m map.table (changed (Insert map row)) (changed-name (Insert map row) m) h ts
table_named-other m (Update map place before after) ts h = at_table-elsewhere m map.table (changed (Update map place before after)) (changed-name (Update map place before after) m) h ts
table_named-other m (Delete map place before) ts h = at_table-elsewhere m map.table (changed (Delete map place before)) (changed-name (Delete map place before) m) h ts
table_named-other m (Install n) ts h = refl
table_named-other m (Uninstall n) ts h = refl

-- no name twice

first_free : (m : List ℕ) (t : Table) (ts : List Table) → is_none (table_named m (t ∷ ts)) ≡ true → (is_named m t ≡ false) × (is_none (table_named m ts) ≡ true)
first_free m t ts h = elim (cases (is_named m t)) [
  | inl here ↦ absurd (no (sym (ap is_none (cond_true (is_named m t) (Some t) (table_named m ts) here)) ∙ h))
  | inr past ↦ (past, sym (ap is_none (cond_false (is_named m t) (Some t) (table_named m ts) past)) ∙ h)
]
  where
    no : false ≡ true → ⊥
    no q = cc

-- a free name stays free
free-at_table : (m n : List ℕ) (make : Table → List Table) → ((t : Table) → is_named m t ≡ false → table_named m (make t) ≡ None)
    → (ts : List Table) → is_none (table_named m ts) ≡ true → is_none (table_named m (at_table n make ts)) ≡ true
free-at_table m n make keeps [] h = h
free-at_table m n make keeps (t ∷ ts) h =
    let free = first_free m t ts h in
    elim (cases (is_named n t)) [
      | inl here ↦ ap (λ xs. is_none (table_named m xs)) (cond_true (is_named n t) (make t ++ ts) (t ∷ at_table n make ts) here) ∙ ap is_none (find_none-append m (make t) ts (keeps t free.0)) ∙ free.1
      | inr past ↦
          ap (λ xs. is_none (table_named m xs)) (cond_false (is_named n t) (make t ++ ts) (t ∷ at_table n make ts) past)
          ∙ ap is_none (cond_false (is_named m t) (Some t) (table_named m (at_table n make ts)) free.0)
          ∙ free-at_table m n make keeps ts free.1
    ]

dictionary-at_table : (n : List ℕ) (make : Table → List Table) → ((m : List ℕ) (t : Table) → is_named m t ≡ false → table_named m (make t) ≡ None)
    → ((t : Table) (ts : List Table) → IsDictionary (t ∷ ts) → IsDictionary (make t ++ ts))
    → (ts : List Table) → IsDictionary ts → IsDictionary (at_table n make ts)
dictionary-at_table n make keeps made [] d = d
dictionary-at_table n make keeps made (t ∷ ts) d = elim (cases (is_named n t)) [
  | inl here ↦ subst IsDictionary (sym (cond_true (is_named n t) (make t ++ ts) (t ∷ at_table n make ts) here)) (made t ts d)
  | inr past ↦ subst IsDictionary (sym (cond_false (is_named n t) (make t ++ ts) (t ∷ at_table n make ts) past))
      (free-at_table t.definition.table n make (keeps t.definition.table) ts d.0, dictionary-at_table n make keeps made ts d.1)
]

changed-dictionary : (c : Change) (t : Table) (ts : List Table) → IsDictionary (t ∷ ts) → IsDictionary (changed c t ++ ts)
changed-dictionary c t ts d = with_rows_dictionary (rows_after c t)
  where
    with_rows_dictionary : (o : Option (List (List Value))) → IsDictionary (with_rows t o ∷ ts)
    with_rows_dictionary None = d
    with_rows_dictionary (Some rows) = d

dictionary-push : (n of : List ℕ) (s : Schema) (ts : List Table) → IsDictionary ts → is_none (table_named n ts) ≡ true → IsDictionary (ts ++ new_table n of s ∷ [])
dictionary-push n of s [] d h = (refl, tt)
dictionary-push n of s (t ∷ ts) d h =
    let free = first_free n t ts h in
    let other : bytes_eq n t.definition.table ≡ false = apart n t.definition.table free.0 in
    (ap is_none (find_some-append t.definition.table ts (new_table n of s) other) ∙ d.0, dictionary-push n of s ts d.1 free.1)
  where
    apart : (a b : List ℕ) → bytes_eq b a ≡ false → bytes_eq a b ≡ false
    apart a b h = elim (cases (bytes_eq a b)) [
      | inl same ↦ absurd (no (sym (ap (λ x. bytes_eq b x) ((bytes_eq-Decides a b).0 same) ∙ (bytes_eq-Decides b b).1 refl) ∙ h))
      | inr other ↦ other
    ]
      where
        no : true ≡ false → ⊥
        no q = cc

-- A change keeps that no name stands twice.
pub IsDictionary-after_change : (c : Change) (ts : List Table) → IsDictionary ts → IsDictionary (after_change c ts)
IsDictionary-after_change (Create n of s) ts d = elim (cases (is_some (table_named n ts))) [
  | inl there ↦ subst IsDictionary (sym (cond_true (is_some (table_named n ts)) ts (ts ++ new_table n of s ∷ []) there)) d
  | inr free ↦ subst IsDictionary (sym (cond_false (is_some (table_named n ts)) ts (ts ++ new_table n of s ∷ []) free)) (dictionary-push n of s ts d (none_if (table_named n ts) free))
]
  where
    none_if : (o : Option Table) → is_some o ≡ false → is_none o ≡ true
    none_if None h = refl
    none_if (Some t) h = cc
IsDictionary-after_change (Drop n) ts d = dictionary-at_table n (λ _. []) (λ m t o. refl) (λ t xs e. e.1) ts d
IsDictionary-after_change (Insert map row) ts d = dictionary-at_table map.table (changed (Insert map row)) (changed-name (Insert map row)) (changed-dictionary (Insert map row)) ts d
IsDictionary-after_change (Update map place before after) ts d = dictionary-at_table map.table (changed (Update map place before after)) (changed-name (Update map place before after)) (changed-dictionary (Update map place before after)) ts d
IsDictionary-after_change (Delete map place before) ts d = dictionary-at_table map.table (changed (Delete map place before)) (changed-name (Delete map place before)) (changed-dictionary (Delete map place before)) ts d
IsDictionary-after_change (Install n) ts d = d
IsDictionary-after_change (Uninstall n) ts d = d
