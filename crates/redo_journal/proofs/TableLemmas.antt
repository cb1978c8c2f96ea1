-- The table of a name in an index, and what becomes of the tables.
use Rattle.std.proofs.Common.{◌≡◌, ◌+◌, add-one, ℕ, ◌<◌, ◌≤◌, zero, suc, List, [], ◌∷◌, ◌++◌, length, drop, get_or, Some, None, Bool, true, false, cond, refl, sym, ap, ◌∙◌, arith, inl, inr, subst, ltb, set}
use Rattle.std.specs.Prelude.{Option, IfSome, is_some, is_none, option_map, ◌&&◌}
use Rattle.std.specs.List.{slice_get, position, position_or_len, find, remove}
use Rattle.std.proofs.lemmas.Bool.{cond-true, cond-false, cases_Bool, ltb-false}
use Rattle.std.proofs.lemmas.Option.{slice_get_past}
use Rattle.std.proofs.lemmas.List.Folds.{find_at}
use Rattle.std.proofs.lemmas.List.Quantifiers.{position-Some}
use Rattle.sql_value.specs.declared.value.Value.{Value}
use Rattle.row_format.specs.declared.schema.Schema.{Schema}
use Rattle.log_tables.specs.declared.table.Definition.{Definition}
use Rattle.log_tables.specs.declared.table.Table.{Table}
use Rattle.log_tables.specs.Keys.{IsOrdered}
use Rattle.log_tables.specs.Tables.{is_named, table_named, at_table, new_table}
use Rattle.row_format.specs.declared.change.TableMap.{TableMap}
use Rattle.row_format.specs.declared.change.Change.{Change}
use Rattle.row_format.specs.declared.change.Change.TheVariants.{Create, Insert, Update, Delete}
use Rattle.std.specs.declared.vec.Vec.{Vec}
use Rattle.std.specs.declared.alloc.Global.{Global}
use Rattle.std.specs.declared.alloc.AllocError.{AllocError}
use Rattle.std.specs.declared.result.Result.{Result}
use Rattle.std.specs.declared.result.Result.TheVariants.{Ok, Err}
use Rattle.std.specs.Prelude.{IfOk}
use Rattle.redo_journal.specs.declared.record.Record.TheVariants.{SnapTable, SnapRow, SnapLast, Prepare, Commit, Rollback}
use Rattle.log_tables.specs.declared.gist.Prepared.{Prepared}
use Rattle.log_tables.specs.Changes.{with_rows, takes, applies, after_change, all_apply, after_changes}
use Rattle.redo_journal.specs.declared.record.Record.{Record}
use Rattle.redo_journal.specs.declared.place.Place.{Place}
use Rattle.redo_journal.specs.declared.index.Indexed.{Indexed}
use Rattle.redo_journal.proofs.IndexLemmas.{zip_append}
use Rattle.redo_journal.specs.Index.{change_of, definition_of, row_of, prepared_of, created, new_row, change_at, definition_at, row_at, prepared_at, AreRowsAt, is_defined, is_named_at, AreTablesAt, IsTableAt, suits_at, FindsTable, Edit, adding, replacing, removing, can_edit, edited, table_of, HasRows, Edits, Becomes}

-- the first that passes the test is at this place
abbrev IsFirst : {X : Type 0} → (X → Bool) → List X → ℕ → Type 0
IsFirst p [] i = ⊥
IsFirst p (x ∷ xs) zero = p x ≡ true
IsFirst p (x ∷ xs) (suc i) = (p x ≡ false) × IsFirst p xs i

first_from : {X : Type 0} (p : X → Bool) (xs : List X) (i : ℕ) (d : X) → i < length xs → p (get_or xs i d) ≡ true → ((k : ℕ) → k < i → p (get_or xs k d) ≡ false) → IsFirst p xs i
first_from p [] i d within here before = absurd (omega arith)
first_from p (x ∷ xs) zero d within here before = here
first_from p (x ∷ xs) (suc i) d within here before = (before 0 (omega arith), first_from p xs i d (omega arith) here (λ k h. before (suc k) (omega arith)))

first_found : {X : Type 0} (p : X → Bool) (xs : List X) (i : ℕ) → Some i ≡ position p xs → IsFirst p xs i
first_found p [] i is = absurd (no is)
  where
    no : Some i ≡ None → ⊥
    no e = cc
first_found p (x ∷ xs) i is = let facts = position-Some p (x ∷ xs) i x (sym is) in first_from p (x ∷ xs) i x facts.0 facts.1 facts.2

none_found : {X : Type 0} (p : X → Bool) (xs : List X) → None ≡ position p xs → find p xs ≡ None
none_found p xs is = find_at p xs ∙ slice_get_past xs (position_or_len p xs) (past (ltb (position_or_len p xs) (length xs)) refl is)
  where
    past : (b : Bool) → ltb (position_or_len p xs) (length xs) ≡ b → None ≡ cond b (Some (position_or_len p xs)) None → length xs ≤ position_or_len p xs
    past true e h = absurd (no h)
      where
        no : {n : ℕ} → None ≡ Some n → ⊥
        no q = cc
    past false e h = ltb-false (position_or_len p xs) (length xs) e

-- a table of an index has the name of the table that it is
same_name : (records : List Record) (name : List ℕ) (it : Indexed) (table : Table) → IsTableAt records it table → is_named_at records name it ≡ is_named name table
same_name records name it table is = ap (is_defined name) is.definition

find_first : {X : Type 0} (p : X → Bool) (x : X) (xs : List X) → find p (x ∷ xs) ≡ None → (p x ≡ false) × (find p xs ≡ None)
find_first p x xs none = elim (cases_Bool (p x)) [
  | inl here ↦ absurd (full (sym (cond-true (p x) (Some x) (find p xs) here) ∙ none))
  | inr other ↦ (other, sym (cond-false (p x) (Some x) (find p xs) other) ∙ none)
]
  where
    full : Some x ≡ None → ⊥
    full q = cc

none_named : (records : List Record) (name : List ℕ) (its : List Indexed) (tables : List Table) → AreTablesAt records its tables → find (is_named_at records name) its ≡ None → table_named name tables ≡ None
none_named records name [] [] are none = refl
none_named records name [] (t ∷ ts) are none = absurd are
none_named records name (x ∷ xs) [] are none = absurd are
none_named records name (x ∷ xs) (t ∷ ts) are none =
    let first = find_first (is_named_at records name) x xs none in
    cond-false (is_named name t) (Some t) (table_named name ts) (sym (same_name records name x t are.0) ∙ first.0) ∙ none_named records name xs ts are.1 first.1

-- Where no table of an index has a name, none of the tables has.
pub no_table : (records : List Record) (name : List ℕ) (its : List Indexed) (tables : List Table) → AreTablesAt records its tables → None ≡ position (is_named_at records name) its → table_named name tables ≡ None
no_table records name its tables are is = none_named records name its tables are (none_found (is_named_at records name) its is)

-- the table of a name, where it stands in the index, and what becomes of the tables where another is put in its place
pub record HasTable (records : List Record) (name : List ℕ) (its : List Indexed) (tables : List Table) (i : ℕ) : Type 0 where
  pub table : Table
  pub named : table_named name tables ≡ Some table
  pub at : (d : Indexed) → IsTableAt records (get_or its i d) table
  pub replaced : (it : Indexed) (other : Table) (make : Table → List Table) → IsTableAt records it other → make table ≡ other ∷ [] → AreTablesAt records (set its i it) (at_table name make tables)
  pub dropped : AreTablesAt records (remove its i) (at_table name (λ _. []) tables)

table_first : (records : List Record) (name : List ℕ) (its : List Indexed) (tables : List Table) (i : ℕ) → AreTablesAt records its tables → IsFirst (is_named_at records name) its i → HasTable records name its tables i
table_first records name [] tables i are first = absurd first
table_first records name (x ∷ xs) [] i are first = absurd are
table_first records name (x ∷ xs) (t ∷ ts) zero are first =
    let here = sym (same_name records name x t are.0) ∙ first in
    record {
      table = t;
      named = cond-true (is_named name t) (Some t) (table_named name ts) here;
      at = λ d. are.0;
      replaced = λ it other make is made.
          subst (AreTablesAt records (it ∷ xs)) (sym (cond-true (is_named name t) (make t ++ ts) (t ∷ at_table name make ts) here ∙ ap (λ (l : List Table). l ++ ts) made)) (is, are.1);
      dropped = subst (AreTablesAt records xs) (sym (cond-true (is_named name t) ts (t ∷ at_table name (λ _. []) ts) here)) are.1;
    }
table_first records name (x ∷ xs) (t ∷ ts) (suc i) are first =
    let other_name = sym (same_name records name x t are.0) ∙ first.0 in
    let rest = table_first records name xs ts i are.1 first.1 in
    record {
      table = rest.table;
      named = cond-false (is_named name t) (Some t) (table_named name ts) other_name ∙ rest.named;
      at = rest.at;
      replaced = λ it other make is made.
          subst (AreTablesAt records (x ∷ set xs i it)) (sym (cond-false (is_named name t) (make t ++ ts) (t ∷ at_table name make ts) other_name)) (are.0, rest.replaced it other make is made);
      dropped = subst (AreTablesAt records (x ∷ remove xs i)) (sym (cond-false (is_named name t) ts (t ∷ at_table name (λ _. []) ts) other_name)) (are.0, rest.dropped);
    }

-- The table of a name, where it was found.
pub has_table : (records : List Record) (name : List ℕ) (its : List Indexed) (tables : List Table) (i : ℕ) → AreTablesAt records its tables → Some i ≡ position (is_named_at records name) its → HasTable records name its tables i
has_table records name its tables i are is = table_first records name its tables i are (first_found (is_named_at records name) its i is)

pub never : {P : Type 0} → false ≡ true → P
never h = absurd (no h)
  where
    no : false ≡ true → ⊥
    no q = cc

-- no table has this name: no rows of it can be edited
pub finds_none : (records : List Record) (name : List ℕ) (schema : Option Schema) (its slice : List Indexed) → slice ≡ its → None ≡ position (is_named_at records name) slice → FindsTable records name schema its None
finds_none records name schema its slice same none = λ tables are edit. ap (can_edit schema edit) (no_table records name its tables are (none ∙ ap (position (is_named_at records name)) same))

-- the table of this name has another schema
pub finds_other : (records : List Record) (name : List ℕ) (schema : Option Schema) (its slice : List Indexed) (i : ℕ) (it : Indexed) → slice ≡ its → Some i ≡ position (is_named_at records name) slice
    → it ≡ get_or its i it → suits_at schema (definition_at records it.definition) ≡ false → FindsTable records name schema its None
finds_other records name schema its slice i it same is at other = λ tables are edit.
    let has = has_table records name its tables i are (is ∙ ap (position (is_named_at records name)) same) in
    let here : IsTableAt records it has.table = subst (λ x. IsTableAt records x has.table) (sym at) (has.at it) in
    ap (can_edit schema edit) has.named ∙ ap is_some (cond-false (suits_at schema (Some has.table.definition)) (edit has.table) None (ap (suits_at schema) (sym here.definition) ∙ other))

-- the table of this name suits
pub finds_table : (records : List Record) (name : List ℕ) (schema : Option Schema) (its slice : List Indexed) (i : ℕ) (it : Indexed) → slice ≡ its → Some i ≡ position (is_named_at records name) slice
    → it ≡ get_or its i it → suits_at schema (definition_at records it.definition) ≡ true → FindsTable records name schema its (Some i)
finds_table records name schema its slice i it same is at suits = (
  sym (is ∙ ap (position (is_named_at records name)) same),
  λ tables are.
      let has = has_table records name its tables i are (is ∙ ap (position (is_named_at records name)) same) in
      let here : IsTableAt records it has.table = subst (λ x. IsTableAt records x has.table) (sym at) (has.at it) in
      subst (λ (o : Option Table). IfSome o (λ t. suits_at schema (Some t.definition) ≡ true)) (sym has.named) (ap (suits_at schema) (sym here.definition) ∙ suits),
)

-- where no table was found, the answer is no
pub edits_none : (records : List Record) (name : List ℕ) (schema : Option Schema) (edit : Edit) (its new : List Indexed) (tables : List Table) → FindsTable records name schema its None → AreTablesAt records its tables
    → Edits schema edit name tables records new false
edits_none records name schema edit its new tables none are = (sym (none tables are edit), never)

-- the rows of the table that was found are edited where they can be
edits_table : (records : List Record) (name : List ℕ) (schema : Option Schema) (edit : Edit) (its : List Indexed) (tables : List Table) (i : ℕ) (it : Indexed) (b : Bool) (has : HasTable records name its tables i)
    → suits_at schema (Some has.table.definition) ≡ true → HasRows b records it (edit has.table) has.table → Edits schema edit name tables records (set its i it) b
edits_table records name schema edit its tables i it false has suits rows =
    (sym (ap (can_edit schema edit) has.named ∙ ap is_some (cond-true (suits_at schema (Some has.table.definition)) (edit has.table) None suits ∙ rows)), never)
edits_table records name schema edit its tables i it true has suits rows =
    let made = cond-true (suits_at schema (Some has.table.definition)) (edit has.table) None suits ∙ rows.1 in
    (sym (ap (can_edit schema edit) has.named ∙ ap is_some made), λ yes_it. has.replaced it (table_of has.table rows.0) (edited schema edit) rows.2 (ap (λ o. with_rows has.table o ∷ []) made))

-- the rows of the table that was found, edited
pub edits_found : (records : List Record) (name : List ℕ) (schema : Option Schema) (edit : Edit) (its : List Indexed) (tables : List Table) (i : ℕ) (it it' : Indexed) (b : Bool)
    → FindsTable records name schema its (Some i) → AreTablesAt records its tables → it ≡ get_or its i it → ((table : Table) → IsTableAt records it table → HasRows b records it' (edit table) table)
    → Edits schema edit name tables records (set its i it') b
edits_found records name schema edit its tables i it it' b found are at rows =
    let has = has_table records name its tables i are (sym found.0) in
    let here : IsTableAt records it has.table = subst (λ x. IsTableAt records x has.table) (sym at) (has.at it) in
    edits_table records name schema edit its tables i it' b has (subst (λ (o : Option Table). IfSome o (λ t. suits_at schema (Some t.definition) ≡ true)) has.named (found.1 tables are)) (rows has.table here)

-- the same, where memory may run out
pub edits_found_or : (records : List Record) (name : List ℕ) (schema : Option Schema) (edit : Edit) (its : List Indexed) (tables : List Table) (i : ℕ) (it it' : Indexed) (result : Result Bool AllocError)
    → FindsTable records name schema its (Some i) → AreTablesAt records its tables → it ≡ get_or its i it
    → ((table : Table) → IsTableAt records it table → IfOk result (λ b. HasRows b records it' (edit table) table)) → IfOk result (Edits schema edit name tables records (set its i it'))
edits_found_or records name schema edit its tables i it it' (Ok b) found are at rows = edits_found records name schema edit its tables i it it' b found are at rows
edits_found_or records name schema edit its tables i it it' (Err e) found are at rows = tt

-- no table of this name is dropped
pub drops_none : (P : Type 0) (records : List Record) (name : List ℕ) (its slice : List Indexed) (tables : List Table) → AreTablesAt records its tables → slice ≡ its → None ≡ position (is_named_at records name) slice
    → Becomes (is_some (table_named name tables)) P false
drops_none P records name its slice tables are same none = (sym (ap is_some (no_table records name its tables are (none ∙ ap (position (is_named_at records name)) same))), never)

-- the table of this name is dropped
pub drops_found : (records : List Record) (name : List ℕ) (its slice new : List Indexed) (tables : List Table) (i : ℕ) → AreTablesAt records its tables → slice ≡ its
    → Some i ≡ position (is_named_at records name) slice → new ≡ remove its i → Becomes (is_some (table_named name tables)) (AreTablesAt records new (at_table name (λ _. []) tables)) true
drops_found records name its slice new tables i are same is removed =
    let has = has_table records name its tables i are (is ∙ ap (position (is_named_at records name)) same) in
    (sym (ap is_some has.named), λ yes_it. subst (λ (l : List Indexed). AreTablesAt records l (at_table name (λ _. []) tables)) (sym removed) has.dropped)

-- the schema of a table of an index
pub schema_found : (records : List Record) (name : List ℕ) (its : List Indexed) (tables : List Table) (i : ℕ) (it : Indexed) → HasTable records name its tables i → it ≡ get_or its i it
    → option_map (λ (d : Definition). d.schema) (definition_at records it.definition) ≡ option_map (λ (t : Table). t.definition.schema) (table_named name tables)
schema_found records name its tables i it has is =
    let here : IsTableAt records it has.table = subst (λ x. IsTableAt records x has.table) (sym is) (has.at it) in
    ap (option_map (λ (d : Definition). d.schema)) here.definition ∙ sym (ap (option_map (λ (t : Table). t.definition.schema)) has.named)

-- some of the changes were made
pub record Reached (records : List Record) (its : List Indexed) (changes : List Change) (count made : ℕ) (tables : List Table) : Type 0 where
  pub all : count ≡ length changes
  pub now : List Table
  pub stand : AreTablesAt records its now
  pub possible : all_apply changes tables ≡ all_apply (drop made changes) now
  pub after : after_changes changes tables ≡ after_changes (drop made changes) now

taken_when : (records : List Record) (name : List ℕ) (its : List Indexed) (tables : List Table) (o : Option ℕ) → AreTablesAt records its tables → o ≡ position (is_named_at records name) its → is_none (table_named name tables) ≡ is_none o
taken_when records name its tables None are is = ap is_none (no_table records name its tables are is)
taken_when records name its tables (Some i) are is = let has = has_table records name its tables i are is in ap is_none has.named

name_found : (name : List ℕ) (it : Definition) (o : Option Definition) → Some name ≡ option_map (λ (d : Definition). d.table) o → o ≡ Some it → name ≡ it.table
name_found name it o found is = cc (found ∙ ap (option_map (λ (d : Definition). d.table)) is)

-- whether the name of a new table is free
pub name_free : (records : List Record) (name : List ℕ) (its slice : List Indexed) (tables : List Table) (place : Place) (it : Definition) (o : Option ℕ) → AreTablesAt records its tables → slice ≡ its
    → Some name ≡ option_map (λ (d : Definition). d.table) (definition_at records place) → definition_at records place ≡ Some it → o ≡ position (is_named_at records name) slice → is_none (table_named it.table tables) ≡ is_none o
name_free records name its slice tables place it o are same named is found =
    ap (λ (n : List ℕ). is_none (table_named n tables)) (sym (name_found name it (definition_at records place) named is))
    ∙ taken_when records name its tables o are (found ∙ ap (position (is_named_at records name)) same)

-- a taken name
pub name_taken : (P : Type 0) (possible : Bool) (o : Option ℕ) → possible ≡ is_none o → true ≡ is_some o → Becomes possible P false
name_taken P possible None is some = cc
name_taken P possible (Some i) is some = (sym is, never)

pub name_new : (possible : Bool) (o : Option ℕ) → possible ≡ is_none o → false ≡ is_some o → true ≡ possible
name_new possible None is none = sym is
name_new possible (Some i) is none = cc

ordered_none : (key : Option ℕ) → IsOrdered key []
ordered_none None = tt
ordered_none (Some column) = tt

-- a new table stands in the index
pub table_created : (records : List Record) (its new : List Indexed) (tables : List Table) (place : Place) (rows : Vec Place Global) (it : Definition) → AreTablesAt records its tables → definition_at records place ≡ Some it
    → rows.items ≡ [] → new ≡ its ++ record { definition = place; rows = rows } ∷ [] → AreTablesAt records new (tables ++ record { definition = it; rows = [] } ∷ [])
table_created records its new tables place rows it are at empty is =
    let there : IsTableAt records (record { definition = place; rows = rows }) (record { definition = it; rows = [] }) =
    record { definition = at; rows = subst (λ (l : List Place). AreRowsAt records l []) (sym empty) tt; ordered = ordered_none it.schema.key } in
    subst (λ (l : List Indexed). AreTablesAt records l (tables ++ record { definition = it; rows = [] } ∷ [])) (sym is)
    (zip_append (IsTableAt records) its tables (record { definition = place; rows = rows } ∷ []) (record { definition = it; rows = [] } ∷ []) are (there, tt))

-- what was possible gives something else
pub becomes : (result : Result Bool AllocError) (possible other : Bool) (P Q : Type 0) → possible ≡ other → (possible ≡ true → P → Q) → IfOk result (Becomes possible P) → IfOk result (Becomes other Q)
becomes (Ok b) possible other P Q same more is = (is.0 ∙ same, λ b_true. more (sym is.0 ∙ b_true) (is.1 b_true))
becomes (Err e) possible other P Q same more is = tt

definition_made : (o : Option Record) (change : ℕ) (table engine : List ℕ) (schema : Schema) → change_of o change ≡ Some (Create table engine schema) → definition_of o change ≡ Some (record { table = table; engine = engine; schema = schema })
definition_made None change table engine schema is = cc
definition_made (Some (SnapTable it)) change table engine schema is = cc
definition_made (Some (SnapRow t row)) change table engine schema is = cc
definition_made (Some (SnapLast number)) change table engine schema is = cc
definition_made (Some (Prepare it)) change table engine schema is = ap created is
definition_made (Some (Commit xid number)) change table engine schema is = cc
definition_made (Some (Rollback xid)) change table engine schema is = cc

-- a Create has its definition at its place
pub definition_of_create : (records : List Record) (place : Place) (table engine : List ℕ) (schema : Schema) → change_at records place ≡ Some (Create table engine schema)
    → definition_at records place ≡ Some (record { table = table; engine = engine; schema = schema })
definition_of_create records place table engine schema is = definition_made (slice_get records place.number) place.change table engine schema is

row_made : (o : Option Record) (change : ℕ) (map : TableMap) (row : List Value) → change_of o change ≡ Some (Insert map row) → row_of o change ≡ Some row
row_made None change map row is = cc
row_made (Some (SnapTable it)) change map row is = cc
row_made (Some (SnapRow t other)) change map row is = cc
row_made (Some (SnapLast number)) change map row is = cc
row_made (Some (Prepare it)) change map row is = ap new_row is
row_made (Some (Commit xid number)) change map row is = cc
row_made (Some (Rollback xid)) change map row is = cc

-- an Insert has its row at its place
pub row_of_insert : (records : List Record) (place : Place) (map : TableMap) (row : List Value) → change_at records place ≡ Some (Insert map row) → row_at records place ≡ Some row
row_of_insert records place map row is = row_made (slice_get records place.number) place.change map row is

change_made : (o : Option Record) (change : ℕ) (it : Prepared) → prepared_of o ≡ Some it → change_of o change ≡ slice_get it.changes change
change_made None change it is = cc
change_made (Some (SnapTable x)) change it is = cc
change_made (Some (SnapRow t row)) change it is = cc
change_made (Some (SnapLast number)) change it is = cc
change_made (Some (Prepare x)) change it is = ap (λ (p : Prepared). slice_get p.changes change) (some_same x it is)
  where
    some_same : (x y : Prepared) → Some x ≡ Some y → x ≡ y
    some_same x y e = cc
change_made (Some (Commit xid number)) change it is = cc
change_made (Some (Rollback xid)) change it is = cc

-- the changes of a Prepare stand at its places
pub change_of_prepared : (records : List Record) (number change : ℕ) (it : Prepared) → prepared_at records number ≡ Some it → change_at records (record { number = number; change = change }) ≡ slice_get it.changes change
change_of_prepared records number change it is = change_made (slice_get records number) change it is

row_updated : (o : Option Record) (change : ℕ) (map : TableMap) (at : ℕ) (before after : List Value) → change_of o change ≡ Some (Update map at before after) → row_of o change ≡ Some after
row_updated None change map at before after is = cc
row_updated (Some (SnapTable it)) change map at before after is = cc
row_updated (Some (SnapRow t other)) change map at before after is = cc
row_updated (Some (SnapLast number)) change map at before after is = cc
row_updated (Some (Prepare it)) change map at before after is = ap new_row is
row_updated (Some (Commit xid number)) change map at before after is = cc
row_updated (Some (Rollback xid)) change map at before after is = cc

-- an Update has the row after it at its place
pub row_of_update : (records : List Record) (place : Place) (map : TableMap) (at : ℕ) (before after : List Value) → change_at records place ≡ Some (Update map at before after) → row_at records place ≡ Some after
row_of_update records place map at before after is = row_updated (slice_get records place.number) place.change map at before after is

-- what a change answers that applies to tables, where it was made
abbrev pub Makes : List Record → List Indexed → List Table → Change → Bool → Type 0
Makes records new tables it answer = Becomes (applies it tables) (AreTablesAt records new (after_change it tables)) answer

-- the change that was read at a place was made
pub applies_made : (records : List Record) (place : Place) (result : Result Bool AllocError) (new : List Indexed) (tables : List Table) (it made : Change) → Some made ≡ change_at records place
    → change_at records place ≡ Some it → IfOk result (Makes records new tables made) → IfOk result (Makes records new tables it)
applies_made records place result new tables it made found at done = subst (λ (c : Change). IfOk result (Makes records new tables c)) (some_same made it (found ∙ at)) done
  where
    some_same : (x y : Change) → Some x ≡ Some y → x ≡ y
    some_same x y e = cc

-- a Create that was made
pub applies_create : (records : List Record) (place : Place) (result : Result Bool AllocError) (new : List Indexed) (tables : List Table) (table engine : List ℕ) (schema : Schema)
    → Some (Create table engine schema) ≡ change_at records place
    → ((d : Definition) → definition_at records place ≡ Some d → IfOk result (Becomes (is_none (table_named d.table tables)) (AreTablesAt records new (tables ++ record { definition = d; rows = [] } ∷ []))))
    → IfOk result (Makes records new tables (Create table engine schema))
applies_create records place result new tables table engine schema found done =
    let d : Definition = record { table = table; engine = engine; schema = schema } in
    let free : Option Table = table_named table tables in
    becomes result (is_none free) (is_none free) (AreTablesAt records new (tables ++ record { definition = d; rows = [] } ∷ [])) (AreTablesAt records new (after_change (Create table engine schema) tables)) refl
    (λ none stand. subst (AreTablesAt records new) (sym (cond-false (is_some free) tables (tables ++ new_table table engine schema ∷ []) (not_some free none))) stand)
    (done d (definition_of_create records place table engine schema (sym found)))
  where
    not_some : (o : Option Table) → is_none o ≡ true → is_some o ≡ false
    not_some None h = refl
    not_some (Some t) h = cc

-- a change of rows takes what was found where its edit can be made
insert_takes : (map : TableMap) (row : List Value) (o : Option Table) → can_edit (Some map.schema) (adding row) o ≡ takes (Insert map row) o
insert_takes map row None = refl
insert_takes map row (Some table) = refl

update_takes : (map : TableMap) (at : ℕ) (before after : List Value) (o : Option Table) → can_edit (Some map.schema) (replacing at before after) o ≡ takes (Update map at before after) o
update_takes map at before after None = refl
update_takes map at before after (Some table) = refl

delete_takes : (map : TableMap) (at : ℕ) (before : List Value) (o : Option Table) → can_edit (Some map.schema) (removing at before) o ≡ takes (Delete map at before) o
delete_takes map at before None = refl
delete_takes map at before (Some table) = refl

-- an Insert that was made
pub applies_insert : (records : List Record) (place : Place) (result : Result Bool AllocError) (new : List Indexed) (tables : List Table) (map : TableMap) (row : List Value)
    → Some (Insert map row) ≡ change_at records place
    → ((it : List Value) → row_at records place ≡ Some it → IfOk result (Edits (Some map.schema) (adding it) map.table tables records new)) → IfOk result (Makes records new tables (Insert map row))
applies_insert records place result new tables map row found done =
    let found_as : Option Table = table_named map.table tables in
    becomes result (can_edit (Some map.schema) (adding row) found_as) (takes (Insert map row) found_as) (AreTablesAt records new (at_table map.table (edited (Some map.schema) (adding row)) tables)) (AreTablesAt records new (after_change (Insert map row) tables))
    (insert_takes map row found_as) (λ possible stand. stand) (done row (row_of_insert records place map row (sym found)))

-- an Update that was made
pub applies_update : (records : List Record) (place : Place) (result : Result Bool AllocError) (new : List Indexed) (tables : List Table) (map : TableMap) (at : ℕ) (before after : List Value)
    → Some (Update map at before after) ≡ change_at records place
    → ((it : List Value) → row_at records place ≡ Some it → IfOk result (Edits (Some map.schema) (replacing at before it) map.table tables records new))
    → IfOk result (Makes records new tables (Update map at before after))
applies_update records place result new tables map at before after found done =
    let found_as : Option Table = table_named map.table tables in
    becomes result (can_edit (Some map.schema) (replacing at before after) found_as) (takes (Update map at before after) found_as)
    (AreTablesAt records new (at_table map.table (edited (Some map.schema) (replacing at before after)) tables)) (AreTablesAt records new (after_change (Update map at before after) tables))
    (update_takes map at before after found_as) (λ possible stand. stand) (done after (row_of_update records place map at before after (sym found)))

-- a Delete that was made
pub applies_delete : (records : List Record) (result : Bool) (new : List Indexed) (tables : List Table) (map : TableMap) (at : ℕ) (before : List Value)
    → Edits (Some map.schema) (removing at before) map.table tables records new result → Makes records new tables (Delete map at before) result
applies_delete records result new tables map at before done =
    let found_as : Option Table = table_named map.table tables in
    becomes (Ok result) (can_edit (Some map.schema) (removing at before) found_as) (takes (Delete map at before) found_as) (AreTablesAt records new (at_table map.table (edited (Some map.schema) (removing at before)) tables))
    (AreTablesAt records new (after_change (Delete map at before) tables)) (delete_takes map at before found_as) (λ possible stand. stand) done

drop_get : {X : Type 0} (xs : List X) (k : ℕ) → k < length xs → (x : X) × (slice_get xs k ≡ Some x) × (drop k xs ≡ x ∷ drop (suc k) xs)
drop_get [] k within = absurd (omega arith)
drop_get (x ∷ xs) zero within = (x, refl, refl)
drop_get (x ∷ xs) (suc k) within = drop_get xs k (omega arith)

drop_past : {X : Type 0} (xs : List X) (k : ℕ) → length xs ≤ k → drop k xs ≡ []
drop_past [] zero past = refl
drop_past [] (suc k) past = refl
drop_past (x ∷ xs) zero past = absurd (omega arith)
drop_past (x ∷ xs) (suc k) past = drop_past xs k (omega arith)

-- at first no change was made
pub reached_none : (records : List Record) (its : List Indexed) (tables : List Table) (number : ℕ) (same it : Prepared) (slice : List Change) → AreTablesAt records its tables → Some same ≡ prepared_at records number
    → prepared_at records number ≡ Some it → slice ≡ same.changes → Reached records its it.changes (length slice) 0 tables
reached_none records its tables number same it slice are found at is =
    record { all = ap length (is ∙ ap (λ (p : Prepared). p.changes) (some_same same it (found ∙ at))); now = tables; stand = are; possible = refl; after = refl }
  where
    some_same : (x y : Prepared) → Some x ≡ Some y → x ≡ y
    some_same x y e = cc

-- one change more was made
pub reached_more : (records : List Record) (its new : List Indexed) (changes : List Change) (count made : ℕ) (tables : List Table) (b : Bool) → Reached records its changes count made tables → made < count → b ≡ true
    → ((now : List Table) (it : Change) → AreTablesAt records its now → slice_get changes made ≡ Some it → Becomes (applies it now) (AreTablesAt records new (after_change it now)) b) → Reached records new changes count (made + 1) tables
reached_more records its new changes count made tables b done within did step =
    let next = drop_get changes made (omega (arith, done.all)) in
    let here = step done.now next.0 done.stand next.1 in
    let applied : applies next.0 done.now ≡ true = sym here.0 ∙ did in
    let rest = drop (suc made) changes in
    subst (λ (k : ℕ). Reached records new changes count k tables) (sym (add-one made)) (record {
      all = done.all;
      now = after_change next.0 done.now;
      stand = here.1 did;
      possible = done.possible ∙ ap (λ (l : List Change). all_apply l done.now) next.2 ∙ ap (λ (x : Bool). x && all_apply rest (after_change next.0 done.now)) applied;
      after = done.after ∙ ap (λ (l : List Change). after_changes l done.now) next.2;
    })

-- the next change does not apply
pub reached_fails : (P : Type 0) (records : List Record) (its new : List Indexed) (changes : List Change) (count made : ℕ) (tables : List Table) (b : Bool) → Reached records its changes count made tables → made < count → b ≡ false
    → ((now : List Table) (it : Change) → AreTablesAt records its now → slice_get changes made ≡ Some it → Becomes (applies it now) (AreTablesAt records new (after_change it now)) b) → Becomes (all_apply changes tables) P false
reached_fails P records its new changes count made tables b done within fails step =
    let next = drop_get changes made (omega (arith, done.all)) in
    let here = step done.now next.0 done.stand next.1 in
    let rest = drop (suc made) changes in
    let none : applies next.0 done.now ≡ false = sym here.0 ∙ fails in
    (sym (done.possible ∙ ap (λ (l : List Change). all_apply l done.now) next.2 ∙ ap (λ (x : Bool). x && all_apply rest (after_change next.0 done.now)) none), never)

-- all changes were made
pub reached_all : (records : List Record) (its : List Indexed) (changes : List Change) (count made : ℕ) (tables : List Table) → Reached records its changes count made tables → count ≤ made
    → Becomes (all_apply changes tables) (AreTablesAt records its (after_changes changes tables)) true
reached_all records its changes count made tables done past =
    let none = drop_past changes made (omega (arith, done.all)) in
    (sym (done.possible ∙ ap (λ (l : List Change). all_apply l done.now) none), λ yes_all. subst (AreTablesAt records its) (sym (done.after ∙ ap (λ (l : List Change). after_changes l done.now) none)) done.stand)
