-- The row that a change takes out of a table, and what the index has without it or with another in its place.
use Rattle.std.proofs.Common.{◌≡◌, ℕ, ◌<◌, zero, suc, List, [], ◌∷◌, length, get_or, set, Some, None, Bool, true, false, refl, sym, ap, subst, ◌∙◌, arith}
use Rattle.std.specs.Prelude.{Option, option_and_then, Result, Ok, Err, IfOk, nat_eq, unwrap_or}
use Rattle.std.specs.List.{AllZip, slice_get, insert, remove}
use Rattle.std.specs.Ordering.{ordering_index, is_eq}
use Rattle.std.specs.declared.cmp.Ordering.{Ordering}
use Rattle.std.specs.declared.cmp.Ordering.TheVariants.{Less, Equal, Greater}
use Rattle.std.specs.declared.vec.Vec.{Vec}
use Rattle.std.specs.declared.alloc.Global.{Global}
use Rattle.std.specs.declared.alloc.AllocError.{AllocError}
use Rattle.std.proofs.lemmas.Bool.{cond-true, cond-false}
use Rattle.std.proofs.lemmas.Option.{slice_get-get_or}
use Rattle.sql_value.specs.declared.value.Value.{Value}
use Rattle.sql_value.specs.declared.value.Value.TheVariants.{Null}
use Rattle.sql_value.specs.Values.{value_cmp, same_value}
use Rattle.sql_value.proofs.SameLemmas.{same_value-true, same_value_refl, same_value-is_eq}
use Rattle.row_format.proofs.SameLemmas.{same_row-true}
use Rattle.log_tables.specs.declared.table.Table.{Table}
use Rattle.log_tables.specs.Keys.{key_in, has_key, row_with, is_row, inserted, updated, deleted, IsInKeyOrder, IsPlaceFor, IsOrdered}
use Rattle.log_tables.proofs.OrderLemmas.{IsOrdered-deleted, IsOrdered-updated}
use Rattle.log_tables.proofs.PlaceLemmas.{rises, place-free, inserted-place, row_with-at, without_key-at}
use Rattle.log_tables.proofs.KeyLemmas.{deleted-not_there, deleted-there}
use Rattle.redo_journal.specs.declared.record.Record.{Record}
use Rattle.redo_journal.specs.declared.place.Place.{Place}
use Rattle.redo_journal.specs.declared.index.Indexed.{Indexed}
use Rattle.redo_journal.specs.Index.{row_at, key_at, IsRowAt, AreRowsAt, IsTableAt, Finds, IsRowFound, HasRows, table_of, adding, replacing, removing}
use Rattle.redo_journal.proofs.IndexLemmas.{zip_append, zip_cut, in_order, found_here, key_of_row}

-- The row at the place with this number is that of the table.
pub row_of_place : (records : List Record) (places : List Place) (rows : List (List Value)) (i : ℕ) → AreRowsAt records places rows → option_and_then (row_at records) (slice_get places i) ≡ slice_get rows i
row_of_place records [] [] i are = refl
row_of_place records [] (r ∷ rs) i are = absurd are
row_of_place records (p ∷ ps) [] i are = absurd are
row_of_place records (p ∷ ps) (r ∷ rs) zero are = are.0
row_of_place records (p ∷ ps) (r ∷ rs) (suc i) are = row_of_place records ps rs i are.1

-- where a row is found, there is one
pub found_within : (rows : List (List Value)) (i : ℕ) (before : List Value) → is_row (slice_get rows i) before ≡ true → i < length rows
found_within [] i before same = cc
found_within (r ∷ rs) zero before same = omega arith
found_within (r ∷ rs) (suc i) before same = let rest = found_within rs i before same in omega arith

-- and a place
place_within : (records : List Record) (places : List Place) (i : ℕ) (before : List Value) → is_row (option_and_then (row_at records) (slice_get places i)) before ≡ true → i < length places
place_within records [] i before same = cc
place_within records (p ∷ ps) zero before same = omega arith
place_within records (p ∷ ps) (suc i) before same = let rest = place_within records ps i before same in omega arith

-- a row that was found at a place of the index is within it
pub index_within : (records : List Record) (it : Indexed) (slice : List Place) (i : ℕ) (before : List Value) → slice ≡ it.rows.items → true ≡ is_row (option_and_then (row_at records) (slice_get slice i)) before
    → i < length it.rows.items
index_within records it slice i before same answer = let inside = place_within records slice i before (sym answer) in omega (arith, inside, ap length same)

-- whether the row at a place of the index is this one
row_here : (records : List Record) (it : Indexed) (slice : List Place) (table : Table) (i : ℕ) (before : List Value) (b : Bool) → IsTableAt records it table → slice ≡ it.rows.items
    → b ≡ is_row (option_and_then (row_at records) (slice_get slice i)) before → is_row (slice_get table.rows i) before ≡ b
row_here records it slice table i before b is same answer =
    ap (λ (o : Option (List Value)). is_row o before) (sym (row_of_place records slice table.rows i (subst (λ (l : List Place). AreRowsAt records l table.rows) (sym same) is.rows))) ∙ sym answer

-- no row has the key of the one that is looked for
pub keyed_missing : (records : List Record) (it : Indexed) (column at : ℕ) (before : List Value) (slice : List Place) (i : ℕ) (table : Table) → IsTableAt records it table → table.definition.schema.key ≡ Some column
    → slice ≡ it.rows.items → ((all : List (List Value)) → AreRowsAt records slice all → IsInKeyOrder column all → Finds column (key_in column before) all (Err i))
    → deleted (Some column) at before table.rows ≡ None
keyed_missing records it column at before slice i table is key same found =
    let free = place-free column (key_in column before) table.rows i (in_order records it table column is key) (found_here records it column (key_in column before) slice table (Err i) is key same found) in
    deleted-not_there column at before table.rows (ap (λ (o : Option (List Value)). is_row o before) free)

-- the row with this key, as it stands at its place
keyed_row : (column : ℕ) (key : Value) (rows : List (List Value)) (i : ℕ) → IsInKeyOrder column rows → i < length rows → has_key column key (get_or rows i []) ≡ true → row_with column key rows ≡ slice_get rows i
keyed_row column key rows i ordered within own = row_with-at column key rows i [] ordered within own ∙ sym (slice_get-get_or rows i [] within)

-- another row has the key of the one that is looked for
pub keyed_other : (records : List Record) (it : Indexed) (column at : ℕ) (before : List Value) (slice : List Place) (again : List Place) (i : ℕ) (table : Table) → IsTableAt records it table
    → table.definition.schema.key ≡ Some column → slice ≡ it.rows.items → ((all : List (List Value)) → AreRowsAt records slice all → IsInKeyOrder column all → Finds column (key_in column before) all (Ok i))
    → again ≡ it.rows.items → false ≡ is_row (option_and_then (row_at records) (slice_get again i)) before → deleted (Some column) at before table.rows ≡ None
keyed_other records it column at before slice again i table is key same found same_again answer =
    let here = found_here records it column (key_in column before) slice table (Ok i) is key same found in
    let at_key = keyed_row column (key_in column before) table.rows i (in_order records it table column is key) here.0 here.1 in
    deleted-not_there column at before table.rows (ap (λ (o : Option (List Value)). is_row o before) at_key ∙ row_here records it again table i before false is same_again answer)

-- the row that is looked for stands at the place of its key
pub keyed_known : (records : List Record) (it : Indexed) (column at : ℕ) (before : List Value) (again : List Place) (i : ℕ) (table : Table) → IsTableAt records it table
    → again ≡ it.rows.items → true ≡ is_row (option_and_then (row_at records) (slice_get again i)) before → IsRowFound (Some column) at before table.rows i
keyed_known records it column at before again i table is same answer =
    let known = row_here records it again table i before true is same answer in
    record { within = found_within table.rows i before known; same = known; by_place = tt }

-- another row stands at the place, or none
pub at_other : (records : List Record) (it : Indexed) (at : ℕ) (before : List Value) (slice : List Place) (table : Table) → IsTableAt records it table → slice ≡ it.rows.items
    → false ≡ is_row (option_and_then (row_at records) (slice_get slice at)) before → deleted None at before table.rows ≡ None
at_other records it at before slice table is same answer =
    cond-false (is_row (slice_get table.rows at) before) (Some (remove table.rows at)) None (row_here records it slice table at before false is same answer)

-- the row stands at the place
pub at_known : (records : List Record) (it : Indexed) (at : ℕ) (before : List Value) (slice : List Place) (table : Table) → IsTableAt records it table → slice ≡ it.rows.items
    → true ≡ is_row (option_and_then (row_at records) (slice_get slice at)) before → IsRowFound None at before table.rows at
at_known records it at before slice table is same answer =
    let known = row_here records it slice table at before true is same answer in
    record { within = found_within table.rows at before known; same = known; by_place = refl }

-- the row that was found is the one before
row_is : (rows : List (List Value)) (i : ℕ) (before : List Value) → i < length rows → is_row (slice_get rows i) before ≡ true → get_or rows i [] ≡ before
row_is rows i before within same = same_row-true (get_or rows i []) before (ap (λ (o : Option (List Value)). is_row o before) (sym (slice_get-get_or rows i [] within)) ∙ same)

-- so it has its key
has_its_key : (column : ℕ) (rows : List (List Value)) (i : ℕ) (before : List Value) → i < length rows → is_row (slice_get rows i) before ≡ true → has_key column (key_in column before) (get_or rows i []) ≡ true
has_its_key column rows i before within same =
    ap (λ (r : List Value). same_value (key_in column r) (key_in column before)) (row_is rows i before within same) ∙ same_value_refl (key_in column before)

-- A Delete takes out the row that was found.
pub deleted-found : (key : Option ℕ) (at : ℕ) (before : List Value) (rows : List (List Value)) (i : ℕ) → IsOrdered key rows → IsRowFound key at before rows i → deleted key at before rows ≡ Some (remove rows i)
deleted-found None at before rows i ordered found =
    let at_place : i ≡ at = found.by_place in
    cond-true (is_row (slice_get rows at) before) (Some (remove rows at)) None (ap (λ k. is_row (slice_get rows k) before) (sym at_place) ∙ found.same) ∙ ap (λ k. Some (remove rows k)) (sym at_place)
deleted-found (Some column) at before rows i ordered found =
    let own = has_its_key column rows i before found.within found.same in
    deleted-there column at before rows (ap (λ (o : Option (List Value)). is_row o before) (keyed_row column (key_in column before) rows i ordered found.within own) ∙ found.same)
    ∙ ap Some (without_key-at column (key_in column before) rows i [] ordered found.within own)

-- An Update by place puts the row there.
updated-found : (at : ℕ) (before after : List Value) (rows : List (List Value)) (i : ℕ) → IsRowFound None at before rows i → updated None at before after rows ≡ Some (set rows i after)
updated-found at before after rows i found =
    let at_place : i ≡ at = found.by_place in
    cond-true (is_row (slice_get rows at) before) (Some (set rows at after)) None (ap (λ k. is_row (slice_get rows k) before) (sym at_place) ∙ found.same) ∙ ap (λ k. Some (set rows k after)) (sym at_place)

-- An Update by key is an Insert without the row that was found.
updated-keyed : (column at : ℕ) (before after : List Value) (rows : List (List Value)) (i : ℕ) → IsInKeyOrder column rows → IsRowFound (Some column) at before rows i
    → updated (Some column) at before after rows ≡ inserted (Some column) after (remove rows i)
updated-keyed column at before after rows i ordered found = ap (λ (o : Option (List (List Value))). option_and_then (inserted (Some column) after) o) (deleted-found (Some column) at before rows i ordered found)

-- The place of a row is the place for its key, where it is taken out.
place_without : (column : ℕ) (key : Value) (rows : List (List Value)) (i : ℕ) → IsInKeyOrder column rows → i < length rows → key_in column (get_or rows i []) ≡ key → IsPlaceFor column key (remove rows i) i
place_without column key [] i ordered within own = absurd (omega arith)
place_without column key (r ∷ []) zero ordered within own = tt
place_without column key (r ∷ q ∷ qs) zero ordered within own = subst (λ (k : Value). value_cmp k (key_in column q) ≡ Less) own (ordered.0).0
place_without column key (r ∷ rs) (suc i) ordered within own = (
  subst (λ (k : Value). value_cmp (key_in column r) k ≡ Less) own (rises column (r ∷ rs) 0 (suc i) [] ordered (omega arith) (omega arith)),
  place_without column key rs i ordered.1 (omega arith) own,
)

-- one taken out and another put in is one replaced
insert-remove : {X : Type 0} (xs : List X) (i : ℕ) (x : X) → i < length xs → insert (remove xs i) i x ≡ set xs i x
insert-remove [] i x within = absurd (omega arith)
insert-remove (y ∷ ys) zero x within = refl
insert-remove (y ∷ ys) (suc i) x within = ap (λ l. y ∷ l) (insert-remove ys i x (omega arith))

-- order without a row
ordered_without : (column : ℕ) (at : ℕ) (before : List Value) (rows : List (List Value)) (i : ℕ) → IsInKeyOrder column rows → IsRowFound (Some column) at before rows i → IsInKeyOrder column (remove rows i)
ordered_without column at before rows i ordered found =
    IsOrdered-deleted (Some column) at before rows (remove rows i) (deleted-found (Some column) at before rows i ordered found) ordered

-- An Update that leaves the key puts the row in the place of the other.
updated-same : (column at : ℕ) (before after : List Value) (rows : List (List Value)) (i : ℕ) → IsInKeyOrder column rows → IsRowFound (Some column) at before rows i
    → same_value (key_in column after) (key_in column before) ≡ true → updated (Some column) at before after rows ≡ Some (set rows i after)
updated-same column at before after rows i ordered found same =
    let key : key_in column after ≡ key_in column before = same_value-true (key_in column after) (key_in column before) same in
    let own : key_in column (get_or rows i []) ≡ key_in column after = ap (key_in column) (row_is rows i before found.within found.same) ∙ sym key in
    updated-keyed column at before after rows i ordered found
    ∙ inserted-place column after (remove rows i) i (ordered_without column at before rows i ordered found) (place_without column (key_in column after) rows i ordered found.within own)
    ∙ ap Some (insert-remove rows i after found.within)

zip_remove : {X Y : Type 0} (R : X → Y → Type 0) (xs : List X) (ys : List Y) (i : ℕ) → AllZip R xs ys → AllZip R (remove xs i) (remove ys i)
zip_remove R xs ys i all = zip_append R _ _ _ _ (zip_cut R xs ys i all).0 (zip_cut R xs ys (suc i) all).1

zip_set : {X Y : Type 0} (R : X → Y → Type 0) (xs : List X) (ys : List Y) (i : ℕ) (x : X) (y : Y) → AllZip R xs ys → R x y → AllZip R (set xs i x) (set ys i y)
zip_set R [] [] i x y all here = tt
zip_set R [] (z ∷ zs) i x y all here = absurd all
zip_set R (z ∷ zs) [] i x y all here = absurd all
zip_set R (a ∷ xs) (b ∷ ys) zero x y all here = (here, all.1)
zip_set R (a ∷ xs) (b ∷ ys) (suc i) x y all here = (all.0, zip_set R xs ys i x y all.1 here)

-- the index without the row that was found
table_without : (records : List Record) (it : Indexed) (rows : Vec Place Global) (at : ℕ) (before : List Value) (i : ℕ) (table : Table) → IsTableAt records it table
    → IsRowFound table.definition.schema.key at before table.rows i → rows.items ≡ remove it.rows.items i
    → IsTableAt records (record { definition = it.definition; rows = rows }) (table_of table (remove table.rows i))
table_without records it rows at before i table is found removed = record {
  definition = is.definition;
  rows = subst (λ (l : List Place). AreRowsAt records l (remove table.rows i)) (sym removed) (zip_remove (IsRowAt records) it.rows.items table.rows i is.rows);
  ordered = IsOrdered-deleted table.definition.schema.key at before table.rows (remove table.rows i) (deleted-found table.definition.schema.key at before table.rows i is.ordered found) is.ordered;
}

-- A row that was found is taken out.
pub row_removed : (records : List Record) (it : Indexed) (rows : Vec Place Global) (at : ℕ) (before : List Value) (i : ℕ) (table : Table) → IsTableAt records it table
    → IsRowFound table.definition.schema.key at before table.rows i → rows.items ≡ remove it.rows.items i
    → HasRows true records (record { definition = it.definition; rows = rows }) (removing at before table) table
row_removed records it rows at before i table is found removed =
    (remove table.rows i, deleted-found table.definition.schema.key at before table.rows i is.ordered found, table_without records it rows at before i table is found removed)

-- A row that was found is replaced, where the rows after the Update are those with another in its place.
row_set : (records : List Record) (it : Indexed) (rows : Vec Place Global) (at : ℕ) (before after : List Value) (i : ℕ) (place : Place) (table : Table) → IsTableAt records it table
    → replacing at before after table ≡ Some (set table.rows i after) → row_at records place ≡ Some after → rows.items ≡ set it.rows.items i place
    → HasRows true records (record { definition = it.definition; rows = rows }) (replacing at before after table) table
row_set records it rows at before after i place table is made here replaced = (
  set table.rows i after,
  made,
  record {
    definition = is.definition;
    rows = subst (λ (l : List Place). AreRowsAt records l (set table.rows i after)) (sym replaced) (zip_set (IsRowAt records) it.rows.items table.rows i place after is.rows here);
    ordered = IsOrdered-updated table.definition.schema.key at before after table.rows (set table.rows i after) made is.ordered;
  },
)

-- the same by place
pub row_set_at : (records : List Record) (it : Indexed) (rows : Vec Place Global) (at : ℕ) (before after : List Value) (i : ℕ) (place : Place) (table : Table) → IsTableAt records it table
    → table.definition.schema.key ≡ None → IsRowFound None at before table.rows i → row_at records place ≡ Some after → rows.items ≡ set it.rows.items i place
    → HasRows true records (record { definition = it.definition; rows = rows }) (replacing at before after table) table
row_set_at records it rows at before after i place table is key found here replaced =
    row_set records it rows at before after i place table is (ap (λ (k : Option ℕ). updated k at before after table.rows) key ∙ updated-found at before after table.rows i found) here replaced

-- the same by key, where it stays
pub row_set_keyed : (records : List Record) (it : Indexed) (rows : Vec Place Global) (column at : ℕ) (before after : List Value) (i : ℕ) (place : Place) (table : Table) → IsTableAt records it table
    → table.definition.schema.key ≡ Some column → IsRowFound (Some column) at before table.rows i → row_at records place ≡ Some after
    → true ≡ same_value (key_at records column place) (key_in column before) → rows.items ≡ set it.rows.items i place
    → HasRows true records (record { definition = it.definition; rows = rows }) (replacing at before after table) table
row_set_keyed records it rows column at before after i place table is key found here same replaced =
    row_set records it rows at before after i place table is (
    ap (λ (k : Option ℕ). updated k at before after table.rows) key
    ∙ updated-same column at before after table.rows i (in_order records it table column is key) found (ap (λ (v : Value). same_value v (key_in column before)) (sym (key_of_row records column place after here)) ∙ sym same)
    ) here replaced

-- What an Insert makes of the rows without the one that was found is what an Update makes of them.
pub row_moved : (records : List Record) (it it' : Indexed) (rows : Vec Place Global) (column at : ℕ) (before after : List Value) (i : ℕ) (table : Table) (result : Result Bool AllocError) → IsTableAt records it table
    → table.definition.schema.key ≡ Some column → IsRowFound (Some column) at before table.rows i → rows.items ≡ remove it.rows.items i
    → ((other : Table) → IsTableAt records (record { definition = it.definition; rows = rows }) other → other.definition.schema.key ≡ Some column
    → IfOk result (λ b. HasRows b records it' (adding after other) other)) → IfOk result (λ b. HasRows b records it' (replacing at before after table) table)
row_moved records it it' rows column at before after i table result is key found removed adds =
    let found_so : IsRowFound table.definition.schema.key at before table.rows i = subst (λ (k : Option ℕ). IsRowFound k at before table.rows i) (sym key) found in
    let same : adding after (table_of table (remove table.rows i)) ≡ replacing at before after table =
    ap (λ (k : Option ℕ). inserted k after (remove table.rows i)) key ∙ sym (updated-keyed column at before after table.rows i (in_order records it table column is key) found)
    ∙ sym (ap (λ (k : Option ℕ). updated k at before after table.rows) key) in
    go result (adds (table_of table (remove table.rows i)) (table_without records it rows at before i table is found_so removed) key) same
  where
    one : (b : Bool) (out : Option (List (List Value))) (less : List (List Value)) → HasRows b records it' out (table_of table less) → HasRows b records it' out table
    one true out less has = has
    one false out less has = has

    go : (r : Result Bool AllocError) → IfOk r (λ b. HasRows b records it' (adding after (table_of table (remove table.rows i))) (table_of table (remove table.rows i)))
        → adding after (table_of table (remove table.rows i)) ≡ replacing at before after table → IfOk r (λ b. HasRows b records it' (replacing at before after table) table)
    go (Ok b) done same = subst (λ (o : Option (List (List Value))). HasRows b records it' o table) same (one b (adding after (table_of table (remove table.rows i))) (remove table.rows i) done)
    go (Err e) done same = tt

eq_index : (o : Ordering) → nat_eq (ordering_index o) 1 ≡ is_eq o
eq_index Less = refl
eq_index Equal = refl
eq_index Greater = refl

-- whether a row has the key of the row at a place
pub has_one_key : (b : Bool) (o : Ordering) (a key : Value) (column : ℕ) (row : List Value) → b ≡ nat_eq (ordering_index o) 1 → o ≡ value_cmp a key → Some key ≡ slice_get row column → b ≡ same_value a (key_in column row)
has_one_key b o a key column row answer order is =
    answer ∙ eq_index o ∙ ap is_eq order ∙ sym (same_value-is_eq a key) ∙ ap (λ (x : Option Value). same_value a (unwrap_or x Null)) is
