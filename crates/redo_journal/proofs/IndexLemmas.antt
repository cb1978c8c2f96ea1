-- What stands at places among records, and where a row goes among the rows of a table.
use Rattle.std.proofs.Common.{◌≡◌, ◌≢◌, ℕ, ◌<◌, ◌≤◌, zero, suc, List, [], ◌∷◌, ◌++◌, length, take, drop, get_or, Some, None, true, false, refl, sym, ap, ◌∙◌, arith, inl, inr, subst, ◌⊎◌}
use Rattle.std.specs.Prelude.{Option, is_some, unwrap_or, option_and_then, nat_eq}
use Rattle.std.specs.List.{AllZip, insert, slice_get}
use Rattle.std.specs.List.Sorted.{IsPartitionedBy}
use Rattle.std.specs.Ordering.{is_lt, is_eq, ordering_reverse, ordering_index}
use Rattle.std.specs.declared.cmp.Ordering.{Ordering}
use Rattle.std.specs.declared.cmp.Ordering.TheVariants.{Less, Equal, Greater}
use Rattle.std.proofs.lemmas.Bool.{cases_order}
use Rattle.sql_value.specs.declared.value.Value.{Value}
use Rattle.sql_value.specs.declared.value.Value.TheVariants.{Null}
use Rattle.sql_value.specs.Values.{value_cmp, same_value}
use Rattle.sql_value.proofs.OrderLemmas.{value_cmp_total}
use Rattle.sql_value.proofs.SameLemmas.{less, same_value-is_eq}
use Rattle.row_format.specs.declared.schema.Schema.{Schema}
use Rattle.std.specs.Prelude.{option_map, Result, Ok, Err}
use Rattle.std.specs.declared.vec.Vec.{Vec}
use Rattle.std.specs.declared.alloc.Global.{Global}
use Rattle.log_tables.specs.declared.table.Definition.{Definition}
use Rattle.log_tables.specs.declared.table.Table.{Table}
use Rattle.log_tables.specs.Keys.{key_in, row_with, inserted, IsInKeyOrder, IsPlaceFor, IsOrdered}
use Rattle.log_tables.proofs.OrderLemmas.{IsOrdered-inserted}
use Rattle.log_tables.proofs.PlaceLemmas.{rises, place_from, taken_at, inserted-place, inserted-taken}
use Rattle.redo_journal.specs.declared.record.Record.{Record}
use Rattle.redo_journal.specs.declared.place.Place.{Place}
use Rattle.redo_journal.specs.declared.index.Indexed.{Indexed}
use Rattle.redo_journal.specs.Index.{is_key_below, AreParted, row_at, key_at, definition_at, IsRowAt, AreRowsAt, IsTableAt, Finds, HasRows, adding}

pub zip_length : {X Y : Type 0} (R : X → Y → Type 0) (xs : List X) (ys : List Y) → AllZip R xs ys → length xs ≡ length ys
zip_length R [] [] all = refl
zip_length R [] (y ∷ ys) all = absurd all
zip_length R (x ∷ xs) [] all = absurd all
zip_length R (x ∷ xs) (y ∷ ys) all = ap suc (zip_length R xs ys all.1)

pub zip_at : {X Y : Type 0} (R : X → Y → Type 0) (xs : List X) (ys : List Y) (k : ℕ) (d : X) (e : Y) → AllZip R xs ys → k < length xs → R (get_or xs k d) (get_or ys k e)
zip_at R [] ys k d e all within = absurd (omega arith)
zip_at R (x ∷ xs) [] k d e all within = absurd all
zip_at R (x ∷ xs) (y ∷ ys) zero d e all within = all.0
zip_at R (x ∷ xs) (y ∷ ys) (suc k) d e all within = zip_at R xs ys k d e all.1 (omega arith)

-- the key at a place is that of the row there
pub key_of_row : (records : List Record) (column : ℕ) (place : Place) (row : List Value) → row_at records place ≡ Some row → key_at records column place ≡ key_in column row
key_of_row records column place row is = ap (λ (o : Option (List Value)). unwrap_or (option_and_then (λ r. slice_get r column) o) Null) is

-- the key at the k-th place is that of the k-th row
pub key_of_kth : (records : List Record) (column : ℕ) (places : List Place) (rows : List (List Value)) (k : ℕ) (d : Place) → AreRowsAt records places rows → k < length places
    → key_at records column (get_or places k d) ≡ key_in column (get_or rows k [])
key_of_kth records column places rows k d are within = key_of_row records column (get_or places k d) (get_or rows k []) (zip_at (λ place row. row_at records place ≡ Some row) places rows k d [] are within)

-- The rows with lower keys stand before the others.
pub places_partitioned : (records : List Record) (column : ℕ) (key : Value) (places : List Place) (rows : List (List Value)) → AreRowsAt records places rows → IsInKeyOrder column rows
    → IsPartitionedBy (is_key_below records column key) places
places_partitioned records column key places rows are ordered = λ i j d before within low. go i j d before within low (cases_order i j)
  where
    go : (i j : ℕ) (d : Place) → i ≤ j → j < length places → is_key_below records column key (get_or places j d) ≡ true → (i ≡ j) ⊎ ((i < j) ⊎ (j < i)) → is_key_below records column key (get_or places i d) ≡ true
    go i j d before within low (inl same) = subst (λ k. is_key_below records column key (get_or places k d) ≡ true) (sym same) low
    go i j d before within low (inr (inl less_than)) =
        let at_i = key_of_kth records column places rows i d are (omega arith) in
        let at_j = key_of_kth records column places rows j d are within in
        let rise = rises column rows i j [] ordered less_than (omega (arith, zip_length (λ place row. row_at records place ≡ Some row) places rows are)) in
        let below = ap (λ k. value_cmp k key) (sym at_j) ∙ less (value_cmp (key_at records column (get_or places j d)) key) low in
        ap is_lt (ap (λ k. value_cmp k key) at_i ∙ value_cmp_total.trans (key_in column (get_or rows i [])) (key_in column (get_or rows j [])) key rise below)
    go i j d before within low (inr (inr more)) = absurd (omega arith)

greater : (o : Ordering) → is_lt o ≡ false → o ≢ Equal → ordering_reverse o ≡ Less
greater Less low other = cc
greater Equal low other = absurd (other refl)
greater Greater low other = refl

pub first_place : Place
first_place = record { number = 0; change = 0 }

-- Where the rows with lower keys end, and the next does not have this key, is the place for it.
pub place_found : (records : List Record) (column : ℕ) (key : Value) (places : List Place) (rows : List (List Value)) (place : ℕ) → AreRowsAt records places rows
    → AreParted records column key places place → place ≤ length places
    → (place < length places → value_cmp (key_at records column (get_or places place first_place)) key ≢ Equal) → IsPlaceFor column key rows place
place_found records column key places rows place are point within other =
    let same_length = zip_length (λ p row. row_at records p ≡ Some row) places rows are in
    place_from column key rows place [] (omega arith)
    (λ k h.
    ap (λ v. value_cmp v key) (sym (key_of_kth records column places rows k first_place are (omega arith)))
    ∙ less (value_cmp (key_at records column (get_or places k first_place)) key) (point.0 k first_place (omega arith) h))
    (λ h.
    let at = key_of_kth records column places rows place first_place are (omega arith) in
    ap (value_cmp key) (sym at)
    ∙ value_cmp_total.antisymm key (key_at records column (get_or places place first_place))
    ∙ greater (value_cmp (key_at records column (get_or places place first_place)) key) (point.1 place first_place (omega arith) (omega arith)) (other (omega arith)))

-- Where the keys are the same, it is the row with this key.
pub key_found : (records : List Record) (column : ℕ) (key : Value) (places : List Place) (rows : List (List Value)) (place : ℕ) → AreRowsAt records places rows → place < length places
    → value_cmp (key_at records column (get_or places place first_place)) key ≡ Equal → Finds column key rows (Ok place)
key_found records column key places rows place are within same =
    let same_length = zip_length (λ p row. row_at records p ≡ Some row) places rows are in
    let at = key_of_kth records column places rows place first_place are within in (
      omega arith,
      ap (λ v. same_value v key) (sym at) ∙ same_value-is_eq (key_at records column (get_or places place first_place)) key ∙ ap is_eq same,
    )

pub is_equal : (o : Ordering) → nat_eq (ordering_index o) 1 ≡ true → o ≡ Equal
is_equal Less h = cc
is_equal Equal h = refl
is_equal Greater h = cc

pub is_other : (o : Ordering) → nat_eq (ordering_index o) 1 ≡ false → o ≢ Equal
is_other Less h = λ e. cc
is_other Equal h = cc
is_other Greater h = λ e. cc

pub zip_cut : {X Y : Type 0} (R : X → Y → Type 0) (xs : List X) (ys : List Y) (k : ℕ) → AllZip R xs ys → AllZip R (take k xs) (take k ys) × AllZip R (drop k xs) (drop k ys)
zip_cut R [] [] zero all = (tt, tt)
zip_cut R [] [] (suc k) all = (tt, tt)
zip_cut R [] (y ∷ ys) k all = absurd all
zip_cut R (x ∷ xs) [] k all = absurd all
zip_cut R (x ∷ xs) (y ∷ ys) zero all = (tt, all)
zip_cut R (x ∷ xs) (y ∷ ys) (suc k) all = let cut = zip_cut R xs ys k all.1 in ((all.0, cut.0), cut.1)

pub zip_append : {X Y : Type 0} (R : X → Y → Type 0) (xs : List X) (ys : List Y) (xs' : List X) (ys' : List Y) → AllZip R xs ys → AllZip R xs' ys' → AllZip R (xs ++ xs') (ys ++ ys')
zip_append R [] [] xs' ys' all more = more
zip_append R [] (y ∷ ys) xs' ys' all more = absurd all
zip_append R (x ∷ xs) [] xs' ys' all more = absurd all
zip_append R (x ∷ xs) (y ∷ ys) xs' ys' all more = (all.0, zip_append R xs ys xs' ys' all.1 more)

-- one more, at a place
pub zip_insert : {X Y : Type 0} (R : X → Y → Type 0) (xs : List X) (ys : List Y) (k : ℕ) (x : X) (y : Y) → AllZip R xs ys → R x y → AllZip R (insert xs k x) (insert ys k y)
zip_insert R xs ys k x y all here =
    let cut = zip_cut R xs ys k all in
    zip_append R (take k xs) (take k ys) (x ∷ drop k xs) (y ∷ drop k ys) cut.0 (here, cut.1)

-- A table of an index with other rows: those of an Insert.
table_added : (records : List Record) (it : Indexed) (rows : Vec Place Global) (table : Table) (row : List Value) (out : List (List Value)) → IsTableAt records it table
    → adding row table ≡ Some out → AreRowsAt records rows.items out → HasRows true records (record { definition = it.definition; rows = rows }) (adding row table) table
table_added records it rows table row out is added are =
    (out, added, record { definition = is.definition; rows = are; ordered = IsOrdered-inserted table.definition.schema.key row table.rows out added is.ordered })

-- the rows of a table with this key are in order
pub in_order : (records : List Record) (it : Indexed) (table : Table) (column : ℕ) → IsTableAt records it table → table.definition.schema.key ≡ Some column → IsInKeyOrder column table.rows
in_order records it table column is key = subst (λ (k : Option ℕ). IsOrdered k table.rows) key is.ordered

-- what was found among the rows of the table that an index has
pub found_here : (records : List Record) (it : Indexed) (column : ℕ) (key : Value) (slice : List Place) (table : Table) (found : Result ℕ ℕ) → IsTableAt records it table → table.definition.schema.key ≡ Some column
    → slice ≡ it.rows.items → ((all : List (List Value)) → AreRowsAt records slice all → IsInKeyOrder column all → Finds column key all found) → Finds column key table.rows found
found_here records it column key slice table found is keyed same finds =
    finds table.rows (subst (λ (l : List Place). AreRowsAt records l table.rows) (sym same) is.rows) (in_order records it table column is keyed)

-- a row that was read at a place is the one there
pub read_row : (read row : List Value) (o : Option (List Value)) → Some read ≡ o → o ≡ Some row → read ≡ row
read_row read row o is at = cc (is ∙ at)

-- A row goes in at the place for its key.
pub keyed_added : (records : List Record) (it : Indexed) (rows : Vec Place Global) (column : ℕ) (place : Place) (slice : List Place) (i : ℕ) (table : Table) (read row : List Value) → IsTableAt records it table
    → table.definition.schema.key ≡ Some column → Some read ≡ row_at records place → row_at records place ≡ Some row → slice ≡ it.rows.items
    → ((all : List (List Value)) → AreRowsAt records slice all → IsInKeyOrder column all → Finds column (key_in column read) all (Err i))
    → rows.items ≡ insert it.rows.items i place → HasRows true records (record { definition = it.definition; rows = rows }) (adding row table) table
keyed_added records it rows column place slice i table read row is key known at same found added =
    let here = found_here records it column (key_in column read) slice table (Err i) is key same found in
    let there : IsPlaceFor column (key_in column row) table.rows i = subst (λ (r : List Value). IsPlaceFor column (key_in column r) table.rows i) (read_row read row (row_at records place) known at) here in
    table_added records it rows table row (insert table.rows i row) is
    (ap (λ (k : Option ℕ). inserted k row table.rows) key ∙ inserted-place column row table.rows i (in_order records it table column is key) there)
    (subst (λ (l : List Place). AreRowsAt records l (insert table.rows i row)) (sym added) (zip_insert (IsRowAt records) it.rows.items table.rows i place row is.rows at))

-- A row whose key is taken does not go in.
pub keyed_taken : (records : List Record) (it : Indexed) (column : ℕ) (place : Place) (slice : List Place) (i : ℕ) (table : Table) (read row : List Value) → IsTableAt records it table
    → table.definition.schema.key ≡ Some column → Some read ≡ row_at records place → row_at records place ≡ Some row → slice ≡ it.rows.items
    → ((all : List (List Value)) → AreRowsAt records slice all → IsInKeyOrder column all → Finds column (key_in column read) all (Ok i))
    → adding row table ≡ None
keyed_taken records it column place slice i table read row is key known at same found =
    let here = found_here records it column (key_in column read) slice table (Ok i) is key same found in
    let taken : is_some (row_with column (key_in column row) table.rows) ≡ true =
    subst (λ (r : List Value). is_some (row_with column (key_in column r) table.rows) ≡ true) (read_row read row (row_at records place) known at) (taken_at column (key_in column read) table.rows i [] here.0 here.1) in
    ap (λ (k : Option ℕ). inserted k row table.rows) key ∙ inserted-taken column row table.rows taken

-- the schema that was found is that of the table
pub schema_of_table : (records : List Record) (it : Indexed) (table : Table) (schema : Schema) → IsTableAt records it table
    → Some schema ≡ option_map (λ (d : Definition). d.schema) (definition_at records it.definition) → table.definition.schema ≡ schema
schema_of_table records it table schema is found = cc (found ∙ ap (option_map (λ (d : Definition). d.schema)) is.definition)

-- A row goes in at the end of a table with no key.
pub added_last : (records : List Record) (it : Indexed) (rows : Vec Place Global) (place : Place) (table : Table) (row : List Value) → IsTableAt records it table → table.definition.schema.key ≡ None
    → row_at records place ≡ Some row → rows.items ≡ it.rows.items ++ place ∷ [] → HasRows true records (record { definition = it.definition; rows = rows }) (adding row table) table
added_last records it rows place table row is key at added =
    table_added records it rows table row (table.rows ++ row ∷ []) is (ap (λ (k : Option ℕ). inserted k row table.rows) key)
    (subst (λ (l : List Place). AreRowsAt records l (table.rows ++ row ∷ [])) (sym added) (zip_append (IsRowAt records) it.rows.items table.rows (place ∷ []) (row ∷ []) is.rows (at, tt)))
