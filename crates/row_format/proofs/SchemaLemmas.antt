-- Schemas: what was read is what was written, and what was written is read again.
use Rattle.std.proofs.Common.{◌≡◌, ℕ, ◌+◌, ◌<◌, ◌≤◌, Bool, true, false, cond, List, [], ◌∷◌, ◌++◌, length, Option, Some, None, zero, suc, refl, sym, ap, subst, ◌∙◌, append_assoc, arith, inl, inr, get_or, drop, drop-cons, add-one}
use Rattle.std.specs.Prelude.{nat_le, ◌==◌, ◌&&◌, All, not, slice_get}
use Rattle.std.specs.List.{flat_map, list_all, list_any}
use Rattle.std.proofs.lemmas.Bool.{leb-true, eqb-true, ne_eqb, cases_Bool, and_parts, cond-true, cond-false}
use Rattle.std.proofs.lemmas.List.Elements.{All-nil, All-cons, All-head, All-tail}
use Rattle.std.proofs.lemmas.Option.{slice_get_within}
use Rattle.row_format.specs.declared.schema.Kind.{Kind}
use Rattle.row_format.specs.declared.schema.Kind.TheVariants.{BigInt, VarChar}
use Rattle.row_format.specs.declared.schema.Column.{Column}
use Rattle.row_format.specs.declared.schema.Schema.{Schema}
use Rattle.row_format.specs.declared.change.TableMap.{TableMap}
use Rattle.sql_value.specs.Names.{IsName}
use Rattle.row_format.specs.Schemas.{is_allowed, is_key, is_required, IsSchema, are_distinct, has_room, greatest_image, is_well_made, is_called}
use Rattle.row_format.specs.Changes.{IsMap}
use Rattle.row_format.specs.Spelling.{counted, kind_spelling, flag_byte, column_spelling, key_byte, schema_spelling, map_spelling}
use Rattle.row_format.specs.Reading.{◌>>=◌, where_so, byte_at, name_at, kind_of, kind_at, flag_at, column_at, columns_at, key_of_byte, schema_at, map_at}
use Rattle.row_format.proofs.PieceLemmas.{IsBytes, bind_some, some_is, where_some, where_true, Took, Took-then, byte_takes, name_takes, name_again}

kind_of_takes : (bytes rest : List ℕ) (byte : ℕ) (it : Kind × List ℕ) → Took bytes (byte ∷ []) rest → kind_of byte rest ≡ Some it → Took bytes (kind_spelling it.0) it.1
kind_of_takes bytes rest byte it took is = elim (cases_Bool (byte == 8)) [
  | inl same ↦
      let at : byte ≡ 8 = eqb-true byte 8 same in
      let found = sym (cond-true (byte == 8) (Some (BigInt, rest)) (cond (byte == 15) (byte_at rest >>= λ n. Some (VarChar n.0, n.1)) None) same) ∙ is in
      subst (λ (x : Kind × List ℕ). Took bytes (kind_spelling x.0) x.1) (some_is (BigInt, rest) it found) (subst (λ (b : ℕ). Took bytes (b ∷ []) rest) at took)
  | inr differs ↦
      let more = sym (cond-false (byte == 8) (Some (BigInt, rest)) (cond (byte == 15) (byte_at rest >>= λ n. Some (VarChar n.0, n.1)) None) differs) ∙ is in
      elim (cases_Bool (byte == 15)) [
        | inl same ↦
            let at : byte ≡ 15 = eqb-true byte 15 same in
            let b = bind_some (byte_at rest) (λ n. Some (VarChar n.0, n.1)) it (sym (cond-true (byte == 15) (byte_at rest >>= λ n. Some (VarChar n.0, n.1)) None same) ∙ more) in
            let second = byte_takes rest b.0 took.rest_bytes b.1 in
            let both = Took-then bytes (byte ∷ []) rest (b.0.0 ∷ []) b.0.1 took second.0 in
            subst (λ (x : Kind × List ℕ). Took bytes (kind_spelling x.0) x.1) (some_is (VarChar b.0.0, b.0.1) it b.2) (subst (λ (n : ℕ). Took bytes (n ∷ b.0.0 ∷ []) b.0.1) at both)
        | inr differs_too ↦ absurd (none (sym (cond-false (byte == 15) (byte_at rest >>= λ n. Some (VarChar n.0, n.1)) None differs_too) ∙ more))
      ]
]
  where
    none : None ≡ Some it → ⊥
    none e = cc

pub kind_takes : (bytes : List ℕ) (it : Kind × List ℕ) → IsBytes bytes → kind_at bytes ≡ Some it → Took bytes (kind_spelling it.0) it.1
unfolding kind_at
kind_takes bytes it fits is =
    let b = bind_some (byte_at bytes) (λ x. kind_of x.0 x.1) it is in
    let first = byte_takes bytes b.0 fits b.1 in
    kind_of_takes bytes b.0.1 b.0.0 it first.0 b.2

pub kind_again : (kind : Kind) (rest : List ℕ) → kind_at (kind_spelling kind ++ rest) ≡ Some (kind, rest)
unfolding kind_at
kind_again BigInt rest = refl
kind_again (VarChar n) rest = refl

flag_byte_is : (byte : ℕ) → nat_le byte 1 ≡ true → flag_byte (byte == 1) ≡ byte
flag_byte_is zero is = refl
flag_byte_is (suc zero) is = refl
flag_byte_is (suc (suc n)) is = let le : suc (suc n) ≤ 1 = leb-true _ _ is in absurd (omega (arith, le))

pub flag_takes : (bytes : List ℕ) (it : Bool × List ℕ) → IsBytes bytes → flag_at bytes ≡ Some it → Took bytes (flag_byte it.0 ∷ []) it.1
unfolding flag_at
flag_takes bytes it fits is =
    let b = bind_some (byte_at bytes) (λ x. where_so (nat_le x.0 1) (x.0 == 1, x.1)) it is in
    let first = byte_takes bytes b.0 fits b.1 in
    let found = where_some (nat_le b.0.0 1) (b.0.0 == 1, b.0.1) it b.2 in
    subst (λ (x : Bool × List ℕ). Took bytes (flag_byte x.0 ∷ []) x.1) found.1 (subst (λ (n : ℕ). Took bytes (n ∷ []) b.0.1) (sym (flag_byte_is b.0.0 found.0)) first.0)

pub flag_again : (flag : Bool) (rest : List ℕ) → flag_at (flag_byte flag ∷ rest) ≡ Some (flag, rest)
unfolding flag_at
flag_again true rest = refl
flag_again false rest = refl

pub column_takes : (bytes : List ℕ) (it : Column × List ℕ) → IsBytes bytes → column_at bytes ≡ Some it → Took bytes (column_spelling it.0) it.1 × IsName it.0.name
unfolding column_at
column_takes bytes it fits is =
    let b = bind_some (name_at bytes) (λ name. kind_at name.1 >>= λ kind. flag_at kind.1 >>= λ flag. Some (record { name = name.0; kind = kind.0; nullable = flag.0 }, flag.1)) it is in
    let d = bind_some (kind_at b.0.1) (λ kind. flag_at kind.1 >>= λ flag. Some (record { name = b.0.0; kind = kind.0; nullable = flag.0 }, flag.1)) it b.2 in
    let e = bind_some (flag_at d.0.1) (λ flag. Some (record { name = b.0.0; kind = d.0.0; nullable = flag.0 }, flag.1)) it d.2 in
    let name = name_takes bytes b.0 fits b.1 in
    let kind = kind_takes b.0.1 d.0 name.0.rest_bytes d.1 in
    let flag = flag_takes d.0.1 e.0 kind.rest_bytes e.1 in
    let all = Took-then bytes (counted b.0.0 ++ kind_spelling d.0.0) d.0.1 (flag_byte e.0.0 ∷ []) e.0.1 (Took-then bytes (counted b.0.0) b.0.1 (kind_spelling d.0.0) d.0.1 name.0 kind) flag in
    subst (λ (x : Column × List ℕ). Took bytes (column_spelling x.0) x.1 × IsName x.0.name) {x = (record { name = b.0.0; kind = d.0.0; nullable = e.0.0 }, e.0.1)} (some_is (record { name = b.0.0; kind = d.0.0; nullable = e.0.0 }, e.0.1) it e.2) (all, name.1)

pub column_again : (column : Column) (rest : List ℕ) → IsName column.name → column_at (column_spelling column ++ rest) ≡ Some (column, rest)
unfolding column_at
column_again column rest named =
    let regrouped : column_spelling column ++ rest ≡ counted column.name ++ (kind_spelling column.kind ++ (flag_byte column.nullable ∷ rest)) =
    append_assoc (counted column.name ++ kind_spelling column.kind) (flag_byte column.nullable ∷ []) rest ∙ append_assoc (counted column.name) (kind_spelling column.kind) (flag_byte column.nullable ∷ rest) in
    ap column_at regrouped
    ∙ rw (name_again column.name (kind_spelling column.kind ++ (flag_byte column.nullable ∷ rest)) named, kind_again column.kind (flag_byte column.nullable ∷ rest), flag_again column.nullable rest) refl

pub columns_takes : (n : ℕ) (bytes : List ℕ) (it : List Column × List ℕ) → IsBytes bytes → columns_at n bytes ≡ Some it
    → Took bytes (flat_map column_spelling it.0) it.1 × (length it.0 ≡ n) × All (λ c. IsName c.name) it.0
unfolding columns_at
columns_takes zero bytes it fits is =
    subst (λ (x : List Column × List ℕ). Took bytes (flat_map column_spelling x.0) x.1 × (length x.0 ≡ 0) × All (λ c. IsName c.name) x.0) (some_is ([], bytes) it is)
    (record { takes = refl; rest_bytes = fits }, refl, All-nil (λ (c : Column). IsName c.name))
columns_takes (suc n) bytes it fits is =
    let b = bind_some (column_at bytes) (λ first. columns_at n first.1 >>= λ others. Some (first.0 ∷ others.0, others.1)) it is in
    let d = bind_some (columns_at n b.0.1) (λ others. Some (b.0.0 ∷ others.0, others.1)) it b.2 in
    let first = column_takes bytes b.0 fits b.1 in
    let others = columns_takes n b.0.1 d.0 first.0.rest_bytes d.1 in
    subst (λ (x : List Column × List ℕ). Took bytes (flat_map column_spelling x.0) x.1 × (length x.0 ≡ suc n) × All (λ c. IsName c.name) x.0) {x = (b.0.0 ∷ d.0.0, d.0.1)} (some_is (b.0.0 ∷ d.0.0, d.0.1) it d.2)
    (Took-then bytes (column_spelling b.0.0) b.0.1 (flat_map column_spelling d.0.0) d.0.1 first.0 others.0, ap suc others.1, All-cons (λ (c : Column). IsName c.name) b.0.0 d.0.0 first.1 others.2)

pub columns_again : (columns : List Column) (rest : List ℕ) → All (λ c. IsName c.name) columns → columns_at (length columns) (flat_map column_spelling columns ++ rest) ≡ Some (columns, rest)
unfolding columns_at
columns_again [] rest named = refl
columns_again (column ∷ columns) rest named =
    ap (columns_at (suc (length columns))) (append_assoc (column_spelling column) (flat_map column_spelling columns) rest)
    ∙ rw (column_again column (flat_map column_spelling columns ++ rest) (All-head (λ (c : Column). IsName c.name) column columns named), columns_again columns rest (All-tail (λ (c : Column). IsName c.name) column columns named)) refl

pub key_byte_is : (byte : ℕ) → key_byte (key_of_byte byte) ≡ byte
key_byte_is byte = elim (cases_Bool (byte == 255)) [
  | inl same ↦ ap key_byte (cond-true (byte == 255) None (Some byte) same) ∙ sym (eqb-true byte 255 same)
  | inr differs ↦ ap key_byte (cond-false (byte == 255) None (Some byte) differs)
]

-- the tests of a schema, one by one
pub record Allowed (columns : List Column) (key : Option ℕ) : Type 0 where
  pub some : 1 ≤ length columns
  pub few : length columns ≤ 16
  pub distinct : are_distinct columns ≡ true
  pub room : list_all has_room columns ≡ true
  pub keyed : is_key columns key ≡ true
  pub size : greatest_image columns ≤ 2000

pub allowed_parts : (columns : List Column) (key : Option ℕ) → is_allowed columns key ≡ true → Allowed columns key
allowed_parts columns key is =
    let a = and_parts (nat_le 1 (length columns) && nat_le (length columns) 16 && is_well_made columns key) (nat_le (greatest_image columns) 2000) is in
    let b = and_parts (nat_le 1 (length columns) && nat_le (length columns) 16) (is_well_made columns key) a.0 in
    let d = and_parts (nat_le 1 (length columns)) (nat_le (length columns) 16) b.0 in
    let e = and_parts (are_distinct columns && list_all has_room columns) (is_key columns key) b.1 in
    let f = and_parts (are_distinct columns) (list_all has_room columns) e.0 in
    record { some = leb-true _ _ d.0; few = leb-true _ _ d.1; distinct = f.0; room = f.1; keyed = e.1; size = leb-true _ _ a.1 }

-- the columns behind one are looked through in turn
pub distinct_step : (columns rest : List Column) (i : ℕ) (d : Column) → i < length columns → rest ≡ drop (i + 1) columns
    → list_any (is_called (get_or columns i d).name) rest ≡ false → are_distinct (drop i columns) ≡ are_distinct (drop (i + 1) columns)
distinct_step columns rest i d within rest_is none =
    let split : drop i columns ≡ get_or columns i d ∷ rest =
    drop-cons columns i d within ∙ ap (λ (n : ℕ). get_or columns i d ∷ drop n columns) (sym (add-one i)) ∙ ap (λ (l : List Column). get_or columns i d ∷ l) (sym rest_is) in
    ap are_distinct split ∙ ap (λ (b : Bool). not b && are_distinct rest) none ∙ ap are_distinct rest_is

required_within : (columns : List Column) (place : ℕ) (found : Option Column) → slice_get columns place ≡ found → is_required found ≡ true → place < length columns
required_within columns place None is so = absurd cc
required_within columns place (Some column) is so = slice_get_within columns place column is

-- a schema's key is the place of one of its columns
pub key_within : (columns : List Column) (place : ℕ) → is_key columns (Some place) ≡ true → place < length columns
key_within columns place is = required_within columns place (slice_get columns place) refl is

pub key_again : (columns : List Column) (key : Option ℕ) → is_allowed columns key ≡ true → key_of_byte (key_byte key) ≡ key
key_again columns None is = refl
key_again columns (Some place) is =
    let parts = allowed_parts columns (Some place) is in
    let within = key_within columns place parts.keyed in
    let few = parts.few in
    let other : (place == 255) ≡ false = ne_eqb place 255 (λ at. omega (arith, at, within, few)) in
    cond-false (place == 255) None (Some place) other

pub schema_takes : (bytes : List ℕ) (it : Schema × List ℕ) → IsBytes bytes → schema_at bytes ≡ Some it → Took bytes (schema_spelling it.0) it.1 × IsSchema it.0
unfolding schema_at
schema_takes bytes it fits is =
    let b = bind_some (byte_at bytes) (λ count. byte_at count.1 >>= λ key. columns_at count.0 key.1 >>= λ columns. where_so (is_allowed columns.0 (key_of_byte key.0)) (record { columns = columns.0; key = key_of_byte key.0 }, columns.1)) it is in
    let d = bind_some (byte_at b.0.1) (λ key. columns_at b.0.0 key.1 >>= λ columns. where_so (is_allowed columns.0 (key_of_byte key.0)) (record { columns = columns.0; key = key_of_byte key.0 }, columns.1)) it b.2 in
    let e = bind_some (columns_at b.0.0 d.0.1) (λ columns. where_so (is_allowed columns.0 (key_of_byte d.0.0)) (record { columns = columns.0; key = key_of_byte d.0.0 }, columns.1)) it d.2 in
    let found = where_some (is_allowed e.0.0 (key_of_byte d.0.0)) (record { columns = e.0.0; key = key_of_byte d.0.0 }, e.0.1) it e.2 in
    let count = byte_takes bytes b.0 fits b.1 in
    let key = byte_takes b.0.1 d.0 count.0.rest_bytes d.1 in
    let columns = columns_takes b.0.0 d.0.1 e.0 key.0.rest_bytes e.1 in
    let all = Took-then bytes (b.0.0 ∷ d.0.0 ∷ []) d.0.1 (flat_map column_spelling e.0.0) e.0.1 (Took-then bytes (b.0.0 ∷ []) b.0.1 (d.0.0 ∷ []) d.0.1 count.0 key.0) columns.0 in
    let spelt : Took bytes (length e.0.0 ∷ key_byte (key_of_byte d.0.0) ∷ flat_map column_spelling e.0.0) e.0.1 =
    subst (λ (n : ℕ). Took bytes (n ∷ key_byte (key_of_byte d.0.0) ∷ flat_map column_spelling e.0.0) e.0.1) (sym columns.1)
    (subst (λ (n : ℕ). Took bytes (b.0.0 ∷ n ∷ flat_map column_spelling e.0.0) e.0.1) (sym (key_byte_is d.0.0)) all) in
    subst (λ (x : Schema × List ℕ). Took bytes (schema_spelling x.0) x.1 × IsSchema x.0) {x = (record { columns = e.0.0; key = key_of_byte d.0.0 }, e.0.1)} found.1 (spelt, record { named = columns.2; allowed = found.0 })

pub schema_again : (schema : Schema) (rest : List ℕ) → IsSchema schema → schema_at (schema_spelling schema ++ rest) ≡ Some (schema, rest)
unfolding schema_at
schema_again schema rest is =
    rw (columns_again schema.columns rest is.named, key_again schema.columns schema.key is.allowed)
    (where_true (is_allowed schema.columns schema.key) (record { columns = schema.columns; key = schema.key }, rest) is.allowed)

pub map_takes : (bytes : List ℕ) (it : TableMap × List ℕ) → IsBytes bytes → map_at bytes ≡ Some it → Took bytes (map_spelling it.0) it.1 × IsMap it.0
unfolding map_at
map_takes bytes it fits is =
    let b = bind_some (name_at bytes) (λ table. schema_at table.1 >>= λ schema. Some (record { table = table.0; schema = schema.0 }, schema.1)) it is in
    let d = bind_some (schema_at b.0.1) (λ schema. Some (record { table = b.0.0; schema = schema.0 }, schema.1)) it b.2 in
    let name = name_takes bytes b.0 fits b.1 in
    let schema = schema_takes b.0.1 d.0 name.0.rest_bytes d.1 in
    let all = Took-then bytes (counted b.0.0) b.0.1 (schema_spelling d.0.0) d.0.1 name.0 schema.0 in
    subst (λ (x : TableMap × List ℕ). Took bytes (map_spelling x.0) x.1 × IsMap x.0) {x = (record { table = b.0.0; schema = d.0.0 }, d.0.1)} (some_is (record { table = b.0.0; schema = d.0.0 }, d.0.1) it d.2) (all, record { named = name.1; schema = schema.1 })

pub map_again : (map : TableMap) (rest : List ℕ) → IsMap map → map_at (map_spelling map ++ rest) ≡ Some (map, rest)
unfolding map_at
map_again map rest is =
    ap map_at (append_assoc (counted map.table) (schema_spelling map.schema) rest)
    ∙ rw (name_again map.table (schema_spelling map.schema ++ rest) is.named, schema_again map.schema rest is.schema) refl
