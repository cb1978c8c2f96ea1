-- The test of two table maps tells that they are one.
use Rattle.std.proofs.Common.{◌≡◌, ℕ, List, [], ◌∷◌, Some, None, Bool, true, false, refl, ap, ◌∙◌}
use Rattle.std.specs.Prelude.{Option, ◌&&◌}
use Rattle.std.specs.Str.{bytes_eq}
use Rattle.std.specs.Cmp.Lexicographic.{pointwise}
use Rattle.std.proofs.lemmas.Bool.{eqb-true, eq-eqb, and_parts, and_from}
use Rattle.std.proofs.lemmas.Slice.Eq.{bytes_eq-Decides}
use Rattle.sql_value.specs.declared.value.Value.{Value}
use Rattle.sql_value.specs.Values.{same_value}
use Rattle.sql_value.proofs.SameLemmas.{same_value-true, same_value_refl}
use Rattle.row_format.specs.declared.schema.Kind.{Kind}
use Rattle.row_format.specs.declared.schema.Kind.TheVariants.{BigInt, VarChar}
use Rattle.row_format.specs.declared.schema.Column.{Column}
use Rattle.row_format.specs.declared.schema.Schema.{Schema}
use Rattle.row_format.specs.declared.change.TableMap.{TableMap}
use Rattle.row_format.specs.Rows.{same_row}
use Rattle.row_format.specs.Schemas.{same_kind, same_flag, same_key, same_column, same_schema, same_map}

pointwise_true : {X : Type 0} (E : X → X → Bool) → ((x y : X) → E x y ≡ true → x ≡ y) → (xs ys : List X) → pointwise E xs ys ≡ true → xs ≡ ys
pointwise_true E same [] [] h = refl
pointwise_true E same [] (y ∷ ys) h = cc
pointwise_true E same (x ∷ xs) [] h = cc
pointwise_true E same (x ∷ xs) (y ∷ ys) h =
    let both = and_parts (E x y) (pointwise E xs ys) h in
    ap (λ z. z ∷ xs) (same x y both.0) ∙ ap (λ zs. y ∷ zs) (pointwise_true E same xs ys both.1)

pointwise_refl : {X : Type 0} (E : X → X → Bool) → ((x : X) → E x x ≡ true) → (xs : List X) → pointwise E xs xs ≡ true
pointwise_refl E same [] = refl
pointwise_refl E same (x ∷ xs) = and_from (E x x) (pointwise E xs xs) (same x) (pointwise_refl E same xs)

kind_true : (a b : Kind) → same_kind a b ≡ true → a ≡ b
kind_true BigInt BigInt h = refl
kind_true (VarChar m) (VarChar n) h = ap VarChar (eqb-true m n h)
kind_true BigInt (VarChar n) h = cc
kind_true (VarChar m) BigInt h = cc

kind_refl : (a : Kind) → same_kind a a ≡ true
kind_refl BigInt = refl
kind_refl (VarChar n) = eq-eqb n n refl

flag_true : (a b : Bool) → same_flag a b ≡ true → a ≡ b
flag_true true true h = refl
flag_true false false h = refl
flag_true true false h = cc
flag_true false true h = cc

flag_refl : (a : Bool) → same_flag a a ≡ true
flag_refl true = refl
flag_refl false = refl

key_true : (a b : Option ℕ) → same_key a b ≡ true → a ≡ b
key_true None None h = refl
key_true (Some a) (Some b) h = ap Some (eqb-true a b h)
key_true None (Some b) h = cc
key_true (Some a) None h = cc

key_refl : (a : Option ℕ) → same_key a a ≡ true
key_refl None = refl
key_refl (Some n) = eq-eqb n n refl

column_true : (a b : Column) → same_column a b ≡ true → a ≡ b
column_true a b h =
    let last = and_parts (bytes_eq a.name b.name && same_kind a.kind b.kind) (same_flag a.nullable b.nullable) h in
    let first = and_parts (bytes_eq a.name b.name) (same_kind a.kind b.kind) last.0 in
    ap (λ n. record { name = n; kind = a.kind; nullable = a.nullable }) ((bytes_eq-Decides a.name b.name).0 first.0)
    ∙ ap (λ k. record { name = b.name; kind = k; nullable = a.nullable }) (kind_true a.kind b.kind first.1)
    ∙ ap (λ f. record { name = b.name; kind = b.kind; nullable = f }) (flag_true a.nullable b.nullable last.1)

bytes_refl : (a : List ℕ) → bytes_eq a a ≡ true
bytes_refl a = (bytes_eq-Decides a a).1 refl

column_refl : (a : Column) → same_column a a ≡ true
column_refl a = and_from (bytes_eq a.name a.name && same_kind a.kind a.kind) (same_flag a.nullable a.nullable) (and_from (bytes_eq a.name a.name) (same_kind a.kind a.kind) (bytes_refl a.name) (kind_refl a.kind)) (flag_refl a.nullable)

pub same_schema-true : (a b : Schema) → same_schema a b ≡ true → a ≡ b
same_schema-true a b h =
    let both = and_parts (pointwise same_column a.columns b.columns) (same_key a.key b.key) h in
    ap (λ cs. record { columns = cs; key = a.key }) (pointwise_true same_column column_true a.columns b.columns both.0)
    ∙ ap (λ k. record { columns = b.columns; key = k }) (key_true a.key b.key both.1)

pub same_schema_refl : (a : Schema) → same_schema a a ≡ true
same_schema_refl a = and_from (pointwise same_column a.columns a.columns) (same_key a.key a.key) (pointwise_refl same_column column_refl a.columns) (key_refl a.key)

-- The test of two table maps tells that they are one.
pub same_map-true : (a b : TableMap) → same_map a b ≡ true → a ≡ b
same_map-true a b h =
    let both = and_parts (bytes_eq a.table b.table) (same_schema a.schema b.schema) h in
    ap (λ n. record { table = n; schema = a.schema }) ((bytes_eq-Decides a.table b.table).0 both.0)
    ∙ ap (λ s. record { table = b.table; schema = s }) (same_schema-true a.schema b.schema both.1)

pub same_map_refl : (a : TableMap) → same_map a a ≡ true
same_map_refl a = and_from (bytes_eq a.table a.table) (same_schema a.schema a.schema) (bytes_refl a.table) (same_schema_refl a.schema)

-- The test of two rows tells that they are one.
pub same_row-true : (a b : List Value) → same_row a b ≡ true → a ≡ b
same_row-true a b h = pointwise_true same_value same_value-true a b h

pub same_row_refl : (a : List Value) → same_row a a ≡ true
same_row_refl a = pointwise_refl same_value same_value_refl a
