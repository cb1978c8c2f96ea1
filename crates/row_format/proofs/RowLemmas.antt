-- Rows: what was read is what was written, and what was written is read again.
use Rattle.std.proofs.Common.{take, drop, drop-cons, add-one, get_or, ◌≡◌, ℕ, ℤ, ◌+◌, ◌*◌, ◌/◌, ◌%◌, ◌^◌, ◌<◌, ◌≤◌, Bool, true, false, cond, List, [], ◌∷◌, ◌++◌, length, Option, Some, None, zero, suc, refl, sym, ap, subst, ◌∙◌, append_assoc, arith, inl, inr, FitsSigned}
use Rattle.std.specs.Prelude.{nat_le, ◌==◌, All}
use Rattle.std.specs.Int.{w16, w64, from_le_bytes, cast_signed, cast_unsigned}
use Rattle.std.specs.List.{flat_map}
use Rattle.std.proofs.lemmas.Bool.{eqb-true, eqb-false, eq-eqb, ne_eqb, cases_Bool, cond-true, cond-false}
use Rattle.std.proofs.lemmas.List.Elements.{All-nil, All-cons, All-head, All-tail}
use Rattle.std.proofs.lemmas.List.{take_all, drop_all}
use Rattle.std.proofs.lemmas.Nat.{pow_pos}
use Rattle.std.proofs.Math.Nat.{pow-succ'}
use Rattle.std.proofs.lemmas.Int.{of_z-to_z, to_z-of_z}
use Rattle.std.proofs.Math.Facts.{Fits-of_z, sfits_to_z}
use Rattle.frame_codec.specs.Bytes.{le16, le64}
use Rattle.frame_codec.proofs.FrameLemmas.{length-le16, length-le64}
use Rattle.sql_value.specs.declared.value.Value.{Value}
use Rattle.sql_value.specs.declared.value.Value.TheVariants.{Null, Int, Text}
use Rattle.row_format.specs.declared.schema.Kind.{Kind}
use Rattle.row_format.specs.declared.schema.Kind.TheVariants.{BigInt, VarChar}
use Rattle.row_format.specs.declared.schema.Column.{Column}
use Rattle.row_format.specs.declared.schema.Schema.{Schema}
use Rattle.sql_value.specs.declared.refusal.Refusal.{Refusal}
use Rattle.sql_value.specs.declared.refusal.Refusal.TheVariants.{ValueCount, ColumnNotNullable, DataTooLong}
use Rattle.row_format.specs.Schemas.{IsSchema}
use Rattle.row_format.specs.Rows.{int_refusal, text_refusal, value_refusal, first_of_two, values_refusal, row_refusal, IsInRange, IsRow}
use Rattle.row_format.specs.Spelling.{counted, null_bit, null_bits, bits_spelling, value_spelling, row_image}
use Rattle.row_format.specs.Reading.{◌>>=◌, where_so, byte_at, piece_at, counted_at, bits_at, int_at, filled_at, value_at, values_at, row_at}
use Rattle.row_format.proofs.PieceLemmas.{IsBytes, bind_some, some_is, where_some, where_true, Took, Took-then, byte_takes, piece_takes, piece_again, counted_takes, counted_again, le16_back, le64_back, le16_again, le64_again, le64_below}
use Rattle.row_format.proofs.SchemaLemmas.{allowed_parts}

pub int_takes : (bytes : List ℕ) (it : ℤ × List ℕ) → IsBytes bytes → int_at bytes ≡ Some it → Took bytes (le64 (cast_unsigned w64 it.0)) it.1 × FitsSigned w64 it.0
unfolding int_at
int_takes bytes it fits is =
    let b = bind_some (piece_at 8 bytes) (λ x. Some (cast_signed w64 (from_le_bytes w64 x.0), x.1)) it is in
    let piece = piece_takes 8 bytes b.0 fits b.1 in
    let small = le64_below b.0.0 piece.2 in
    let back : le64 (cast_unsigned w64 (cast_signed w64 (from_le_bytes w64 b.0.0))) ≡ b.0.0 =
    ap le64 (of_z-to_z w64 (from_le_bytes w64 b.0.0) small) ∙ le64_back b.0.0 piece.1 piece.2 in
    subst (λ (x : ℤ × List ℕ). Took bytes (le64 (cast_unsigned w64 x.0)) x.1 × FitsSigned w64 x.0) (some_is (cast_signed w64 (from_le_bytes w64 b.0.0), b.0.1) it b.2)
    (subst (λ (t : List ℕ). Took bytes t b.0.1) (sym back) piece.0, sfits_to_z (record { fits = small }))

pub int_again : (n : ℤ) (rest : List ℕ) → FitsSigned w64 n → int_at (le64 (cast_unsigned w64 n) ++ rest) ≡ Some (n, rest)
unfolding int_at
int_again n rest fits =
    rw (piece_again 8 (le64 (cast_unsigned w64 n)) rest (length-le64 _))
    (ap (λ (m : ℕ). Some (cast_signed w64 m, rest)) (le64_again (cast_unsigned w64 n) (Fits-of_z fits).fits) ∙ ap (λ (z : ℤ). Some (z, rest)) (to_z-of_z w64 n fits))

-- what a value that was read says
pub record IsValueOf (column : Column) (bit : ℕ) (value : Value) : Type 0 where
  pub bit_is : null_bit value ≡ bit
  pub taken : value_refusal column value ≡ None
  pub in_range : IsInRange value

filled_takes : (column : Column) (kind : Kind) (bytes : List ℕ) (it : Value × List ℕ) → column.kind ≡ kind → IsBytes bytes → filled_at kind bytes ≡ Some it → Took bytes (value_spelling it.0) it.1 × IsValueOf column 0 it.0
unfolding filled_at
filled_takes column BigInt bytes it kind_is fits is =
    let b = bind_some (int_at bytes) (λ x. Some (Int x.0, x.1)) it is in
    let took = int_takes bytes b.0 fits b.1 in
    subst (λ (x : Value × List ℕ). Took bytes (value_spelling x.0) x.1 × IsValueOf column 0 x.0) (some_is (Int b.0.0, b.0.1) it b.2)
    (took.0, record { bit_is = refl; taken = ap int_refusal kind_is; in_range = took.1 })
filled_takes column (VarChar n) bytes it kind_is fits is =
    let b = bind_some (counted_at bytes) (λ x. where_so (nat_le (length x.0) n) (Text x.0, x.1)) it is in
    let took = counted_takes bytes b.0 fits b.1 in
    let found = where_some (nat_le (length b.0.0) n) (Text b.0.0, b.0.1) it b.2 in
    subst (λ (x : Value × List ℕ). Took bytes (value_spelling x.0) x.1 × IsValueOf column 0 x.0) found.1
    (took.0, record { bit_is = refl; taken = ap (λ (k : Kind). text_refusal k (length b.0.0)) kind_is ∙ cond-true (nat_le (length b.0.0) n) None (Some DataTooLong) found.0; in_range = tt })

-- the bit as a number
abbrev pub bit_of : Bool → ℕ
bit_of is = cond is 1 0

pub value_takes : (column : Column) (is_null : Bool) (bytes : List ℕ) (it : Value × List ℕ) → IsBytes bytes → value_at column is_null bytes ≡ Some it
    → Took bytes (value_spelling it.0) it.1 × IsValueOf column (bit_of is_null) it.0
unfolding value_at
value_takes column true bytes it fits is =
    let found = where_some column.nullable (Null, bytes) it is in
    subst (λ (x : Value × List ℕ). Took bytes (value_spelling x.0) x.1 × IsValueOf column 1 x.0) found.1
    (record { takes = refl; rest_bytes = fits }, record { bit_is = refl; taken = cond-true column.nullable None (Some ColumnNotNullable) found.0; in_range = tt })
value_takes column false bytes it fits is = filled_takes column column.kind bytes it refl fits is

pub both_none : (a b : Option Refusal) → first_of_two a b ≡ None → (a ≡ None) × (b ≡ None)
both_none None b is = (refl, is)
both_none (Some it) b is = absurd cc

none_both : (a b : Option Refusal) → a ≡ None → b ≡ None → first_of_two a b ≡ None
none_both None b is_a is_b = is_b
none_both (Some it) b is_a is_b = absurd cc

number_again : (kind : Kind) (n : ℤ) (rest : List ℕ) → int_refusal kind ≡ None → FitsSigned w64 n → filled_at kind (le64 (cast_unsigned w64 n) ++ rest) ≡ Some (Int n, rest)
unfolding filled_at
number_again BigInt n rest taken fits = rw (int_again n rest fits) refl
number_again (VarChar m) n rest taken fits = absurd cc

pub text_within : (len n : ℕ) → text_refusal (VarChar n) len ≡ None → nat_le len n ≡ true
text_within len n taken = elim (cases_Bool (nat_le len n)) [
  | inl within ↦ within
  | inr past ↦ absurd (some_none (sym (cond-false (nat_le len n) None (Some DataTooLong) past) ∙ taken))
]
  where
    some_none : Some DataTooLong ≡ None → ⊥
    some_none e = cc

text_again : (kind : Kind) (text rest : List ℕ) → text_refusal kind (length text) ≡ None → filled_at kind (counted text ++ rest) ≡ Some (Text text, rest)
unfolding filled_at
text_again BigInt text rest taken = absurd cc
text_again (VarChar n) text rest taken = rw (counted_again text rest) (where_true (nat_le (length text) n) (Text text, rest) (text_within (length text) n taken))

null_allowed : (nullable : Bool) → cond nullable None (Some ColumnNotNullable) ≡ None → nullable ≡ true
null_allowed true is = refl
null_allowed false is = absurd cc

bit_true : (m : ℕ) → ((1 + 2 * m) % 2 == 1) ≡ true
bit_true m = eq-eqb _ _ (omega arith)

bit_false : (m : ℕ) → ((0 + 2 * m) % 2 == 1) ≡ false
bit_false m = ne_eqb _ _ (λ is. omega (arith, is))

pub value_again : (column : Column) (value : Value) (more : ℕ) (rest : List ℕ) → value_refusal column value ≡ None → IsInRange value
    → value_at column ((null_bit value + 2 * more) % 2 == 1) (value_spelling value ++ rest) ≡ Some (value, rest)
unfolding value_at
value_again column Null more rest taken fits = rw (bit_true more) (where_true column.nullable (Null, rest) (null_allowed column.nullable taken))
value_again column (Int n) more rest taken fits = rw (bit_false more) (number_again column.kind n rest taken fits)
value_again column (Text t) more rest taken fits = rw (bit_false more) (text_again column.kind t rest taken)

half : (value : Value) (more : ℕ) → (null_bit value + 2 * more) / 2 ≡ more
half Null more = omega arith
half (Int n) more = omega arith
half (Text t) more = omega arith

-- what values that were read say
pub record AreValuesOf (columns : List Column) (bits : ℕ) (row : List Value) : Type 0 where
  pub same_length : length row ≡ length columns
  pub bits_are : null_bits row ≡ bits
  pub taken : values_refusal columns row ≡ None
  pub in_range : All IsInRange row

bit_back : (bits : ℕ) → bit_of (bits % 2 == 1) + 2 * (bits / 2) ≡ bits
bit_back bits = elim (cases_Bool (bits % 2 == 1)) [
  | inl one ↦
      let at : bits % 2 ≡ 1 = eqb-true _ _ one in
      ap (λ (b : Bool). bit_of b + 2 * (bits / 2)) one ∙ omega (arith, at)
  | inr none ↦
      let not_one : bits % 2 ≡ 1 → ⊥ = eqb-false _ _ none in
      ap (λ (b : Bool). bit_of b + 2 * (bits / 2)) none ∙ omega (arith, not_one)
]

pub values_takes : (columns : List Column) (bits : ℕ) (bytes : List ℕ) (it : List Value × List ℕ) → IsBytes bytes → values_at columns bits bytes ≡ Some it
    → Took bytes (flat_map value_spelling it.0) it.1 × AreValuesOf columns bits it.0
unfolding values_at
values_takes [] bits bytes it fits is =
    let found = where_some (bits == 0) ([], bytes) it is in
    subst (λ (x : List Value × List ℕ). Took bytes (flat_map value_spelling x.0) x.1 × AreValuesOf [] bits x.0) found.1
    (record { takes = refl; rest_bytes = fits }, record { same_length = refl; bits_are = sym (eqb-true bits 0 found.0); taken = refl; in_range = All-nil IsInRange })
values_takes (column ∷ columns) bits bytes it fits is =
    let b = bind_some (value_at column (bits % 2 == 1) bytes) (λ first. values_at columns (bits / 2) first.1 >>= λ others. Some (first.0 ∷ others.0, others.1)) it is in
    let d = bind_some (values_at columns (bits / 2) b.0.1) (λ others. Some (b.0.0 ∷ others.0, others.1)) it b.2 in
    let first = value_takes column (bits % 2 == 1) bytes b.0 fits b.1 in
    let others = values_takes columns (bits / 2) b.0.1 d.0 first.0.rest_bytes d.1 in
    subst (λ (x : List Value × List ℕ). Took bytes (flat_map value_spelling x.0) x.1 × AreValuesOf (column ∷ columns) bits x.0) (some_is (b.0.0 ∷ d.0.0, d.0.1) it d.2) (
      Took-then bytes (value_spelling b.0.0) b.0.1 (flat_map value_spelling d.0.0) d.0.1 first.0 others.0,
      record {
        same_length = ap suc others.1.same_length;
        bits_are = ap (λ (n : ℕ). n + 2 * null_bits d.0.0) first.1.bit_is ∙ ap (λ (n : ℕ). bit_of (bits % 2 == 1) + 2 * n) others.1.bits_are ∙ bit_back bits;
        taken = none_both (value_refusal column b.0.0) (values_refusal columns d.0.0) first.1.taken others.1.taken;
        in_range = All-cons IsInRange b.0.0 d.0.0 first.1.in_range others.1.in_range;
      },
    )

pub values_again : (columns : List Column) (row : List Value) (rest : List ℕ) → length row ≡ length columns → values_refusal columns row ≡ None → All IsInRange row
    → values_at columns (null_bits row) (flat_map value_spelling row ++ rest) ≡ Some (row, rest)
unfolding values_at
values_again [] [] rest same taken fits = refl
values_again [] (value ∷ row) rest same taken fits = absurd (omega (arith, same))
values_again (column ∷ columns) [] rest same taken fits = absurd (omega (arith, same))
values_again (column ∷ columns) (value ∷ row) rest same taken fits =
    let parts = both_none (value_refusal column value) (values_refusal columns row) taken in
    ap (values_at (column ∷ columns) (null_bits (value ∷ row))) (append_assoc (value_spelling value) (flat_map value_spelling row) rest)
    ∙ rw (value_again column value (null_bits row) (flat_map value_spelling row ++ rest) parts.0 (All-head IsInRange value row fits), half value (null_bits row), values_again columns row rest (omega (arith, same)) parts.1 (All-tail IsInRange value row fits)) refl

pub bit_small : (value : Value) → null_bit value ≤ 1
bit_small Null = omega arith
bit_small (Int n) = omega arith
bit_small (Text t) = omega arith

-- the bits of a row are few
pub null_bits_below : (row : List Value) (n : ℕ) → length row ≤ n → null_bits row < 2 ^ n
null_bits_below [] n few = pow_pos n
null_bits_below (value ∷ row) zero few = absurd (omega (arith, few))
null_bits_below (value ∷ row) (suc n) few =
    let rest = null_bits_below row n (omega (arith, few)) in
    let double : 2 ^ suc n ≡ 2 * 2 ^ n = pow-succ' 2 n in
    omega (arith, rest, double, bit_small value)

pub bits_again : (row : List Value) (rest : List ℕ) → length row ≤ 16 → bits_at (length row) (bits_spelling row ++ rest) ≡ Some (null_bits row, rest)
unfolding bits_at
bits_again row rest few = elim (cases_Bool (nat_le (length row) 8)) [
  | inl one ↦ rw (one) refl
  | inr two ↦ rw (two, piece_again 2 (le16 (null_bits row)) rest (length-le16 _), le16_again (null_bits row) (null_bits_below row 16 few)) refl
]

pub bits_takes : (row : List Value) (bytes : List ℕ) (it : ℕ × List ℕ) → IsBytes bytes → bits_at (length row) bytes ≡ Some it → null_bits row ≡ it.0 → Took bytes (bits_spelling row) it.1
unfolding bits_at
bits_takes row bytes it fits is bits_are = elim (cases_Bool (nat_le (length row) 8)) [
  | inl one ↦
      let took = byte_takes bytes it fits (sym (cond-true (nat_le (length row) 8) (byte_at bytes) (piece_at 2 bytes >>= λ x. Some (from_le_bytes w16 x.0, x.1)) one) ∙ is) in
      subst (λ (t : List ℕ). Took bytes t it.1) (ap (λ (n : ℕ). n ∷ []) (sym bits_are) ∙ sym (cond-true (nat_le (length row) 8) (null_bits row ∷ []) (le16 (null_bits row)) one)) took.0
  | inr two ↦
      let b = bind_some (piece_at 2 bytes) (λ x. Some (from_le_bytes w16 x.0, x.1)) it (sym (cond-false (nat_le (length row) 8) (byte_at bytes) (piece_at 2 bytes >>= λ x. Some (from_le_bytes w16 x.0, x.1)) two) ∙ is) in
      let piece = piece_takes 2 bytes b.0 fits b.1 in
      let at = some_is (from_le_bytes w16 b.0.0, b.0.1) it b.2 in
      let number : null_bits row ≡ from_le_bytes w16 b.0.0 = bits_are ∙ sym (ap (λ (x : ℕ × List ℕ). x.0) at) in
      let text : b.0.0 ≡ bits_spelling row = sym (le16_back b.0.0 piece.1 piece.2) ∙ ap le16 (sym number) ∙ sym (cond-false (nat_le (length row) 8) (null_bits row ∷ []) (le16 (null_bits row)) two) in
      subst (λ (x : List ℕ). Took bytes (bits_spelling row) x) (ap (λ (x : ℕ × List ℕ). x.1) at) (subst (λ (t : List ℕ). Took bytes t b.0.1) text piece.0)
]

bits_rest : (n : ℕ) (all : List ℕ) (x : ℕ × List ℕ) → IsBytes all → bits_at n all ≡ Some x → IsBytes x.1
unfolding bits_at
bits_rest n all x ok at = elim (cases_Bool (nat_le n 8)) [
  | inl one ↦ (byte_takes all x ok (sym (cond-true (nat_le n 8) (byte_at all) (piece_at 2 all >>= λ y. Some (from_le_bytes w16 y.0, y.1)) one) ∙ at)).0.rest_bytes
  | inr two ↦
      let b = bind_some (piece_at 2 all) (λ y. Some (from_le_bytes w16 y.0, y.1)) x (sym (cond-false (nat_le n 8) (byte_at all) (piece_at 2 all >>= λ y. Some (from_le_bytes w16 y.0, y.1)) two) ∙ at) in
      subst (λ (t : List ℕ). IsBytes t) (ap (λ (y : ℕ × List ℕ). y.1) (some_is (from_le_bytes w16 b.0.0, b.0.1) x b.2)) (piece_takes 2 all b.0 ok b.1).0.rest_bytes
]

pub row_takes : (schema : Schema) (bytes : List ℕ) (it : List Value × List ℕ) → IsBytes bytes → row_at schema bytes ≡ Some it → Took bytes (row_image it.0) it.1 × IsRow schema it.0
unfolding row_at
row_takes schema bytes it fits is =
    let b = bind_some (bits_at (length schema.columns) bytes) (λ bits. values_at schema.columns bits.0 bits.1) it is in
    let rest_bytes : IsBytes b.0.1 = bits_rest (length schema.columns) bytes b.0 fits b.1 in
    let values = values_takes schema.columns b.0.0 b.0.1 it rest_bytes b.2 in
    let bits = bits_takes it.0 bytes b.0 fits (ap (λ (n : ℕ). bits_at n bytes) values.1.same_length ∙ b.1) values.1.bits_are in (
      Took-then bytes (bits_spelling it.0) b.0.1 (flat_map value_spelling it.0) it.1 bits values.0,
      record {
        passes = cond-true (length it.0 == length schema.columns) (values_refusal schema.columns it.0) (Some ValueCount) (eq-eqb _ _ values.1.same_length) ∙ values.1.taken;
        in_range = values.1.in_range;
      },
    )

-- a row that passes has a value for each column, and each of them is taken
pub row_parts : (schema : Schema) (row : List Value) → row_refusal schema row ≡ None → (length row ≡ length schema.columns) × (values_refusal schema.columns row ≡ None)
row_parts schema row is = elim (cases_Bool (length row == length schema.columns)) [
  | inl same ↦ (eqb-true _ _ same, sym (cond-true (length row == length schema.columns) (values_refusal schema.columns row) (Some ValueCount) same) ∙ is)
  | inr differs ↦ absurd (some_none (sym (cond-false (length row == length schema.columns) (values_refusal schema.columns row) (Some ValueCount) differs) ∙ is))
]
  where
    some_none : Some ValueCount ≡ None → ⊥
    some_none e = cc

pub row_again : (schema : Schema) (row : List Value) (rest : List ℕ) → IsSchema schema → IsRow schema row → row_at schema (row_image row ++ rest) ≡ Some (row, rest)
unfolding row_at
row_again schema row rest is fits =
    let parts = row_parts schema row fits.passes in
    let few = (allowed_parts schema.columns schema.key is.allowed).few in
    let bits : bits_at (length schema.columns) (bits_spelling row ++ (flat_map value_spelling row ++ rest)) ≡ Some (null_bits row, flat_map value_spelling row ++ rest) =
    ap (λ (n : ℕ). bits_at n (bits_spelling row ++ (flat_map value_spelling row ++ rest))) (sym parts.0) ∙ bits_again row (flat_map value_spelling row ++ rest) (omega (arith, parts.0, few)) in
    ap (row_at schema) (append_assoc (bits_spelling row) (flat_map value_spelling row) rest)
    ∙ rw bits (values_again schema.columns row rest parts.0 parts.1 fits.in_range)

-- a row whose values were all looked at and taken
pub passed_row : (schema : Schema) (row : List Value) (columns : List Column) (values : List Value) (i : ℕ) → columns ≡ schema.columns → values ≡ row → length values ≡ length columns → length columns ≤ i
    → values_refusal (drop i columns) (drop i values) ≡ values_refusal columns values → All IsInRange (take i values) → IsRow schema row
passed_row schema row columns values i columns_are values_are same past so_far in_range = record {
  passes = ap (λ (l : List Value). row_refusal schema l) (sym values_are) ∙ ap (λ (l : List Column). cond (length values == length l) (values_refusal l values) (Some ValueCount)) (sym columns_are)
      ∙ cond-true (length values == length columns) (values_refusal columns values) (Some ValueCount) (eq-eqb (length values) (length columns) same)
      ∙ sym so_far ∙ ap (λ (l : List Column). values_refusal l (drop i values)) (drop_all i columns past);
  in_range = subst (All IsInRange) (take_all i values (omega (arith, same, past)) ∙ values_are) in_range;
}

-- one value more was looked at and taken
pub refusal_next : (columns : List Column) (values : List Value) (i : ℕ) (column : Column) (value : Value) → i < length columns → length values ≡ length columns → column ≡ get_or columns i column → value ≡ get_or values i value
    → value_refusal column value ≡ None → values_refusal (drop (i + 1) columns) (drop (i + 1) values) ≡ values_refusal (drop i columns) (drop i values)
refusal_next columns values i column value within same at_column at_value taken =
    let split_columns : drop i columns ≡ column ∷ drop (i + 1) columns =
    drop-cons columns i column within ∙ ap (λ (x : Column). x ∷ drop (suc i) columns) (sym at_column) ∙ ap (λ (n : ℕ). column ∷ drop n columns) (sym (add-one i)) in
    let split_values : drop i values ≡ value ∷ drop (i + 1) values =
    drop-cons values i value (omega (arith, within, same)) ∙ ap (λ (x : Value). x ∷ drop (suc i) values) (sym at_value) ∙ ap (λ (n : ℕ). value ∷ drop n values) (sym (add-one i)) in
    sym (ap (λ (l : List Column). values_refusal l (drop i values)) split_columns ∙ ap (λ (l : List Value). values_refusal (column ∷ drop (i + 1) columns) l) split_values
    ∙ ap (λ (o : Option Refusal). first_of_two o (values_refusal (drop (i + 1) columns) (drop (i + 1) values))) taken)
