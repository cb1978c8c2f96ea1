-- How many bytes things have.
use Rattle.std.proofs.Common.{◌≡◌, ℕ, suc, ◌+◌, ◌*◌, ◌≤◌, ◌<◌, cond, List, [], ◌∷◌, ◌++◌, length, None, sym, ap, ◌∙◌, arith, inl, inr, length-append, get_or, drop, take, drop-cons, take-append-drop}
use Rattle.std.specs.Prelude.{nat_le, sum_by, All}
use Rattle.std.proofs.lemmas.List.Elements.{All-head, All-tail}
use Rattle.std.specs.List.{flat_map}
use Rattle.std.specs.Int.{w64, cast_unsigned}
use Rattle.std.proofs.lemmas.List.Concat.{flat_map-append}
use Rattle.std.proofs.lemmas.List.Sums.{sum_by-cons}
use Rattle.std.proofs.lemmas.Bool.{cases_Bool, leb-true, cond-true, cond-false}
use Rattle.frame_codec.specs.Bytes.{le16}
use Rattle.frame_codec.proofs.FrameLemmas.{length-le16, length-le64}
use Rattle.sql_value.specs.declared.value.Value.{Value}
use Rattle.sql_value.specs.declared.value.Value.TheVariants.{Null, Int, Text}
use Rattle.row_format.specs.declared.schema.Kind.{Kind}
use Rattle.row_format.specs.declared.schema.Kind.TheVariants.{BigInt, VarChar}
use Rattle.row_format.specs.declared.schema.Column.{Column}
use Rattle.row_format.specs.declared.schema.Schema.{Schema}
use Rattle.row_format.specs.Schemas.{bits_len, greatest, IsSchema}
use Rattle.row_format.specs.Rows.{int_refusal, text_refusal, value_refusal, values_refusal, IsRow}
use Rattle.row_format.specs.Spelling.{null_bits, bits_spelling, value_spelling, row_image, kind_spelling, column_spelling, IsShort, HasImage}
use Rattle.row_format.proofs.RowLemmas.{row_parts, both_none, text_within}
use Rattle.row_format.proofs.SchemaLemmas.{allowed_parts}

pub length-bits_spelling : (row : List Value) → length (bits_spelling row) ≡ bits_len (length row)
length-bits_spelling row = elim (cases_Bool (nat_le (length row) 8)) [
  | inl one ↦ ap length (cond-true (nat_le (length row) 8) (null_bits row ∷ []) (le16 (null_bits row)) one) ∙ sym (cond-true (nat_le (length row) 8) 1 2 one)
  | inr two ↦ ap length (cond-false (nat_le (length row) 8) (null_bits row ∷ []) (le16 (null_bits row)) two) ∙ length-le16 (null_bits row) ∙ sym (cond-false (nat_le (length row) 8) 1 2 two)
]

int_within : (kind : Kind) → int_refusal kind ≡ None → 8 ≤ greatest kind
int_within BigInt taken = omega arith
int_within (VarChar n) taken = absurd cc

text_small : (kind : Kind) (len : ℕ) → text_refusal kind len ≡ None → 1 + len ≤ greatest kind
text_small BigInt len taken = absurd cc
text_small (VarChar n) len taken = let le : len ≤ n = leb-true len n (text_within len n taken) in omega (arith, le)

value_within : (column : Column) (value : Value) → value_refusal column value ≡ None → length (value_spelling value) ≤ greatest column.kind
value_within column Null taken = omega arith
value_within column (Int n) taken = omega (arith, int_within column.kind taken, length-le64 (cast_unsigned w64 n))
value_within column (Text t) taken = omega (arith, text_small column.kind (length t) taken)

values_within : (columns : List Column) (row : List Value) → length row ≡ length columns → values_refusal columns row ≡ None → length (flat_map value_spelling row) ≤ sum_by (λ it. greatest it.kind) columns
values_within [] [] same taken = omega arith
values_within [] (value ∷ row) same taken = absurd (omega (arith, same))
values_within (column ∷ columns) [] same taken = absurd (omega (arith, same))
values_within (column ∷ columns) (value ∷ row) same taken =
    let parts = both_none (value_refusal column value) (values_refusal columns row) taken in
    omega (arith, length-append (value_spelling value) (flat_map value_spelling row), value_within column value parts.0, values_within columns row (omega (arith, same)) parts.1, sum_by-cons (λ (it : Column). greatest it.kind) column columns)

-- a row image has at most 2,000 bytes
pub image_within : (schema : Schema) (row : List Value) → IsSchema schema → IsRow schema row → length (row_image row) ≤ 2000
image_within schema row is fits =
    let parts = row_parts schema row fits.passes in
    let size = (allowed_parts schema.columns schema.key is.allowed).size in
    omega (arith, length-append (bits_spelling row) (flat_map value_spelling row), length-bits_spelling row, ap bits_len parts.0, values_within schema.columns row parts.0 parts.1, size)

short_within : (row : List Value) → All IsShort row → length (flat_map value_spelling row) ≤ 256 * length row
short_within [] short = omega arith
short_within (value ∷ row) short =
    omega (arith, length-append (value_spelling value) (flat_map value_spelling row), one_within value (All-head IsShort value row short), short_within row (All-tail IsShort value row short))
  where
    one_within : (value : Value) → IsShort value → length (value_spelling value) ≤ 256
    one_within Null is = omega arith
    one_within (Int n) is = omega (arith, length-le64 (cast_unsigned w64 n))
    one_within (Text t) is = omega (arith, is)

bits_small : (n : ℕ) → bits_len n ≤ 2
bits_small n = elim (cases_Bool (nat_le n 8)) [
  | inl one ↦ omega (arith, cond-true {A = ℕ} (nat_le n 8) 1 2 one)
  | inr two ↦ omega (arith, cond-false {A = ℕ} (nat_le n 8) 1 2 two)
]

-- the image of any row that has one
pub image_small : (row : List Value) → HasImage row → length (row_image row) ≤ 4098
image_small row has =
    omega (arith, length-append (bits_spelling row) (flat_map value_spelling row), length-bits_spelling row, bits_small (length row), short_within row has.short, has.few)

-- one value more of an image
pub image_more : (row : List Value) (i : ℕ) (value : Value) → i < length row → value ≡ get_or row i value
    → bits_len (length row) + length (flat_map value_spelling (take i row)) + length (value_spelling value) ≤ length (row_image row)
image_more row i value within at =
    let split : row ≡ take i row ++ value ∷ drop (suc i) row =
    sym (take-append-drop i row) ∙ ap (λ (l : List Value). take i row ++ l) (drop-cons row i value within ∙ ap (λ (v : Value). v ∷ drop (suc i) row) (sym at)) in
    let all = ap (λ (l : List Value). length (flat_map value_spelling l)) split ∙ ap length (flat_map-append value_spelling (take i row) (value ∷ drop (suc i) row)) in
    omega (
      arith,
      all,
      length-append (flat_map value_spelling (take i row)) (value_spelling value ++ flat_map value_spelling (drop (suc i) row)),
      length-append (value_spelling value) (flat_map value_spelling (drop (suc i) row)),
      length-append (bits_spelling row) (flat_map value_spelling row),
      length-bits_spelling row,
    )

pub length-row_image : (row : List Value) → length (row_image row) ≡ bits_len (length row) + length (flat_map value_spelling row)
length-row_image row = omega (arith, length-append (bits_spelling row) (flat_map value_spelling row), length-bits_spelling row)

pub length-column_spelling : (column : Column) → length (column_spelling column) ≡ length column.name + length (kind_spelling column.kind) + 2
length-column_spelling column = omega (arith, length-append (length column.name ∷ (column.name ++ kind_spelling column.kind)) (cond column.nullable 1 0 ∷ []), length-append column.name (kind_spelling column.kind))
