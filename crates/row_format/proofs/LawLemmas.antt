-- One spelling, and none a proper first part of another.
use Rattle.std.proofs.Common.{◌≡◌, ℕ, List, ◌++◌, Option, Some, sym, ◌∙◌, ap}
use Rattle.sql_value.specs.declared.value.Value.{Value}
use Rattle.row_format.specs.declared.schema.Schema.{Schema}
use Rattle.row_format.specs.Schemas.{IsSchema}
use Rattle.row_format.specs.Rows.{IsRow}
use Rattle.row_format.specs.Spelling.{counted, schema_spelling, row_image}
use Rattle.row_format.specs.Reading.{counted_at, schema_at, row_at}
use Rattle.row_format.proofs.PieceLemmas.{some_is, counted_again}
use Rattle.row_format.proofs.SchemaLemmas.{schema_again}
use Rattle.row_format.proofs.RowLemmas.{row_again}

-- what is read back from two spellings with one text is one
pub read_once : {A : Type 0} (read : List ℕ → Option (A × List ℕ)) (spelling : A → List ℕ) (a b : A) (x y : List ℕ)
    → read (spelling a ++ x) ≡ Some (a, x) → read (spelling b ++ y) ≡ Some (b, y) → spelling a ++ x ≡ spelling b ++ y → (a ≡ b) × (x ≡ y)
read_once {A} read spelling a b x y of_a of_b is =
    let both = some_is (a, x) (b, y) (sym of_a ∙ ap read is ∙ of_b) in
    (ap (λ (p : A × List ℕ). p.0) both, ap (λ (p : A × List ℕ). p.1) both)

pub one_name : (m n x y : List ℕ) → counted m ++ x ≡ counted n ++ y → (m ≡ n) × (x ≡ y)
one_name m n x y is = read_once counted_at counted m n x y (counted_again m x) (counted_again n y) is

pub one_schema : (s t : Schema) (x y : List ℕ) → IsSchema s → IsSchema t → schema_spelling s ++ x ≡ schema_spelling t ++ y → (s ≡ t) × (x ≡ y)
one_schema s t x y fits_s fits_t is = read_once schema_at schema_spelling s t x y (schema_again s x fits_s) (schema_again t y fits_t) is

pub one_row : (schema : Schema) (r s : List Value) (x y : List ℕ) → IsSchema schema → IsRow schema r → IsRow schema s → row_image r ++ x ≡ row_image s ++ y → (r ≡ s) × (x ≡ y)
one_row schema r s x y fits fits_r fits_s is = read_once (row_at schema) row_image r s x y (row_again schema r x fits fits_r) (row_again schema s y fits fits_s) is
