-- What the public readers say: what stands at the front and how many bytes it has, or that nothing stands there.
use Rattle.std.proofs.Common.{◌≡◌, ℕ, ◌-◌, ◌≤◌, List, ◌++◌, length, drop, Option, Some, None, sym, ◌∙◌, ap, arith, length-append}
use Rattle.std.proofs.lemmas.List.{drop_at}
use Rattle.sql_value.specs.declared.value.Value.{Value}
use Rattle.row_format.specs.declared.schema.Schema.{Schema}
use Rattle.sql_value.specs.Names.{IsName}
use Rattle.row_format.specs.Schemas.{IsSchema}
use Rattle.row_format.specs.Rows.{IsRow}
use Rattle.row_format.specs.Spelling.{Takes, Begins, counted, schema_spelling, row_image}
use Rattle.row_format.specs.Reading.{name_at, schema_at, row_at}
use Rattle.row_format.specs.Absence.{NoName, NoSchema, NoRow}
use Rattle.row_format.proofs.PieceLemmas.{IsBytes, Took, name_takes, name_again}
use Rattle.row_format.proofs.SchemaLemmas.{schema_takes, schema_again}
use Rattle.row_format.proofs.RowLemmas.{row_takes, row_again}

-- how many bytes were read
pub took_length : (bytes text rest : List ℕ) → Took bytes text rest → length text ≡ length bytes - length rest
took_length bytes text rest took = omega (arith, ap length took.takes, length-append text rest)

pub took_within : (bytes text rest : List ℕ) → Took bytes text rest → length rest ≤ length bytes
took_within bytes text rest took = omega (arith, ap length took.takes, length-append text rest)

pub begins : (bytes text rest : List ℕ) (count : ℕ) → Took bytes text rest → count ≡ length bytes - length rest → Begins bytes text count
begins bytes text rest count took at =
    let len : length text ≡ count = took_length bytes text rest took ∙ sym at in
    let behind : drop count bytes ≡ rest = ap (drop count) took.takes ∙ drop_at text rest count len in
    record { takes = took.takes ∙ ap (λ (l : List ℕ). text ++ l) (sym behind); len = sym len }

pub nothing_read : {A : Type 0} (read : List ℕ → Option A) (bytes text rest : List ℕ) (it : A) → read bytes ≡ None → Takes bytes text rest → read (text ++ rest) ≡ Some it → ⊥
nothing_read read bytes text rest it none takes again = impossible (sym none ∙ ap read takes ∙ again)
  where
    impossible : None ≡ Some it → ⊥
    impossible e = cc

pub name_within : (bytes name rest : List ℕ) → IsBytes bytes → name_at bytes ≡ Some (name, rest) → length rest ≤ length bytes
name_within bytes name rest fits is = took_within bytes (counted name) rest (name_takes bytes (name, rest) fits is).0

pub name_found : (bytes name rest : List ℕ) (count : ℕ) → IsBytes bytes → name_at bytes ≡ Some (name, rest) → count ≡ length bytes - length rest → IsName name × Begins bytes (counted name) count
name_found bytes name rest count fits is at =
    let took = name_takes bytes (name, rest) fits is in
    (took.1, begins bytes (counted name) rest count took.0 at)

pub no_name : (bytes : List ℕ) → name_at bytes ≡ None → NoName bytes
no_name bytes none name rest named takes = nothing_read name_at bytes (counted name) rest (name, rest) none takes (name_again name rest named)

pub schema_within : (bytes : List ℕ) (schema : Schema) (rest : List ℕ) → IsBytes bytes → schema_at bytes ≡ Some (schema, rest) → length rest ≤ length bytes
schema_within bytes schema rest fits is = took_within bytes (schema_spelling schema) rest (schema_takes bytes (schema, rest) fits is).0

pub schema_found : (bytes : List ℕ) (schema : Schema) (rest : List ℕ) (count : ℕ) → IsBytes bytes → schema_at bytes ≡ Some (schema, rest) → count ≡ length bytes - length rest
    → IsSchema schema × Begins bytes (schema_spelling schema) count
schema_found bytes schema rest count fits is at =
    let took = schema_takes bytes (schema, rest) fits is in
    (took.1, begins bytes (schema_spelling schema) rest count took.0 at)

pub no_schema : (bytes : List ℕ) → schema_at bytes ≡ None → NoSchema bytes
no_schema bytes none schema rest is takes = nothing_read schema_at bytes (schema_spelling schema) rest (schema, rest) none takes (schema_again schema rest is)

pub row_within : (schema : Schema) (bytes : List ℕ) (row : List Value) (rest : List ℕ) → IsBytes bytes → row_at schema bytes ≡ Some (row, rest) → length rest ≤ length bytes
row_within schema bytes row rest fits is = took_within bytes (row_image row) rest (row_takes schema bytes (row, rest) fits is).0

pub row_found : (schema : Schema) (bytes : List ℕ) (row : List Value) (rest : List ℕ) (count : ℕ) → IsBytes bytes → row_at schema bytes ≡ Some (row, rest) → count ≡ length bytes - length rest
    → IsRow schema row × Begins bytes (row_image row) count
row_found schema bytes row rest count fits is at =
    let took = row_takes schema bytes (row, rest) fits is in
    (took.1, begins bytes (row_image row) rest count took.0 at)

pub no_row : (schema : Schema) (bytes : List ℕ) → IsSchema schema → row_at schema bytes ≡ None → NoRow schema bytes
no_row schema bytes fits none row rest is takes = nothing_read (row_at schema) bytes (row_image row) rest (row, rest) none takes (row_again schema row rest fits is)
