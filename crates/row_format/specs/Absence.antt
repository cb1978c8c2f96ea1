-- When does nothing of a kind stand at the front of some bytes?
use Rattle.std.specs.Prelude.{ℕ, List}
use Rattle.sql_value.specs.declared.value.Value.{Value}
use Rattle.row_format.specs.declared.schema.Schema.{Schema}
use Rattle.sql_value.specs.Names.{IsName}
use Rattle.row_format.specs.Schemas.{IsSchema}
use Rattle.row_format.specs.Rows.{IsRow}
use Rattle.row_format.specs.Spelling.{Takes, counted, schema_spelling, row_image}

-- no name stands at the front
abbrev pub NoName : List ℕ → Type 0
NoName bytes = (name rest : List ℕ) → IsName name → Takes bytes (counted name) rest → ⊥

-- no schema stands at the front
abbrev pub NoSchema : List ℕ → Type 0
NoSchema bytes = (schema : Schema) (rest : List ℕ) → IsSchema schema → Takes bytes (schema_spelling schema) rest → ⊥

-- no image of a row that the schema takes stands at the front
abbrev pub NoRow : Schema → List ℕ → Type 0
NoRow schema bytes = (row : List Value) (rest : List ℕ) → IsRow schema row → Takes bytes (row_image row) rest → ⊥
