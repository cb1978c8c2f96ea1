-- A row that a schema takes has an image.
use Rattle.std.proofs.Common.{◌≡◌, ℕ, ◌≤◌, true, List, [], ◌∷◌, length, None, arith}
use Rattle.std.specs.Prelude.{nat_le, All}
use Rattle.std.specs.List.{list_all}
use Rattle.std.proofs.lemmas.Bool.{leb-true, and_parts}
use Rattle.std.proofs.lemmas.List.Elements.{All-nil, All-cons}
use Rattle.sql_value.specs.declared.value.Value.{Value}
use Rattle.sql_value.specs.declared.value.Value.TheVariants.{Null, Int, Text}
use Rattle.row_format.specs.declared.schema.Kind.{Kind}
use Rattle.row_format.specs.declared.schema.Kind.TheVariants.{BigInt, VarChar}
use Rattle.row_format.specs.declared.schema.Column.{Column}
use Rattle.row_format.specs.declared.schema.Schema.{Schema}
use Rattle.row_format.specs.Schemas.{is_roomy, has_room, IsSchema}
use Rattle.row_format.specs.Rows.{text_refusal, value_refusal, values_refusal, IsRow}
use Rattle.row_format.specs.Spelling.{IsShort, HasImage}
use Rattle.row_format.proofs.SchemaLemmas.{allowed_parts}
use Rattle.row_format.proofs.RowLemmas.{both_none, text_within, row_parts}

short_text : (kind : Kind) (t : List ℕ) → is_roomy kind ≡ true → text_refusal kind (length t) ≡ None → length t ≤ 255
short_text BigInt t room taken = absurd cc
short_text (VarChar n) t room taken =
    let most = leb-true n 255 (and_parts (nat_le 1 n) (nat_le n 255) room).1 in
    let within = leb-true (length t) n (text_within (length t) n taken) in
    omega arith

value_short : (column : Column) (value : Value) → has_room column ≡ true → value_refusal column value ≡ None → IsShort value
value_short column Null room taken = tt
value_short column (Int n) room taken = tt
value_short column (Text t) room taken = short_text column.kind t room taken

values_short : (columns : List Column) (row : List Value) → length row ≡ length columns → list_all has_room columns ≡ true → values_refusal columns row ≡ None → All IsShort row
values_short [] [] same room taken = All-nil IsShort
values_short [] (value ∷ row) same room taken = absurd (omega (arith, same))
values_short (column ∷ columns) [] same room taken = absurd (omega (arith, same))
values_short (column ∷ columns) (value ∷ row) same room taken =
    let rooms = and_parts (has_room column) (list_all has_room columns) room in
    let parts = both_none (value_refusal column value) (values_refusal columns row) taken in
    All-cons IsShort value row (value_short column value rooms.0 parts.0) (values_short columns row (omega (arith, same)) rooms.1 parts.1)

-- the row has at most as many values as a schema has columns, and its texts have at most as many bytes as a column has room for
pub has_image : (schema : Schema) (row : List Value) → IsSchema schema → IsRow schema row → HasImage row
has_image schema row is fits =
    let parts = row_parts schema row fits.passes in
    let allowed = allowed_parts schema.columns schema.key is.allowed in
    record { few = omega (arith, parts.0, allowed.few); short = values_short schema.columns row parts.0 allowed.room parts.1 }
