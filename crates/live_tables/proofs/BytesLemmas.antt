-- Sums of bytes that stop at the greatest number.
use Rattle.std.proofs.Common.{◌≡◌, ℕ, ◌+◌, ◌<◌, ◌^◌, length, arith}
use Rattle.std.specs.List.{flat_map}
use Rattle.row_format.specs.declared.schema.Schema.{Schema}
use Rattle.row_format.specs.Spelling.{column_spelling, schema_spelling}
use Rattle.live_tables.specs.Bytes.{capped}

-- A sum to which nothing is to be added is the whole.
pub capped_end : (sum rest all : ℕ) → sum < 2 ^ 64 → rest ≡ 0 → capped (sum + rest) ≡ capped all → sum ≡ capped all
capped_end sum rest all fits none so_far = omega arith

-- A schema is the number of its columns, its key and the columns.
pub length-schema_spelling : (schema : Schema) → 2 + length (flat_map column_spelling schema.columns) ≡ length (schema_spelling schema)
length-schema_spelling schema = omega arith
