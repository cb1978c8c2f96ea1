use Rattle.std.proofs.Common.{◌≡◌, ◌≤◌, ◌+◌, ◌*◌, length, take}
use Rattle.std.specs.List.{flat_map}
use Rattle.row_format.specs.Spelling.{column_spelling}
use Rattle.row_format.proofs.len.schema_len.Given as goal

abbrev pub invariant-loop-column : goal.invariant-loop-column
invariant-loop-column l = record {
  so_far : l.sum ≡ 2 + length (flat_map column_spelling (take l.column-index l.columns));
  small : l.sum ≤ 2 + 68 * l.column-index;
}
