use Rattle.std.proofs.Common.{◌≡◌, ◌≤◌, ◌+◌, ◌*◌, length, take}
use Rattle.std.specs.Prelude.{sum_by}
use Rattle.row_format.specs.Schemas.{greatest, bits_len}
use Rattle.row_format.proofs.schema.most_bytes.Given as goal

abbrev pub invariant-loop-column : goal.invariant-loop-column
invariant-loop-column l = record {
  so_far : l.sum ≡ bits_len (length l.columns) + sum_by (λ it. greatest it.kind) (take l.column-index l.columns);
  small : l.sum ≤ 2 + 256 * l.column-index;
}
