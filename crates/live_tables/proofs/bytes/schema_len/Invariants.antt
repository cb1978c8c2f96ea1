use Rattle.std.proofs.Common.{length, ◌-◌, ◌+◌, ◌≡◌, ◌≤◌, ◌<◌, ◌^◌, drop}
use Rattle.std.specs.List.{flat_map}
use Rattle.row_format.specs.Spelling.{column_spelling}
use Rattle.live_tables.specs.Bytes.{capped}
use Rattle.live_tables.proofs.bytes.schema_len.Given as goal

abbrev pub invariant-loop-i : goal.invariant-loop-i
invariant-loop-i l = record {
  within : l.i ≤ length l.columns;
  columns_are : l.columns ≡ l.schema.columns;
  fits : l.sum < 2 ^ 64;
  so_far : capped (l.sum + length (flat_map column_spelling (drop l.i l.columns))) ≡ capped (2 + length (flat_map column_spelling l.columns));
}

abbrev pub decreases-loop-i : goal.decreases-loop-i
decreases-loop-i l = length l.columns - l.i
