use Rattle.std.proofs.Common.{length, ◌-◌, ◌+◌, ◌≡◌, ◌≤◌, ◌<◌, ◌^◌, drop}
use Rattle.std.specs.List.{flat_map}
use Rattle.row_format.specs.Schemas.{bits_len}
use Rattle.row_format.specs.Spelling.{value_spelling}
use Rattle.live_tables.specs.Bytes.{capped}
use Rattle.live_tables.proofs.bytes.row_len.Given as goal

abbrev pub invariant-loop-i : goal.invariant-loop-i
invariant-loop-i l = record {
  within : l.i ≤ length l.values;
  values_are : l.values ≡ l.row;
  fits : l.sum < 2 ^ 64;
  so_far : capped (l.sum + length (flat_map value_spelling (drop l.i l.values))) ≡ capped (bits_len (length l.values) + length (flat_map value_spelling l.values));
}

abbrev pub decreases-loop-i : goal.decreases-loop-i
decreases-loop-i l = length l.values - l.i
