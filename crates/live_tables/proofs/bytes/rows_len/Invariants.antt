use Rattle.std.proofs.Common.{length, ◌-◌, ◌+◌, ◌≡◌, ◌≤◌, ◌<◌, ◌^◌, drop}
use Rattle.std.specs.Prelude.{sum_by}
use Rattle.live_tables.specs.Bytes.{capped}
use Rattle.row_format.specs.Spelling.{row_image}
use Rattle.live_tables.proofs.bytes.rows_len.Given as goal

abbrev pub invariant-loop-i : goal.invariant-loop-i
invariant-loop-i l = record {
  within : l.i ≤ length l.rows;
  fits : l.sum < 2 ^ 64;
  so_far : capped (l.sum + sum_by (λ row. length (row_image row)) (drop l.i l.rows)) ≡ capped (sum_by (λ row. length (row_image row)) l.rows);
}

abbrev pub decreases-loop-i : goal.decreases-loop-i
decreases-loop-i l = length l.rows - l.i
