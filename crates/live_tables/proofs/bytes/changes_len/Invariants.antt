use Rattle.std.proofs.Common.{length, ◌-◌, ◌+◌, ◌≡◌, ◌≤◌, ◌<◌, ◌^◌, drop}
use Rattle.std.specs.Prelude.{sum_by}
use Rattle.live_tables.specs.Bytes.{capped}
use Rattle.live_tables.specs.Folds.{change_bytes}
use Rattle.live_tables.proofs.bytes.changes_len.Given as goal

abbrev pub invariant-loop-i : goal.invariant-loop-i
invariant-loop-i l = record {
  within : l.i ≤ length l.changes;
  fits : l.sum < 2 ^ 64;
  so_far : capped (l.sum + sum_by change_bytes (drop l.i l.changes)) ≡ capped (sum_by change_bytes l.changes);
}

abbrev pub decreases-loop-i : goal.decreases-loop-i
decreases-loop-i l = length l.changes - l.i
