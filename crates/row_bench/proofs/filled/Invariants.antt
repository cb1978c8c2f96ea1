use Rattle.std.proofs.Common.{◌≡◌, length}
use Rattle.row_bench.proofs.filled.Given as goal

-- a row for each key so far
abbrev pub invariant-loop-i : goal.invariant-loop-i
invariant-loop-i l = length l.table.rows ≡ l.i
