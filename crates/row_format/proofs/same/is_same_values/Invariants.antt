use Rattle.std.proofs.Common.{length, ◌-◌, ◌≡◌, ◌≤◌, drop}
use Rattle.std.specs.Cmp.Lexicographic.{pointwise}
use Rattle.sql_value.specs.Values.{same_value}
use Rattle.row_format.proofs.same.is_same_values.Given as goal

abbrev pub invariant-loop-i : goal.invariant-loop-i
invariant-loop-i l = record { within : l.i ≤ length l.a; same_length : length l.a ≡ length l.b; so_far : pointwise same_value (drop l.i l.a) (drop l.i l.b) ≡ pointwise same_value l.a l.b }

abbrev pub decreases-loop-i : goal.decreases-loop-i
decreases-loop-i l = length l.a - l.i
