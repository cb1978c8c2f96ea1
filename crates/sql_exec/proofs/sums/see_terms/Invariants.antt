use Rattle.std.proofs.Common.{◌≡◌, ◌≤◌, ◌-◌, length, drop}
use Rattle.sql_effect.specs.Values.{terms_value}
use Rattle.sql_exec.specs.Seen.{value_seen}
use Rattle.sql_exec.proofs.sums.see_terms.Given as goal

abbrev pub invariant-loop-i : goal.invariant-loop-i
invariant-loop-i l = record {
  within : l.i ≤ length l.terms;
  value : terms_value l.columns l.row (value_seen l.so_far) (drop l.i l.terms) ≡ terms_value l.columns l.row (value_seen l.fn.first) l.terms;
}

abbrev pub decreases-loop-i : goal.decreases-loop-i
decreases-loop-i l = length l.terms - l.i
