use Rattle.std.proofs.Common.{◌≡◌, ◌≤◌, ◌-◌, length, drop}
use Rattle.sql_effect.specs.Select.{search_refusal}
use Rattle.sql_effect.proofs.select.check_search.Given as goal

abbrev pub invariant-loop-i : goal.invariant-loop-i
invariant-loop-i l = record {
  within : l.i ≤ length l.rows;
  refusal : search_refusal l.columns l.cond (drop l.i l.rows) ≡ search_refusal l.columns l.cond l.rows;
}

abbrev pub decreases-loop-i : goal.decreases-loop-i
decreases-loop-i l = length l.rows - l.i
