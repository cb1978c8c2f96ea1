use Rattle.std.proofs.Common.{◌≡◌, ◌≤◌, ◌-◌, length, drop}
use Rattle.sql_plan.specs.Types.{terms_refusal, seen_behind}
use Rattle.sql_plan.proofs.types.check_terms.Given as goal

abbrev pub invariant-loop-i : goal.invariant-loop-i
invariant-loop-i l = record {
  within : l.i ≤ length l.terms;
  refusal : terms_refusal l.columns l.it (drop l.i l.terms) ≡ terms_refusal l.columns l.fn.seen l.terms;
  seen : seen_behind l.columns l.it (drop l.i l.terms) ≡ seen_behind l.columns l.fn.seen l.terms;
}

abbrev pub decreases-loop-i : goal.decreases-loop-i
decreases-loop-i l = length l.terms - l.i
