use Rattle.std.proofs.Common.{◌≡◌, None}
use Rattle.sql_effect.specs.Select.{search_refusal, selected}
use Rattle.sql_exec.proofs.search.select_rows.Given as goal

abbrev pub invariant-loop-row : goal.invariant-loop-row
invariant-loop-row l = record {
  found : l.found.items ≡ selected l.columns l.names l.cond l.yielded;
  granted : search_refusal l.columns l.cond l.yielded ≡ None;
}
