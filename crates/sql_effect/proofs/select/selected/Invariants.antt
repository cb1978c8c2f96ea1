use Rattle.std.proofs.Common.{◌≡◌, take}
use Rattle.sql_effect.specs.Select.{selected}
use Rattle.sql_effect.proofs.select.selected.Given as goal

abbrev pub invariant-loop-row : goal.invariant-loop-row
invariant-loop-row l = l.found.items ≡ selected l.columns l.names l.cond (take l.row-index l.rows)
