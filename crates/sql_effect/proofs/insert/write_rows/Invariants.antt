use Rattle.std.proofs.Common.{◌≡◌, take}
use Rattle.sql_effect.specs.Insert.{written}
use Rattle.sql_effect.proofs.insert.write_rows.Given as goal

abbrev pub invariant-loop-row : goal.invariant-loop-row
invariant-loop-row l = l.made.items ≡ written (take l.row-index l.rows)
