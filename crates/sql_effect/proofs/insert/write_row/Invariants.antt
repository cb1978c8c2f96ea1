use Rattle.std.proofs.Common.{◌≡◌, take, map}
use Rattle.sql_effect.specs.Values.{literal_value}
use Rattle.sql_effect.proofs.insert.write_row.Given as goal

abbrev pub invariant-loop-literal : goal.invariant-loop-literal
invariant-loop-literal l = l.values.items ≡ map literal_value (take l.literal-index l.literals)
