use Rattle.std.proofs.Common.{◌≡◌, ℕ, List, take, map}
use Rattle.sql_effect.specs.Values.{value_named}
use Rattle.sql_exec.proofs.columns.values_named.Given as goal

abbrev pub invariant-loop-name : goal.invariant-loop-name
invariant-loop-name l = l.values.items ≡ map (λ (name : List ℕ). value_named l.columns name l.row) (take l.name-index l.names)
