use Rattle.std.proofs.Common.{◌≡◌, ◌≤◌, ◌-◌, length, drop, take}
use Rattle.std.specs.Prelude.{All}
use Rattle.sql_value.specs.Names.{IsName}
use Rattle.row_format.specs.Schemas.{are_distinct}
use Rattle.row_format.proofs.schema.are_different.Given as goal

abbrev pub invariant-loop-i : goal.invariant-loop-i
invariant-loop-i l = record {
  within : l.i ≤ length l.columns;
  so_far : are_distinct (drop l.i l.columns) ≡ are_distinct l.columns;
  named : All (λ it. IsName it.name) (take l.i l.columns);
}

abbrev pub decreases-loop-i : goal.decreases-loop-i
decreases-loop-i l = length l.columns - l.i
