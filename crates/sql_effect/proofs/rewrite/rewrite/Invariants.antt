use Rattle.std.proofs.Common.{◌≡◌, ◌≤◌, ◌-◌, ◌+◌, ◌*◌, [], length, drop}
use Rattle.row_format.specs.Changes.{AreFitChanges}
use Rattle.sql_effect.specs.Effects.{map_of}
use Rattle.sql_effect.specs.Rewrite.{comes_to, changes_from}
use Rattle.sql_effect.proofs.rewrite.rewrite.Given as goal

abbrev pub invariant-loop-i : goal.invariant-loop-i
invariant-loop-i l = record {
  within : l.i ≤ length l.rows;
  live : l.progress.live ≤ l.fn.live + 2000 * l.i;
  done : length l.progress.done.items ≤ l.i;
  fit : AreFitChanges l.progress.changes.items;
  so_far : comes_to (map_of l.table.definition) l.asks l.progress (drop l.i l.rows) ≡ changes_from (map_of l.table.definition) l.asks l.fn.live [] l.rows;
}

abbrev pub decreases-loop-i : goal.decreases-loop-i
decreases-loop-i l = length l.rows - l.i
