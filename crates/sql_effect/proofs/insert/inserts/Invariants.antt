use Rattle.std.proofs.Common.{◌≡◌, ◌++◌}
use Rattle.std.specs.Vec.Iter.{into_iter_items}
use Rattle.sql_effect.specs.Insert.{inserts}
use Rattle.sql_effect.proofs.insert.inserts.Given as goal

abbrev pub invariant-loop-row : goal.invariant-loop-row
invariant-loop-row l = record {
  so_far :
      l.changes.items ++ inserts (record { table = l.table; schema = l.schema }) (into_iter_items l.row-iterator) ≡ inserts (record { table = l.table; schema = l.schema }) l.fn.rows.items;
}
