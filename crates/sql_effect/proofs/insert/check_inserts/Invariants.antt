use Rattle.std.proofs.Common.{◌≡◌, ◌≤◌, ◌-◌, ◌+◌, ◌*◌, ◌++◌, All, length, take, drop}
use Rattle.row_format.specs.Rows.{IsRow}
use Rattle.sql_effect.specs.Insert.{inserts_refusal}
use Rattle.sql_effect.proofs.insert.check_inserts.Given as goal

abbrev pub invariant-loop-i : goal.invariant-loop-i
invariant-loop-i l = record {
  within : l.i ≤ length l.rows;
  room : l.held ≤ l.fn.live + 2000 * l.i;
  passed : All (IsRow l.schema) (take l.i l.rows);
  refusal : inserts_refusal l.keeps l.schema l.held (l.there ++ take l.i l.rows) (drop l.i l.rows) ≡ inserts_refusal l.keeps l.schema l.fn.live l.there l.rows;
}

abbrev pub decreases-loop-i : goal.decreases-loop-i
decreases-loop-i l = length l.rows - l.i
