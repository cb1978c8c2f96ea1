use Rattle.std.proofs.Common.{◌≡◌, ◌-◌, All, Ok, length, take, drop}
use Rattle.disk_model.specs.Object.{object}
use Rattle.row_format.specs.Rows.{IsRow}
use Rattle.engine_api.specs.Calls.{IsSame}
use Rattle.sql_exec.specs.CarriesOut.{CarriesOut}
use Rattle.sql_exec.specs.Changes.{with_changes}
use Rattle.sql_exec.specs.Inserts.{inserts_of, puts_refusal, CanPutAll}
use Rattle.sql_exec.proofs.inserting.add_rows.Given as goal

abbrev pub invariant-loop-i : goal.invariant-loop-i
invariant-loop-i g l =
    let was = goal.Engine-dyn g (object l.fn.engine) in
    let is = goal.Engine-dyn g (object l.engine) in
    record {
      same : IsSame (was.kind l.fn.engine.value) (is.kind l.engine.value) (was.reading l.fn.engine.value) (is.reading l.engine.value);
      carries :
          CarriesOut {T = Unit {0}} (was.kind l.fn.engine.value) (was.reading l.fn.engine.value) (Ok tt) (with_changes l.txn (inserts_of l.table l.schema (take l.i l.rows)) (was.state l.fn.engine.value))
          (was.state l.fn.engine.value) (is.state l.engine.value) (is.holds l.engine.value) ((goal.Storage-dyn g l.fn.volume.now).disk l.fn.volume.now.1) ((goal.Storage-dyn g l.volume.now).disk l.volume.now.1);
      can : CanPutAll l.txn l.table l.schema (drop l.i l.rows) (is.state l.engine.value);
      fit : All (IsRow l.schema) (take l.i l.rows);
      refusal : puts_refusal l.table l.schema l.rows (was.state l.fn.engine.value) ≡ puts_refusal l.table l.schema (drop l.i l.rows) (is.state l.engine.value);
    }

abbrev pub decreases-loop-i : goal.decreases-loop-i
decreases-loop-i g l = length l.rows - l.i
