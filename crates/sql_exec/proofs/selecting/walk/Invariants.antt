use Rattle.std.proofs.Common.{◌≡◌, ◌-◌, Some, Ok, length}
use Rattle.disk_model.specs.Object.{object}
use Rattle.engine_api.specs.Calls.{IsSame}
use Rattle.engine_api.specs.Live.{live_rows}
use Rattle.sql_exec.specs.CarriesOut.{CarriesOut}
use Rattle.sql_exec.specs.Selects.{HasFound}
use Rattle.sql_exec.proofs.selecting.walk.Given as goal

abbrev pub invariant-rows : goal.invariant-rows
invariant-rows g l =
    let was = goal.Engine-dyn g (object l.fn.engine) in
    let is = goal.Engine-dyn g (object l.engine) in
    record {
      same : IsSame (was.kind l.fn.engine.value) (is.kind l.engine.value) (was.reading l.fn.engine.value) (is.reading l.engine.value);
      runs :
          CarriesOut {T = Unit {0}} (was.kind l.fn.engine.value) (was.reading l.fn.engine.value) (Ok tt) (was.state l.fn.engine.value) (was.state l.fn.engine.value) (is.state l.engine.value) (is.holds l.engine.value)
          ((goal.Storage-dyn g l.fn.volume.now).disk l.fn.volume.now.1) ((goal.Storage-dyn g l.volume.now).disk l.volume.now.1);
      table : l.cursor.table ≡ Some l.asked.table.now;
      found : HasFound l.asked.columns.now l.asked.names.now l.asked.cond.now (live_rows l.asked.table.now (was.state l.fn.engine.value)) l.cursor.position l.found.items;
    }

abbrev pub decreases-rows : goal.decreases-rows
decreases-rows g l = length (live_rows l.asked.table.now ((goal.Engine-dyn g (object l.fn.engine)).state l.fn.engine.value)) - l.cursor.position
