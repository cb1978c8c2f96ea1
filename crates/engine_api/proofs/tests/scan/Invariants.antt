use Rattle.std.proofs.Common.{IsTrue}
use Rattle.disk_model.specs.Object.{object}
use Rattle.engine_api.specs.Reads.{files_in}
use Rattle.engine_api.specs.Scans.{IsOnLive}
use Rattle.engine_api.proofs.tests.scan.Given as goal

abbrev pub invariant-loop-key : goal.invariant-loop-key
invariant-loop-key g l =
    let it = goal.Engine-dyn g (object l.engine) in
    let disk = (goal.Storage-dyn g l.volume.now).disk l.volume.now.1 in
    record {
      begun : IsOnLive l.cursor.table (it.state l.engine.value);
      holds : IsTrue disk.told → it.holds l.engine.value (files_in (it.kind l.engine.value).files disk);
    }
