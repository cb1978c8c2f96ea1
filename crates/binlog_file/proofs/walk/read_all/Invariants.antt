use Rattle.std.proofs.Common.{◌+◌, ◌-◌, ◌*◌, ◌≤◌, ◌^◌, length}
use Rattle.disk_model.specs.Looking.{LooksOnly}
use Rattle.binlog_file.proofs.WalkLemmas.{Reading, Giving}
use Rattle.binlog_file.proofs.walk.read_all.Given as goal

abbrev pub invariant-loop-piece : goal.invariant-loop-piece
invariant-loop-piece g l =
    let start = (goal.Storage-dyn g l.fn.volume.now).disk l.fn.volume.now.1 in
    record {
      looks : LooksOnly start ((goal.Storage-dyn g l.volume.now).disk l.volume.now.1);
      reading : Reading (g.V.Visit.stands l.fn.visit) (g.V.Visit.stands l.visit) start l.scan;
      giving : Giving (g.V.Visit.stands l.fn.visit) (g.V.Visit.stands l.visit) l.scan;
      small : length l.piece.items ≤ 2 ^ 32;
    }

abbrev pub decreases-loop-piece : goal.decreases-loop-piece
decreases-loop-piece g l = (2147483647 - l.scan.len) * 4294967297 + (4294967296 - length l.piece.items)
