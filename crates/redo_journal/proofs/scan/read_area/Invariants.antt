use Rattle.std.proofs.Common.{◌+◌, ◌-◌, ◌*◌, ◌≤◌, ◌^◌, length}
use Rattle.disk_model.specs.Looking.{LooksOnly}
use Rattle.redo_journal.specs.Reading.{Follows}
use Rattle.redo_journal.proofs.ScanLemmas.{Reading}
use Rattle.redo_journal.proofs.scan.read_area.Given as goal

abbrev pub invariant-loop-scan : goal.invariant-loop-scan
invariant-loop-scan g l =
    let first = (goal.Storage-dyn g l.fn.volume.now).disk l.fn.volume.now.1 in
    record {
      looks : LooksOnly first ((goal.Storage-dyn g l.volume.now).disk l.volume.now.1);
      reading : Reading first l.file l.crc l.scan;
      follows : Follows l.index l.scan.records.items;
      small : length l.piece.items ≤ 2 ^ 32;
    }

abbrev pub decreases-loop-scan : goal.decreases-loop-scan
decreases-loop-scan g l = (2147483647 - l.scan.len) * 4294967297 + (4294967296 - length l.piece.items)
