use Rattle.std.proofs.Common.{length}
use Rattle.binlog_file.proofs.CutOffLemmas.{Passed}
use Rattle.binlog_file.proofs.cut_off.needed.Given as goal

abbrev pub invariant-loop-frame : goal.invariant-loop-frame
invariant-loop-frame l = Passed l.prev l.fn.at l.fn.bytes l.rest l.end l.crc

abbrev pub decreases-loop-frame : goal.decreases-loop-frame
decreases-loop-frame l = length l.rest
