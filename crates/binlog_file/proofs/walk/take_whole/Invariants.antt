use Rattle.std.proofs.Common.{length}
use Rattle.binlog_file.proofs.WalkLemmas.{Walking}
use Rattle.binlog_file.proofs.walk.take_whole.Given as goal

abbrev pub invariant-loop-found : goal.invariant-loop-found
invariant-loop-found g l = Walking (g.V.Visit.stands l.fn.visit) (g.V.Visit.stands l.visit) l.fn.scan l.scan l.fn.bytes l.rest

abbrev pub decreases-loop-found : goal.decreases-loop-found
decreases-loop-found g l = length l.rest
