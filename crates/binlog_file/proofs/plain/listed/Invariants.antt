use Rattle.std.proofs.Common.{length}
use Rattle.binlog_file.proofs.PlainLemmas.{Listing}
use Rattle.binlog_file.proofs.plain.listed.Given as goal

abbrev pub invariant-loop-list : goal.invariant-loop-list
invariant-loop-list l = Listing l.list.items l.at l.crc l.bytes l.rest

abbrev pub decreases-loop-list : goal.decreases-loop-list
decreases-loop-list l = length l.rest
