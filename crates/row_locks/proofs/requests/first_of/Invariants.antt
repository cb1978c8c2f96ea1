use Rattle.std.proofs.Common.{◌≡◌, drop}
use Rattle.row_locks.specs.Queues.{first, in_way}
use Rattle.row_locks.proofs.requests.first_of.Given as goal

abbrev pub invariant-loop-other : goal.invariant-loop-other
invariant-loop-other l = first (in_way l.before l.it) ≡ first (in_way (drop l.other-index l.before) l.it)
