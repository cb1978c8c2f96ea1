use Rattle.std.proofs.Common.{◌≡◌, take}
use Rattle.row_locks.specs.Inside.{flags}
use Rattle.row_locks.proofs.marks.flags_of.Given as goal

abbrev pub invariant-loop-it : goal.invariant-loop-it
invariant-loop-it l = l.found.items ≡ flags l.reached (take l.it-index l.requests)
