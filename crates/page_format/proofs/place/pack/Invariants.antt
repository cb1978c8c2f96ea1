use Rattle.page_format.proofs.Packing.{Packs}
use Rattle.page_format.proofs.place.pack.Given as goal

-- the records of the slots below are moved
abbrev pub invariant-loop-slot : goal.invariant-loop-slot
invariant-loop-slot l = Packs l.slot l.low l.old l.bytes
