use Rattle.page_format.proofs.Claimed.{Claimed}
use Rattle.page_format.proofs.form.is_laid.Given as goal

-- the records of the slots below have taken their bytes
abbrev pub invariant-loop-slot : goal.invariant-loop-slot
invariant-loop-slot l = Claimed l.slot l.bytes l.taken
