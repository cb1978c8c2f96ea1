use Rattle.std.proofs.Common.{◌≡◌, take}
use Rattle.sql_plan.proofs.copies.ListOfAgain.again.Given as goal

abbrev pub invariant-loop-member : goal.invariant-loop-member
invariant-loop-member g l = l.copy ≡ take l.member-index l.self
