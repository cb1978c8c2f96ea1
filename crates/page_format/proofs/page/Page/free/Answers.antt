use Rattle.std.proofs.Common.{arith}
use Rattle.page_format.proofs.SlotsLemmas.{length-slots_of}
use Rattle.page_format.proofs.page.Page.free.Goals as goal

pub overflow_sub-result-3 : goal.overflow_sub-result-3
overflow_sub-result-3 c = omega (arith, c.self.invariant.room, length-slots_of c.self.inside.bytes)

pub returns-clause-value : goal.returns-clause-value
returns-clause-value c = rw (← c.self.view_is) (omega (arith, c.self.invariant.room, length-slots_of c.self.inside.bytes))

pub returns-clause-whole : goal.returns-clause-whole
returns-clause-whole c = rw (← c.self.view_is) (omega (arith, c.self.invariant.room, length-slots_of c.self.inside.bytes))
