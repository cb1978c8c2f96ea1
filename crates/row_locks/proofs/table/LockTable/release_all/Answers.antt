use Rattle.std.proofs.Common.{◌∙◌, ◌+◌, ◌-◌, length, sym, ap, arith}
use Rattle.row_locks.specs.Queues.{Locks, others}
use Rattle.row_locks.proofs.SettleLemmas.{IsLeft, left_behind}
use Rattle.row_locks.proofs.table.LockTable.release_all.Goals as goal
use Rattle.row_locks.proofs.table.LockTable.release_all.Goals.{After-len}

left : (c : After-len) → IsLeft c.args.owner (record { granted = c.self.inside.granted.items; waits = c.self.inside.waits.items }) (length c.take_away-2.new.requests.items)
    c.settle.new.granted.items c.settle.new.waits.items
left c =
    let locks : Locks = record { granted = c.self.inside.granted.items; waits = c.self.inside.waits.items } in
    left_behind c.args.owner locks c.take_away.new.requests.items c.take_away-2.new.requests.items c.settle.new.granted.items c.settle.new.waits.items c.ranges.owner.fits
    c.self.invariant.0 c.self.invariant.1 c.take_away.ensures.items c.take_away-2.ensures.items c.settle.ensures.settled

pub overflow_sub-result : goal.overflow_sub-result
overflow_sub-result c = omega (arith, (left c).fewer, c.len.ensures, c.len-waits.ensures)

pub overflow_cast-result : goal.overflow_cast-result
overflow_cast-result c = omega (arith, (left c).few, c.len.ensures, c.len-waits.ensures)

pub invariant_of-self : goal.invariant_of-self
invariant_of-self c = ((left c).sound, (left c).fits, c.settle.ensures.room)

pub returns-clause-granted : goal.returns-clause-granted
returns-clause-granted c =
    ap (λ (l : Locks). length (others c.args.owner l.granted) + (c.len-waits.result - c.len.result)) (sym c.self.view_is)
    ∙ omega (arith, (left c).count, c.len.ensures, c.len-waits.ensures)

pub returns-clause-sound : goal.returns-clause-sound
returns-clause-sound c = (left c).sound
