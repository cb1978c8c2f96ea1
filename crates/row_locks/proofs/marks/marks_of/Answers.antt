use Rattle.std.proofs.Common.{◌∙◌, ◌<◌, length, get_or, sym, ap, subst, arith}
use Rattle.row_locks.specs.Queues.{Locks, waits_for}
use Rattle.row_locks.specs.Cycles.{AreDistinct}
use Rattle.row_locks.specs.Inside.{flags, Adds}
use Rattle.row_locks.proofs.QueueLemmas.{length_owners}
use Rattle.row_locks.proofs.ReachLemmas.{reaching_more, reached_wait}
use Rattle.row_locks.proofs.marks.marks_of.Goals as goal

pub add-requires-clause-marks : goal.add-requires-clause-marks
add-requires-clause-marks c = record {
  distinct = subst AreDistinct (sym c.new.ensures.items) tt;
  told = c.in_ok-flags_of.ensures ∙ ap (λ l. flags l c.args.waits.now) (sym c.new.ensures.items);
}

pub loop-i-smaller : goal.loop-i-smaller
loop-i-smaller c =
    let locks : Locks = record { granted = c.args.granted.now; waits = c.args.waits.now } in
    let most = reached_wait locks c.args.owner c.loop-i.marks.reached.items c.loop-i.i c.loop-i.invariant.marks.distinct c.loop-i.invariant.reaching in
    omega (arith, most, length_owners c.args.waits.now)

pub loop-i-preserved : goal.loop-i-preserved
loop-i-preserved c =
    let locks : Locks = record { granted = c.args.granted.now; waits = c.args.waits.now } in
    let old = c.loop-i.marks.reached.items in
    let new = c.add-in-loop-i.new.self.reached.items in
    let lt : c.loop-i.i < length old = omega arith in
    let adds : Adds (λ a. waits_for locks a (get_or old c.loop-i.i c.index-next.result.now)) old new =
    subst (λ b. Adds (λ a. waits_for locks a b) old new) c.index-next.ensures c.in_ok-add-2.ensures.adds in
    record {
      marks = c.in_ok-add-2.ensures.marks;
      reaching = reaching_more (waits_for locks) c.args.owner old new c.loop-i.i c.index-next.result.now lt c.loop-i.invariant.reaching adds;
    }
