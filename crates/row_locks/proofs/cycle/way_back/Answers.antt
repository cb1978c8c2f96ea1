use Rattle.std.proofs.Common.{◌∷◌, [], length, ap, arith, length-append}
use Rattle.row_locks.specs.Queues.{Locks, waits_for}
use Rattle.row_locks.proofs.BackLemmas.{on_way_more, way_short, way_done}
use Rattle.row_locks.proofs.cycle.way_back.Goals as goal

pub loop-next-smaller : goal.loop-next-smaller
loop-next-smaller c =
    let locks : Locks = record { granted = c.args.granted.now; waits = c.args.waits.now } in
    let reached = c.args.marks.now.reached.items in
    let way = c.loop-next.way.items in
    let new = c.push-in-Some.new.self.items in
    let next = c.in-Some.next in
    let on = on_way_more (waits_for locks) reached c.args.last c.args.start c.loop-next.at next way new c.in_ok-push-3.ensures.items c.in-Some.ensures.next c.loop-next.invariant in
    let most = way_short locks reached c.args.last c.args.start next new c.requires.sound.no_cycle on in
    omega (arith, most, ap length c.in_ok-push-3.ensures.items, length-append way (next ∷ []))

pub loop-next-preserved : goal.loop-next-preserved
loop-next-preserved c =
    let locks : Locks = record { granted = c.args.granted.now; waits = c.args.waits.now } in
    on_way_more (waits_for locks) c.args.marks.now.reached.items c.args.last c.args.start c.loop-next.at c.in-Some.next c.loop-next.way.items c.push-in-Some.new.self.items
    c.in_ok-push-3.ensures.items c.in-Some.ensures.next c.loop-next.invariant

pub returns : goal.returns
returns c = record {
  way =
      let locks : Locks = record { granted = c.args.granted.now; waits = c.args.waits.now } in
      way_done (waits_for locks) c.args.marks.now.reached.items c.args.last c.args.start c.loop-next.at c.loop-next.way.items c.in_default.ensures.next c.loop-next.invariant;
}
