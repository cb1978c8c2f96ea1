use Rattle.std.proofs.Common.{◌∙◌, sym, subst}
use Rattle.row_locks.specs.Queues.{Locks, waits_for, with_wait}
use Rattle.row_locks.specs.Cycles.{IsLeastCycle}
use Rattle.row_locks.proofs.CloseLemmas.{closes_none, found_reaches, closes_some}
use Rattle.row_locks.proofs.cycle.least_cycle.Goals as goal

pub returns-in_default : goal.returns-in_default
returns-in_default c = record {
  least =
      let locks : Locks = record { granted = c.args.granted.now; waits = c.args.waits.now } in
      closes_none locks c.args.it.now c.in_ok-marks.marks.reached.items c.requires.idle c.in_ok-marks.ensures.reach (sym c.least_reached.ensures.least ∙ c.in_default.is);
}

pub way_back-requires-clause-reached : goal.way_back-requires-clause-reached
way_back-requires-clause-reached c =
    let locks : Locks = record { granted = c.args.granted.now; waits = c.args.waits.now } in
    found_reaches locks c.args.it.now c.in_ok-marks.marks.reached.items c.in-Some.start (sym c.least_reached.ensures.least ∙ c.in-Some.is)

pub returns : goal.returns
returns c = record {
  least =
      let locks : Locks = record { granted = c.args.granted.now; waits = c.args.waits.now } in
      subst (IsLeastCycle (waits_for (with_wait c.args.it.now locks)) c.args.it.now.owner) (sym c.new.ensures)
      (closes_some locks c.args.it.now c.in_ok-marks.marks.reached.items c.in_ok-way.way.items c.in-Some.start c.requires.sound c.requires.idle c.in_ok-marks.ensures.reach
      (sym c.least_reached.ensures.least ∙ c.in-Some.is) c.in_ok-way.ensures.way);
}
