use Rattle.std.proofs.Common.{◌∙◌, ◌++◌, take, sym}
use Rattle.row_locks.specs.Queues.{Locks, in_way, waits_for}
use Rattle.row_locks.proofs.NextLemmas.{waits_at, reached_has_place, next_found}
use Rattle.row_locks.proofs.cycle.next_of.Goals as goal

pub returns-in_default : goal.returns-in_default
returns-in_default c = record {
  next =
      let locks : Locks = record { granted = c.args.granted.now; waits = c.args.waits.now } in
      absurd (reached_has_place locks c.args.marks.now.reached.items c.args.last c.args.at c.requires.marks.reach c.requires.reached (sym c.place_of.ensures ∙ c.in_default.is));
}

pub returns-then-is_in_way : goal.returns-then-is_in_way
returns-then-is_in_way c = record {
  next =
      let locks : Locks = record { granted = c.args.granted.now; waits = c.args.waits.now } in
      let is = waits_at locks c.args.at c.in-Some.k c.index-waits-k.result c.requires.once (sym c.place_of.ensures ∙ c.in-Some.is) c.index-waits-k.is in
      is c.args.last ∙ sym c.is_in_way.ensures ∙ c.if-is_in_way.true;
}

pub returns : goal.returns
returns c = record {
  next =
      let locks : Locks = record { granted = c.args.granted.now; waits = c.args.waits.now } in
      let is = waits_at locks c.args.at c.in-Some.k c.index-waits-k.result c.requires.once (sym c.place_of.ensures ∙ c.in-Some.is) c.index-waits-k.is in
      next_found (waits_for locks) c.args.marks.now.reached.items (in_way (locks.granted ++ take c.in-Some.k locks.waits) c.index-waits-k.result) c.args.last c.args.at c.least_reached.result
      c.requires.marks.reach c.requires.reached (is c.args.last ∙ sym c.is_in_way.ensures ∙ c.if-is_in_way.false) is c.least_reached.ensures.least;
}
