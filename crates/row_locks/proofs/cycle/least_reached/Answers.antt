use Rattle.std.proofs.Common.{◌∙◌, ℕ, Option, take, filter, ap}
use Rattle.std.proofs.lemmas.List.{take-map}
use Rattle.row_locks.specs.declared.lock.Request.{Request}
use Rattle.row_locks.specs.Queues.{among, in_way}
use Rattle.row_locks.specs.Inside.{least_of}
use Rattle.row_locks.proofs.NextLemmas.{least_in_both}
use Rattle.row_locks.proofs.cycle.least_reached.Goals as goal

pub returns : goal.returns
returns c = record {
  least =
      let reached = c.args.marks.now.reached.items in
      let waits = c.args.waits.now in
      let it = c.args.it.now in
      let k = c.args.k in
      let locks = c.least_marked-best.ensures reached (c.deref.ensures.value ∙ c.requires.holding) in
      let first_waits = ap (take k) (c.deref-2.ensures.value ∙ c.requires.waiting) ∙ take-map (λ (r : Request). among r.owner reached) k waits in
      let rest = λ (o : Option ℕ). least_of o (filter (λ a. among a reached) (in_way (take k waits) it)) in
      c.least_marked.ensures reached first_waits ∙ ap rest locks ∙ least_in_both reached c.args.granted.now (take k waits) it;
}
