use Rattle.std.proofs.Common.{rules, ◌≡◌, ◌<◌, length}
use Rattle.row_store.proofs.TurnLemmas.{stayed}
use Rattle.row_store.proofs.edits.turn.Goals as goal

pub returns-else-j-i-clause-turns : goal.returns-else-j-i-clause-turns
returns-else-j-i-clause-turns c = λ ordered.
    let lt : c.args.i < length c.args.order.now.items = search rules in
    let same : c.in-Some.j ≡ c.args.i = search rules in
    stayed c.args.key c.args.slots.now c.args.i c.in-Some.j c.args.row.now c.args.order.now.items lt same (c.in-Some.ensures.found ordered)
