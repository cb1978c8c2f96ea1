use Rattle.std.proofs.Common.{◌<◌, length, arith}
use Rattle.row_locks.proofs.MarkLemmas.{flags_more}
use Rattle.row_locks.proofs.marks.flags_of.Goals as goal

pub loop-it-preserved : goal.loop-it-preserved
loop-it-preserved c =
    let lt : c.loop-it.it-index < length c.args.requests.now = omega arith in
    flags_more c.args.reached.now c.args.requests.now c.loop-it.it-index c.it-item.result c.loop-it.found.items c.push.new.self.items c.is_among.result
    lt c.it-item.is c.loop-it.invariant c.is_among.ensures c.in_ok-push.ensures.items
