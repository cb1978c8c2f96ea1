use Rattle.row_locks.proofs.NextLemmas.{asked_first, asked_second}
use Rattle.row_locks.proofs.requests.is_in_way.Goals as goal

pub returns-then-has_one_of : goal.returns-then-has_one_of
returns-then-has_one_of c = asked_first c.args.owner c.args.granted.now c.args.waits.now c.args.it.now c.has_one_of.result c.has_one_of.ensures c.if-has_one_of.true

pub returns-else-has_one_of : goal.returns-else-has_one_of
returns-else-has_one_of c =
    asked_second c.args.owner c.args.granted.now c.args.waits.now c.args.it.now c.has_one_of.result c.has_one_of-else-has_one_of.result
    c.has_one_of.ensures c.if-has_one_of.false c.has_one_of-else-has_one_of.ensures
