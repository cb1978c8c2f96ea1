-- The size stands in the first 19 bytes.
use Rattle.std.proofs.Common.{arith}
use Rattle.binlog_file.proofs.CutOffLemmas.{size_told}
use Rattle.binlog_file.proofs.cut_off.least_size.Goals as goal

pub returns-in-Some-clause-least : goal.returns-in-Some-clause-least
returns-in-Some-clause-least c prev at event beyond here =
    let is = size_told prev at c.from_le_bytes.result c.args.bytes.now beyond c.in-Some.front.now event (omega (arith, c.in-Some.ensures.cases)) c.in-Some.ensures.cases.same c.from_le_bytes.ensures here in
    omega (arith, is)

pub returns-in-Some-clause-exact : goal.returns-in-Some-clause-exact
returns-in-Some-clause-exact c fits prev at event beyond here =
    size_told prev at c.from_le_bytes.result c.args.bytes.now beyond c.in-Some.front.now event (omega (arith, c.in-Some.ensures.cases)) c.in-Some.ensures.cases.same c.from_le_bytes.ensures here
