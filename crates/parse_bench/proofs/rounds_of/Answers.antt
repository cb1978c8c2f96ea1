-- A quotient times its divisor is no more than what was divided.
use Rattle.std.proofs.Common.{arith, ◌/◌, le_trans, div-mul-le_self}
use Rattle.std.proofs.lemmas.Nat.{mul-le}
use Rattle.parse_bench.proofs.rounds_of.Goals as goal

pub returns-clause-bytes : goal.returns-clause-bytes
returns-clause-bytes c =
    let q = 16777216 / c.max.result in
    le_trans (mul-le c.min.result c.args.len q c.max.result (omega (arith, c.min.ensures)) (omega (arith, c.max.ensures))) (div-mul-le_self 16777216 c.max.result)
