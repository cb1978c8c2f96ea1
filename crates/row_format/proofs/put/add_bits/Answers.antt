use Rattle.std.proofs.Common.{◌<◌, ◌^◌, arith}
use Rattle.row_format.specs.Spelling.{null_bits}
use Rattle.row_format.proofs.RowLemmas.{null_bits_below}
use Rattle.row_format.proofs.put.add_bits.Goals as goal

pub overflow_cast-bits : goal.overflow_cast-bits
overflow_cast-bits c =
    let small : null_bits c.args.values.now < 2 ^ 8 = null_bits_below c.args.values.now 8 (omega arith) in
    omega (arith, small, c.bits_of-bits.ensures)
