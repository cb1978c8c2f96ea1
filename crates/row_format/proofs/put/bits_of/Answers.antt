use Rattle.std.proofs.Common.{◌≤◌, ◌<◌, ◌^◌, length, drop, arith}
use Rattle.std.proofs.lemmas.List.{length-drop}
use Rattle.row_format.specs.Spelling.{null_bits}
use Rattle.row_format.proofs.RowLemmas.{null_bits_below, bit_small}
use Rattle.row_format.proofs.put.bits_of.Goals as goal

pub overflow_mul-bits : goal.overflow_mul-bits
overflow_mul-bits c =
    let few : length (drop c.loop-i.i c.args.values.now) ≤ 15 = omega (arith, length-drop c.loop-i.i c.args.values.now) in
    let small : null_bits (drop c.loop-i.i c.args.values.now) < 2 ^ 15 = null_bits_below _ 15 few in
    omega (arith, small)

pub overflow_add-bits : goal.overflow_add-bits
overflow_add-bits c =
    let few : length (drop c.loop-i.i c.args.values.now) ≤ 15 = omega (arith, length-drop c.loop-i.i c.args.values.now) in
    let small : null_bits (drop c.loop-i.i c.args.values.now) < 2 ^ 15 = null_bits_below _ 15 few in
    let bit : c.bit_of.result ≤ 1 = omega (arith, c.bit_of.ensures, bit_small c.index-values-i.result) in
    omega (arith, small, bit)
