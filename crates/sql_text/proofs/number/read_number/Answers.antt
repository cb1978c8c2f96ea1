use Rattle.std.proofs.Common.{arith}
use Rattle.sql_text.proofs.NumberLemmas.{below_limit, room_for_digit}
use Rattle.sql_text.proofs.number.read_number.Goals as goal

pub overflow_mul-value : goal.overflow_mul-value
overflow_mul-value c =
    let room = room_for_digit _ _ c.loop-digit.invariant.1 (omega arith) in
    omega arith

pub overflow_add-value : goal.overflow_add-value
overflow_add-value c =
    let room = room_for_digit _ _ c.loop-digit.invariant.1 (omega arith) in
    omega arith

pub invariant_of-result : goal.invariant_of-result
invariant_of-result c = below_limit _ _ c.loop-digit.invariant.1 (omega arith)
