use Rattle.std.proofs.Common.{arith}
use Rattle.sql_effect.proofs.SizeLemmas.{more_bytes}
use Rattle.sql_effect.proofs.sizes.bytes_with.Goals as goal

pub overflow_sub-result : goal.overflow_sub-result
overflow_sub-result c = omega (arith, more_bytes c.args.changes.now, c.transaction_len.ensures.value 0)
