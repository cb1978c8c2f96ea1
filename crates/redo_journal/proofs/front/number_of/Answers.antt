-- Eight bytes are those of one number.
use Rattle.std.proofs.Common.{◌<◌, ◌^◌, ◌∙◌, length, ap, arith, rules}
use Rattle.frame_codec.proofs.FrameLemmas.{length-le64}
use Rattle.redo_journal.proofs.TakeLemmas.{number_is}
use Rattle.redo_journal.proofs.front.number_of.Goals as goal

pub returns-in_default-clause-none : goal.returns-in_default-clause-none
returns-in_default-clause-none c n is = omega (arith, c.in_default.ensures.cases, ap length is ∙ length-le64 n)

pub returns-then-bytes-ne-NUMBER_LEN-clause-none : goal.returns-then-bytes-ne-NUMBER_LEN-clause-none
returns-then-bytes-ne-NUMBER_LEN-clause-none c n is = omega (arith, ap length is ∙ length-le64 n)

pub returns-clause-some : goal.returns-clause-some
returns-clause-some c =
    let small : c.from_le_bytes.result < 2 ^ 64 = search rules in (
      number_is c.args.bytes.now c.in-Some.all.now c.from_le_bytes.result c.in-Some.ensures.cases.same (omega arith) (λ i. omega (arith, c.type_inv.bytes i)) c.from_le_bytes.ensures,
      small,
    )
