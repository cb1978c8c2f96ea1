use Rattle.std.proofs.Common.{arith}
use Rattle.page_format.proofs.LaidLemmas.{lowest_more}
use Rattle.page_format.proofs.directory.lowest.Goals as goal
use Rattle.page_format.proofs.directory.lowest.Goals.{then-length_of-ne0, else-length_of-ne0}

pub loop-slot-preserved : goal.loop-slot-preserved
loop-slot-preserved c =
    let bytes = c.args.bytes.now in
    elim c.if-length_of-ne0.branch [
      | then-length_of-ne0 w ↦
          (omega arith, lowest_more bytes c.loop-slot.slot c.loop-slot.low c.if-length_of-ne0.low c.loop-slot.invariant.1 (omega arith) (λ _. omega arith))
      | else-length_of-ne0 w ↦
          (omega arith, lowest_more bytes c.loop-slot.slot c.loop-slot.low c.if-length_of-ne0.low c.loop-slot.invariant.1 (omega arith) (λ some. absurd (omega arith)))
    ]

pub returns-clause-above : goal.returns-clause-above
returns-clause-above c = record { above = λ slot at there of. c.loop-slot.invariant.1 slot at (omega arith) of }
