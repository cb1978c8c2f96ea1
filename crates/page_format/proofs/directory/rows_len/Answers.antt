use Rattle.std.proofs.Common.{length, ◌∙◌, ap, arith}
use Rattle.std.proofs.lemmas.List.{take_all}
use Rattle.std.specs.Prelude.{sum_by}
use Rattle.page_format.specs.Kept.{slots_of}
use Rattle.page_format.proofs.SlotsLemmas.{length-slots_of}
use Rattle.page_format.proofs.LaidLemmas.{sum_more}
use Rattle.page_format.proofs.directory.rows_len.Goals as goal

pub loop-slot-preserved : goal.loop-slot-preserved
loop-slot-preserved c =
    let more = sum_more c.args.bytes.now c.loop-slot.slot c.requires (omega arith) in
    (omega (arith, more, c.loop-slot.invariant.0), omega arith)

pub returns-clause-value : goal.returns-clause-value
returns-clause-value c =
    let rows = slots_of c.args.bytes.now in
    c.loop-slot.invariant.0 ∙ ap (sum_by length) (take_all c.loop-slot.slot rows (omega (arith, length-slots_of c.args.bytes.now)))
