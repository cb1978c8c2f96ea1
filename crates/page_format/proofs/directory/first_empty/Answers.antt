use Rattle.std.proofs.Common.{sym, ◌∙◌, arith}
use Rattle.page_format.proofs.LaidLemmas.{lowest_empty_is}
use Rattle.page_format.proofs.directory.first_empty.Goals as goal

pub returns-then-length_of-eq0-clause-value : goal.returns-then-length_of-eq0-clause-value
returns-then-length_of-eq0-clause-value c =
    sym (lowest_empty_is c.args.bytes.now c.loop-slot.slot c.requires (omega arith) c.loop-slot.invariant
    (λ _. sym c.length_of.ensures.value ∙ c.if-length_of-eq0.true))

pub returns-clause-value : goal.returns-clause-value
returns-clause-value c =
    sym (lowest_empty_is c.args.bytes.now c.count-slots.result c.requires (omega arith)
    (λ k h. c.loop-slot.invariant k (omega arith)) (λ there. absurd (omega arith)))
