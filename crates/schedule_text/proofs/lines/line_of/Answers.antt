use Rattle.schedule_text.proofs.WordLemmas.{word_line}
use Rattle.schedule_text.proofs.lines.line_of.Goals as goal

pub returns : goal.returns
returns c =
    word_line c.args.bytes.now c.without_return-line.result.now c.in-Some.rest.now c.in-Some.first.now c.word_of.result
    c.without_return-line.ensures c.in-Some.ensures.cases.0
    c.if-first-eq35.false c.if-first-eq64.false c.word_of.ensures
