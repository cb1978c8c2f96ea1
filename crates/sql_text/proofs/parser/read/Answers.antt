use Rattle.std.proofs.lemmas.List.{take_rest}
use Rattle.sql_text.proofs.ReadingLemmas.{kept}
use Rattle.sql_text.proofs.parser.read.Goals as goal

pub loop-rest-preserved : goal.loop-rest-preserved
loop-rest-preserved c =
    let rest = c.loop-rest.rest.now in
    let k = kept c.loop-rest.reading c.in-Ok.next c.token-item.result rest _ c.in-len1-up.len_at_least c.token-item.is c.in-Ok.ensures c.loop-rest.invariant.0 c.loop-rest.invariant.1 in
    (rw (take_rest rest 1) k.0, rw (take_rest rest 1) k.1)
