use Rattle.std.proofs.Common.{arith}
use Rattle.page_format.proofs.ClaimLemmas.{claim_meets, claim_takes}
use Rattle.page_format.proofs.form.claim.Goals as goal

pub returns-then-contains-clause-refused : goal.returns-then-contains-clause-refused
returns-then-contains-clause-refused c =
    let found = c.if-contains.ensures.cases in
    claim_meets c.args.place c.args.len _ found.0 c.args.taken.now (omega arith) found.1 found.2

pub returns-clause-taken : goal.returns-clause-taken
returns-clause-taken c =
    claim_takes c.args.place c.args.len _ c.args.taken.now _ c.told-taken c.if-place-len-gt-PAGE_LEN.false (omega arith) c.if-contains.ensures.cases
    (c.fill.ensures.after (λ y h. h))
