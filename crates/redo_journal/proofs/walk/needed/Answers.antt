use Rattle.std.proofs.Common.{⊎_elim}
use Rattle.redo_journal.proofs.WalkLemmas.{none_beyond, none_last}
use Rattle.redo_journal.proofs.walk.needed.Goals as goal

pub returns-then-size-rest-clause-none : goal.returns-then-size-rest-clause-none
returns-then-size-rest-clause-none c prev at none beyond last = ⊎_elim
    (λ is. none_last prev at c.args.rest.now beyond none (last is))
    (λ both. none_beyond prev at c.least_size-size.result c.args.rest.now none both.1 (λ event more here. c.least_size-size.ensures.exact both.1 prev at event more here) beyond)
    c.if-size-rest.either
