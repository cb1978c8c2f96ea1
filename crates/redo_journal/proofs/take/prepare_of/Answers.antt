use Rattle.redo_journal.proofs.TakeLemmas.{some_is, none_is, only_prepare, prepare_no_list, prepare_more}
use Rattle.redo_journal.proofs.take.prepare_of.Goals as goal

pub returns-in_default-2-clause-none : goal.returns-in_default-2-clause-none
returns-in_default-2-clause-none c it =
    let front = c.in-Some.ensures.some in
    let none = none_is _ _ c.in_default-2.is c.in_ok-changes.ensures.none in
    only_prepare it _ (prepare_no_list _ _ _ front.0 front.1 none)

pub returns-then-len-rest-clause-none : goal.returns-then-len-rest-clause-none
returns-then-len-rest-clause-none c it =
    let front = c.in-Some.ensures.some in
    let found = some_is _ _ _ c.in-Some-2.is c.in_ok-changes.ensures.found in
    only_prepare it _ (prepare_more _ _ _ _ _ front.0 front.1 found.0 found.1 c.if-len-rest.true)
