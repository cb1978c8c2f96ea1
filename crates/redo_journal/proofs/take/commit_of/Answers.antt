use Rattle.redo_journal.proofs.TakeLemmas.{only_commit, commit_no_number}
use Rattle.redo_journal.proofs.take.commit_of.Goals as goal

pub returns-in-None-clause-none : goal.returns-in-None-clause-none
returns-in-None-clause-none c it =
    let front = c.in-Some.ensures.some in
    only_commit it _ (commit_no_number _ _ _ front.0 front.1 c.in-None.ensures.none)
