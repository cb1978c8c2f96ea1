use Rattle.redo_journal.proofs.OpenLemmas.{looks_safe, settle_safe}
use Rattle.redo_journal.proofs.open_journal.open_none.Goals as goal

pub returns-then-not-branch-clause-any_moment : goal.returns-then-not-branch-clause-any_moment
returns-then-not-branch-clause-any_moment g c = λ told read. looks_safe _ _ _ _ c.is_fresh.ensures.looks told

pub returns-in_err-settle_both-clause-any_moment : goal.returns-in_err-settle_both-clause-any_moment
returns-in_err-settle_both-clause-any_moment g c = λ told read. settle_safe _ _ _ _ _ _ c.is_fresh.ensures.looks c.settle_both.ensures told

pub returns-clause-any_moment : goal.returns-clause-any_moment
returns-clause-any_moment g c = λ told read. settle_safe _ _ _ _ _ _ c.is_fresh.ensures.looks c.settle_both.ensures told
