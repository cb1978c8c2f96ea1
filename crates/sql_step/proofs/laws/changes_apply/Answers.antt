use Rattle.sql_step.proofs.LawLemmas.{changes_own}
use Rattle.sql_step.proofs.laws.changes_apply.Goals as goal

pub returns : goal.returns
returns c = changes_own
