use Rattle.sql_step.proofs.LawLemmas.{changes_allowed}
use Rattle.sql_step.proofs.laws.tables_are_allowed.Goals as goal

pub returns : goal.returns
returns c = changes_allowed
