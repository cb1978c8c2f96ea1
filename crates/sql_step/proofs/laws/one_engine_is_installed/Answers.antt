use Rattle.sql_step.proofs.LawLemmas.{one_noted}
use Rattle.sql_step.proofs.laws.one_engine_is_installed.Goals as goal

pub returns : goal.returns
returns c = one_noted
