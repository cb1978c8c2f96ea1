use Rattle.sql_exec.proofs.PlanningLemmas.{same_effect}
use Rattle.sql_exec.proofs.laws.same_effect_on_view.Goals as goal

pub returns : goal.returns
returns c = same_effect
