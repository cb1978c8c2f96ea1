use Rattle.sql_exec.proofs.PlanningLemmas.{same_refusal}
use Rattle.sql_exec.proofs.laws.same_refusal_on_view.Goals as goal

pub returns : goal.returns
returns c = same_refusal
