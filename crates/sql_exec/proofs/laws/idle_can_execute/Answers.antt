use Rattle.sql_exec.proofs.PlanningLemmas.{idle_can}
use Rattle.sql_exec.proofs.laws.idle_can_execute.Goals as goal

pub returns : goal.returns
returns c = idle_can
