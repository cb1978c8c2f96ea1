use Rattle.sql_effect.proofs.ConditionLemmas.{cond_says}
use Rattle.sql_effect.proofs.laws.truth_of_steps.Goals as goal

pub returns : goal.returns
returns c = cond_says
