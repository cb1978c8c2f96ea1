use Rattle.sql_effect.proofs.ConditionLemmas.{not_says}
use Rattle.sql_effect.proofs.laws.truth_of_not.Goals as goal

pub returns : goal.returns
returns c = not_says
