use Rattle.sql_effect.proofs.ConditionLemmas.{or_says}
use Rattle.sql_effect.proofs.laws.truth_of_or.Goals as goal

pub returns : goal.returns
returns c = or_says
