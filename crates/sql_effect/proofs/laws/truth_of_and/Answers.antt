use Rattle.sql_effect.proofs.ConditionLemmas.{and_says}
use Rattle.sql_effect.proofs.laws.truth_of_and.Goals as goal

pub returns : goal.returns
returns c = and_says
