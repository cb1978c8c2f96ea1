use Rattle.sql_effect.proofs.OrderLemmas.{insert_goes_on}
use Rattle.sql_effect.proofs.laws.insert_goes_on.Goals as goal

pub returns : goal.returns
returns c = insert_goes_on
