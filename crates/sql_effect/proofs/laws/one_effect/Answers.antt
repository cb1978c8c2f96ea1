use Rattle.sql_effect.proofs.TextLemmas.{one_effect}
use Rattle.sql_effect.proofs.laws.one_effect.Goals as goal

pub returns : goal.returns
returns c = one_effect
