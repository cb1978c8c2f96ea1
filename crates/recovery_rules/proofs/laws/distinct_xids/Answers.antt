use Rattle.recovery_rules.proofs.DistinctLemmas.{IsDistinct-xids}
use Rattle.recovery_rules.proofs.laws.distinct_xids.Goals as goal

pub returns : goal.returns
returns c = IsDistinct-xids
