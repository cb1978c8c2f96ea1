use Rattle.recovery_rules.proofs.TrailsLemmas.{next-applies}
use Rattle.recovery_rules.proofs.laws.next_applies.Goals as goal

pub returns : goal.returns
returns c = next-applies
