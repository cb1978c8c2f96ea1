use Rattle.recovery_rules.proofs.TrailsLemmas.{next-first}
use Rattle.recovery_rules.proofs.laws.next_is_first_prepared.Goals as goal

pub returns : goal.returns
returns c = next-first
