use Rattle.recovery_rules.proofs.RecoveryLemmas.{IsRecovered-nothing}
use Rattle.recovery_rules.proofs.laws.nothing_is_recovered.Goals as goal

pub returns : goal.returns
returns c = IsRecovered-nothing
