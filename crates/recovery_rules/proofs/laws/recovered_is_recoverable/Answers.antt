use Rattle.recovery_rules.proofs.RecoveryLemmas.{IsRecovered-recoverable}
use Rattle.recovery_rules.proofs.laws.recovered_is_recoverable.Goals as goal

pub returns : goal.returns
returns c = IsRecovered-recoverable
