use Rattle.recovery_rules.proofs.RecoveryLemmas.{IsRecoverable-after_prepare}
use Rattle.recovery_rules.proofs.laws.prepare_stays_recoverable.Goals as goal

pub returns : goal.returns
returns c = IsRecoverable-after_prepare
