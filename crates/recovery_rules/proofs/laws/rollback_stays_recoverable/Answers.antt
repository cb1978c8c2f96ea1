use Rattle.recovery_rules.proofs.RecoveryLemmas.{IsRecoverable-after_rollback}
use Rattle.recovery_rules.proofs.laws.rollback_stays_recoverable.Goals as goal

pub returns : goal.returns
returns c = IsRecoverable-after_rollback
