use Rattle.recovery_rules.proofs.RecoveryLemmas.{IsRecoverable-append}
use Rattle.recovery_rules.proofs.laws.append_stays_recoverable.Goals as goal

pub returns : goal.returns
returns c = IsRecoverable-append
