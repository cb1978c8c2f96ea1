use Rattle.recovery_rules.proofs.RecoveryLemmas.{IsRecoverable-cut}
use Rattle.recovery_rules.proofs.laws.cut_stays_recoverable.Goals as goal

pub returns : goal.returns
returns c = IsRecoverable-cut
