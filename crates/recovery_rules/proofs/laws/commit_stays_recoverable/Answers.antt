use Rattle.recovery_rules.proofs.RecoveryLemmas.{IsRecoverable-after_commit}
use Rattle.recovery_rules.proofs.laws.commit_stays_recoverable.Goals as goal

pub returns : goal.returns
returns c = IsRecoverable-after_commit
