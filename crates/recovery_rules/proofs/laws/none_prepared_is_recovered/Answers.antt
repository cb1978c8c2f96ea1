use Rattle.recovery_rules.proofs.RecoveryLemmas.{IsRecovered-none_prepared}
use Rattle.recovery_rules.proofs.laws.none_prepared_is_recovered.Goals as goal

pub returns : goal.returns
returns c = IsRecovered-none_prepared
