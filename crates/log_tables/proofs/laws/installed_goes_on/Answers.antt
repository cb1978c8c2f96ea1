use Rattle.log_tables.proofs.FoldLemmas.{installed_after-append}
use Rattle.log_tables.proofs.laws.installed_goes_on.Goals as goal

pub returns : goal.returns
returns c = installed_after-append
