use Rattle.log_tables.proofs.FoldLemmas.{tables_after-append}
use Rattle.log_tables.proofs.laws.log_goes_on.Goals as goal

pub returns : goal.returns
returns c = tables_after-append
