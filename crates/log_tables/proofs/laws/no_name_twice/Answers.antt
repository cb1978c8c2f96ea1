use Rattle.log_tables.proofs.FoldLemmas.{IsDictionary-tables_after}
use Rattle.log_tables.proofs.laws.no_name_twice.Goals as goal

pub returns : goal.returns
returns c = IsDictionary-tables_after
