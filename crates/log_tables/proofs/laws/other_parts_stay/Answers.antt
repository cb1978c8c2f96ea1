use Rattle.log_tables.proofs.PartLemmas.{change-other}
use Rattle.log_tables.proofs.laws.other_parts_stay.Goals as goal

pub returns : goal.returns
returns c = change-other
