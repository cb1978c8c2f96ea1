use Rattle.log_tables.proofs.PartLemmas.{changes-part}
use Rattle.log_tables.proofs.laws.part_goes_on.Goals as goal

pub returns : goal.returns
returns c = changes-part
