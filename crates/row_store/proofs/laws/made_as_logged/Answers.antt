use Rattle.row_store.proofs.ChangeLemmas.{as_logged}
use Rattle.row_store.proofs.laws.made_as_logged.Goals as goal

pub returns : goal.returns
returns c = as_logged
