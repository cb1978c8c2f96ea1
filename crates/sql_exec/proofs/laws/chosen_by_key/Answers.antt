use Rattle.sql_exec.proofs.KeyLemmas.{chosen_by_key}
use Rattle.sql_exec.proofs.laws.chosen_by_key.Goals as goal

pub returns-clause-rows : goal.returns-clause-rows
returns-clause-rows c schema w key rows is ordered by = (chosen_by_key schema w key rows is ordered by).0

pub returns-clause-granted : goal.returns-clause-granted
returns-clause-granted c schema w key rows is ordered by = (chosen_by_key schema w key rows is ordered by).1
