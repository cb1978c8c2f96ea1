use Rattle.sql_exec.proofs.KeyLemmas.{key_fits}
use Rattle.sql_exec.proofs.laws.key_of_plan_fits.Goals as goal

pub returns : goal.returns
returns c = key_fits
