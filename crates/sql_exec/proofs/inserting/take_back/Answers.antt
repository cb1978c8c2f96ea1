use Rattle.sql_exec.proofs.CarryLemmas.{back_done, back_failed}
use Rattle.sql_exec.proofs.inserting.take_back.Goals as goal

pub returns-in-Ok-clause-carries : goal.returns-in-Ok-clause-carries
returns-in-Ok-clause-carries g c = back_done _ _ c.args.fault _ _ _ _ _ _ (tt {0}) c.in-Ok.ensures.turns c.requires.refused

pub returns-in-Err-clause-carries : goal.returns-in-Err-clause-carries
returns-in-Err-clause-carries g c = back_failed _ _ c.in-Err.field-0 _ _ _ _ _ _ c.roll_back.result c.roll_back.ensures.turns c.in-Err.is c.roll_back.ensures.answers
