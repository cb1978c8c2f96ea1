use Rattle.std.proofs.Common.{refl, Err}
use Rattle.sql_exec.proofs.RunLemmas.{same_goes, told_as}
use Rattle.sql_exec.proofs.executing.answer_rows.Goals as goal

pub returns-in_err-rows-clause-carries : goal.returns-in_err-rows-clause-carries
returns-in_err-rows-clause-carries g c =
    let goes = same_goes (Err c.in_err-rows.field-0.0) c.from_residual.result c.in_err-rows.field-0.0 refl c.from_residual.ensures.1 in
    told_as (Err c.in_err-rows.field-0.0) c.from_residual.result _ _ _ _ _ c.in_err-rows.ensures.carries goes.0 goes.1
