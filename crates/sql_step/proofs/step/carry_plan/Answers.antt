use Rattle.sql_step.proofs.CarryLemmas.{plan_done, plan_failed, plan_loggable}
use Rattle.sql_step.proofs.step.carry_plan.Goals as goal

pub returns-in_err-effect-clause-carries : goal.returns-in_err-effect-clause-carries
returns-in_err-effect-clause-carries g c =
    plan_failed _ _ c.args.plan.now c.args.txn c.execute.result c.from_residual.result c.in_err-effect.field-0.0 _ _ _ _ _ c.requires.synced c.in_err-effect.was c.from_residual.ensures.1 c.execute.ensures.carries

pub returns-clause-carries : goal.returns-clause-carries
returns-clause-carries g c =
    plan_done _ _ c.args.plan.now c.args.txn c.in_ok-effect.effect c.outcome_of.result _ _ _ _ _ c.requires.can c.requires.synced c.in_ok-effect.ensures.ok c.outcome_of.ensures c.in_ok-effect.ensures.carries

pub returns-clause-loggable : goal.returns-clause-loggable
returns-clause-loggable g c =
    plan_loggable c.args.plan.now _ _ c.args.txn c.in_ok-effect.effect c.outcome_of.result c.requires.can c.requires.rows c.in_ok-effect.ensures.ok c.in_ok-effect.ensures.spelt c.outcome_of.ensures
