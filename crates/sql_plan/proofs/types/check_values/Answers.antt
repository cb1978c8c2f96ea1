use Rattle.std.proofs.Common.{arith}
use Rattle.sql_plan.proofs.TypeLemmas.{past_columns, past_values}
use Rattle.sql_plan.proofs.types.check_values.Goals.{then-loop-i-test+else-i-values, else-loop-i-test}
use Rattle.sql_plan.proofs.types.check_values.Goals as goal

pub returns : goal.returns
returns c = elim c.loop-i-test.branch [
  | then-loop-i-test+else-i-values w ↦ past_values c.args.columns.now c.args.values.now c.loop-i.i (omega (arith, w.if-i-values.false)) c.loop-i.invariant.refusal
  | else-loop-i-test w ↦ past_columns c.args.columns.now c.args.values.now c.loop-i.i (omega (arith, w.loop-i-test.false)) c.loop-i.invariant.refusal
]
