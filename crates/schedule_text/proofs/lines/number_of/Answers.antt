use Rattle.std.proofs.Common.{arith}
use Rattle.schedule_text.proofs.NumberLemmas.{none_has, past_most}
use Rattle.schedule_text.proofs.lines.number_of.Goals as goal

pub returns-in_err-number : goal.returns-in_err-number
returns-in_err-number c = none_has _ _ _ c.from_residual.ensures
    (λ number up e. c.in_err-number.ensures number (up.0, omega (arith, up.1, c.ranges.most.fits)) e)

pub returns-then-number-most : goal.returns-then-number-most
returns-then-number-most c = past_most c.args.digits.now c.args.most c.in_ok-number.number c.in_ok-number.ensures c.if-number-most.true
