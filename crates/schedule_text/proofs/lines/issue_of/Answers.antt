use Rattle.std.proofs.Common.{◌∙◌, sym, arith}
use Rattle.std.specs.Fmt.{decimal}
use Rattle.schedule_text.proofs.NumberLemmas.{none_has}
use Rattle.schedule_text.proofs.SpaceLemmas.{no_space_here, no_space_printed, space_apart}
use Rattle.schedule_text.proofs.lines.issue_of.Goals as goal

pub returns-in_err-digits : goal.returns-in_err-digits
returns-in_err-digits c = none_has _ _ _ c.from_residual.ensures
    (λ session text up e. no_space_here c.args.rest.now (decimal session) text c.in_err-digits.ensures e)

pub returns-in_err-session : goal.returns-in_err-session
returns-in_err-session c = none_has _ _ _ c.from_residual-in_err-session.ensures
    (λ session text up e. c.in_err-session.ensures session up
    (space_apart c.in_ok-digits.digits.now c.in_ok-digits.text.now (decimal session) text c.in_ok-digits.ensures.0
    (no_space_printed session (omega (arith, up.1))) (sym c.in_ok-digits.ensures.1 ∙ e)).0)
