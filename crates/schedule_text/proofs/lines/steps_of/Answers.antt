use Rattle.schedule_text.proofs.NumberLemmas.{none_has}
use Rattle.schedule_text.proofs.StepLemmas.{no_steps_alone, no_steps_session, no_steps_count}
use Rattle.schedule_text.proofs.lines.steps_of.Goals as goal

pub returns-in_err-session-in-None : goal.returns-in_err-session-in-None
returns-in_err-session-in-None c = none_has _ _ _ c.from_residual.ensures
    (no_steps_alone c.args.rest.now c.in-None.ensures c.in_err-session-in-None.ensures)

pub returns-in_err-session-in-Some : goal.returns-in_err-session-in-Some
returns-in_err-session-in-Some c = none_has _ _ _ c.from_residual-in_err-session-in-Some.ensures
    (no_steps_session c.args.rest.now c.in-Some.digits.now c.in-Some.count.now c.in-Some.ensures c.in_err-session-in-Some.ensures)

pub returns-in_err-count-in-Some : goal.returns-in_err-count-in-Some
returns-in_err-count-in-Some c = none_has _ _ _ c.from_residual-in_err-count-in-Some.ensures
    (no_steps_count c.args.rest.now c.in-Some.digits.now c.in-Some.count.now c.in-Some.ensures c.in_err-count-in-Some.ensures)
