use Rattle.disk_model.specs.Object.{object}
use Rattle.sql_step.proofs.StepLemmas.{text_comes_to, text_refused}
use Rattle.sql_step.proofs.step.carry_out.Goals as goal

pub returns-in-Ok-clause-answers : goal.returns-in-Ok-clause-answers
returns-in-Ok-clause-answers g c =
    let e = goal.Engine-dyn g (object c.args.engine.now) in
    let kind = e.kind c.args.engine.now.value in
    let state = e.state c.args.engine.now.value in
    let told = ((goal.Storage-dyn g c.args.volume.now).disk c.args.volume.now.1).told in
    text_comes_to c.args.text.now c.in-Ok.asks c.args.dictionary.now kind state told c.carry_statement.result c.in-Ok.ensures.answer c.carry_statement.ensures.answers

pub returns-in-Err-Refused-clause-answers : goal.returns-in-Err-Refused-clause-answers
returns-in-Err-Refused-clause-answers g c =
    let e = goal.Engine-dyn g (object c.args.engine.now) in
    let kind = e.kind c.args.engine.now.value in
    let state = e.state c.args.engine.now.value in
    text_refused c.args.text.now c.args.dictionary.now kind state c.in-Err-Refused.refusal _ _ c.in-Err-Refused.ensures.answer c.in-Err-Refused.field-0-is c.in-Err-Refused.refusal-is
