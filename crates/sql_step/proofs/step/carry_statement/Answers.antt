use Rattle.disk_model.specs.Object.{object}
use Rattle.sql_step.proofs.StepLemmas.{answers_as}
use Rattle.sql_step.proofs.step.carry_statement.Goals as goal

pub returns-in-Install-clause-answers : goal.returns-in-Install-clause-answers
returns-in-Install-clause-answers g c =
    let e = goal.Engine-dyn g (object c.args.engine.now) in
    let kind = e.kind c.args.engine.now.value in
    let state = e.state c.args.engine.now.value in
    let told = ((goal.Storage-dyn g c.args.volume.now).disk c.args.volume.now.1).told in
    answers_as c.args.asks.now _ c.args.dictionary.now kind state told c.install.result c.in-Install.is (c.install.ensures.answers kind.files told)
