use Rattle.std.proofs.Common.{◌∙◌, sym}
use Rattle.disk_model.specs.Object.{object}
use Rattle.sql_step.proofs.StepLemmas.{install_comes_to}
use Rattle.sql_step.proofs.step.install.Goals as goal

pub returns-clause-answers : goal.returns-clause-answers
returns-clause-answers g c = λ files told.
    let e = goal.Engine-dyn g (object c.args.engine.now) in
    let kind = e.kind c.args.engine.now.value in
    let state = e.state c.args.engine.now.value in
    install_comes_to c.args.name.now c.args.soname.now c.args.dictionary.now kind state c.in_ok-changes.changes (sym c.is_there.ensures ∙ c.if-is_there.false) (sym c.is_from.ensures ∙ c.if-not-is_from.false)
    c.in_ok-changes.ensures.value
