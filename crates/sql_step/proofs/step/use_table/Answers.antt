use Rattle.disk_model.specs.Object.{object}
use Rattle.sql_step.proofs.StepLemmas.{answers_err, not_usable, use_refused, use_can, use_answers}
use Rattle.sql_step.proofs.step.use_table.Goals as goal

pub returns-in-Err-clause-answers : goal.returns-in-Err-clause-answers
returns-in-Err-clause-answers g c =
    let e = goal.Engine-dyn g (object c.args.engine.now) in
    let kind = e.kind c.args.engine.now.value in
    let state = e.state c.args.engine.now.value in
    not_usable c.args.asks.now c.args.table.now c.args.dictionary.now kind state c.in-Err.refusal c.requires.on c.in-Err.ensures.err

pub returns-in_err-plan-clause-answers : goal.returns-in_err-plan-clause-answers
returns-in_err-plan-clause-answers g c =
    let e = goal.Engine-dyn g (object c.args.engine.now) in
    let kind = e.kind c.args.engine.now.value in
    let state = e.state c.args.engine.now.value in
    let told = ((goal.Storage-dyn g c.args.volume.now).disk c.args.volume.now.1).told in
    answers_err c.args.asks.now c.args.dictionary.now kind state told c.from_residual.result c.in_err-plan.field-0.0 c.from_residual.ensures.1
    (use_refused c.args.asks.now c.args.table.now c.args.dictionary.now kind state told c.in-Ok.definition.now c.flags_of.result c.in_err-plan.field-0.0 c.requires.on c.in-Ok.ensures.ok c.flags_of.ensures c.in_err-plan.ensures.err)

pub carry_plan-requires-clause-can : goal.carry_plan-requires-clause-can
carry_plan-requires-clause-can g c =
    let e = goal.Engine-dyn g (object c.args.engine.now) in
    let kind = e.kind c.args.engine.now.value in
    let state = e.state c.args.engine.now.value in
    use_can c.args.asks.now c.args.table.now c.args.dictionary.now kind state c.in-Ok.definition.now c.flags_of.result c.in_ok-plan.plan c.args.txn c.requires.on c.as_bytes-bytes.ensures.name c.requires.step.schemas c.requires.step.idle
    c.in-Ok.ensures.ok c.flags_of.ensures c.in_ok-plan.ensures.ok

pub returns-clause-answers : goal.returns-clause-answers
returns-clause-answers g c =
    let e = goal.Engine-dyn g (object c.args.engine.now) in
    let kind = e.kind c.args.engine.now.value in
    let state = e.state c.args.engine.now.value in
    use_answers c.args.asks.now c.args.table.now c.args.dictionary.now kind state _ c.in-Ok.definition.now c.flags_of.result c.in_ok-plan.plan c.carry_plan.result c.requires.on c.in-Ok.ensures.ok c.flags_of.ensures c.in_ok-plan.ensures.ok
    c.carry_plan.ensures.ok c.carry_plan.ensures.err
