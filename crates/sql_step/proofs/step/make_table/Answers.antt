use Rattle.std.proofs.Common.{List, All, subst}
use Rattle.sql_value.specs.Names.{IsName}
use Rattle.row_format.specs.declared.schema.Column.{Column}
use Rattle.disk_model.specs.Object.{object}
use Rattle.sql_step.proofs.StepLemmas.{answers_as, answers_err, not_makeable_as, make_refused_as, make_can_as, make_answers_as}
use Rattle.sql_step.proofs.step.make_table.Goals as goal

pub returns-in-Err-clause-answers : goal.returns-in-Err-clause-answers
returns-in-Err-clause-answers g c =
    let e = goal.Engine-dyn g (object c.args.engine.now) in
    let kind = e.kind c.args.engine.now.value in
    let state = e.state c.args.engine.now.value in
    not_makeable_as c.args.asks.now c.in-Create.table c.in-Create.items c.in-Create.name c.args.dictionary.now kind state c.in-Err.refusal c.in-Create.is c.in-Err.ensures.err

pub returns-in_err-plan-clause-answers : goal.returns-in_err-plan-clause-answers
returns-in_err-plan-clause-answers g c =
    let e = goal.Engine-dyn g (object c.args.engine.now) in
    let kind = e.kind c.args.engine.now.value in
    let state = e.state c.args.engine.now.value in
    let told = ((goal.Storage-dyn g c.args.volume.now).disk c.args.volume.now.1).told in
    answers_err c.args.asks.now c.args.dictionary.now kind state told c.from_residual.result c.in_err-plan.field-0.0 c.from_residual.ensures.1
    (make_refused_as c.args.asks.now c.in-Create.table c.in-Create.items c.in-Create.name c.args.dictionary.now kind state told c.flags_of.result c.in_err-plan.field-0.0 c.in-Create.is c.in_default-check_free.ensures.ok
    c.flags_of.ensures c.in_err-plan.ensures.err)

pub carry_plan-requires-clause-can : goal.carry_plan-requires-clause-can
carry_plan-requires-clause-can g c =
    let e = goal.Engine-dyn g (object c.args.engine.now) in
    let kind = e.kind c.args.engine.now.value in
    let state = e.state c.args.engine.now.value in
    make_can_as c.args.asks.now c.in-Create.table c.in-Create.items c.in-Create.name c.args.dictionary.now kind state c.flags_of.result c.in_ok-plan.plan c.args.txn c.in-Create.is c.requires.step.idle
    c.in_default-check_free.ensures.ok c.flags_of.ensures c.in_ok-plan.ensures.ok (subst (λ (cs : List Column). All (λ it. IsName it.name) cs) c.as_slice.ensures c.know_names.ensures)

pub returns-clause-answers : goal.returns-clause-answers
returns-clause-answers g c =
    let e = goal.Engine-dyn g (object c.args.engine.now) in
    let kind = e.kind c.args.engine.now.value in
    let state = e.state c.args.engine.now.value in
    make_answers_as c.args.asks.now c.in-Create.table c.in-Create.items c.in-Create.name c.args.dictionary.now kind state _ c.flags_of.result c.in_ok-plan.plan c.carry_plan.result c.in-Create.is
    c.in_default-check_free.ensures.ok c.flags_of.ensures c.in_ok-plan.ensures.ok c.carry_plan.ensures.ok c.carry_plan.ensures.err
