use Rattle.std.proofs.Common.{◌∙◌, ap, sym}
use Rattle.disk_model.specs.Object.{object}
use Rattle.sql_text.specs.declared.statement.Statement.TheVariants as statement
use Rattle.sql_exec.proofs.ExecuteLemmas.{create_carries, drop_carries, insert_carries, select_carries}
use Rattle.sql_exec.proofs.executing.execute.Goals as goal

pub returns-in-Create-clause-carries : goal.returns-in-Create-clause-carries
returns-in-Create-clause-carries g c =
    create_carries c.args.txn c.args.open_bytes _ _ _ c.args.plan.now _ _ c.create.result _ _ _ _ _ c.in-Create.is c.requires.can c.requires.at_work c.create.ensures.ok c.create.ensures.err c.create.ensures.carries

pub returns-in-Drop-clause-carries : goal.returns-in-Drop-clause-carries
returns-in-Drop-clause-carries g c =
    drop_carries c.args.txn c.args.open_bytes _ c.args.plan.now _ _ c.drop_table.result _ _ _ _ _ c.in-Drop.is c.requires.can c.requires.at_work c.drop_table.ensures.ok c.drop_table.ensures.err
    c.drop_table.ensures.carries

pub returns-in-Insert-clause-carries : goal.returns-in-Insert-clause-carries
returns-in-Insert-clause-carries g c =
    let files = ((goal.Engine-dyn g (object c.args.engine.now)).kind c.args.engine.now.value).files in
    let told = ((goal.Storage-dyn g c.args.volume.now).disk c.args.volume.now.1).told in
    let is = c.in-Insert.is ∙ ap (statement.Insert c.in-Insert.table) (sym c.as_slice.ensures) in
    insert_carries c.args.txn c.args.open_bytes c.in-Insert.table c.as_slice.result.now c.args.plan.now _ _ files told c.insert.result _ _ _ _ _ is c.requires.can c.insert.ensures.effect
    c.insert.ensures.carries

pub returns-in-Select-clause-carries : goal.returns-in-Select-clause-carries
returns-in-Select-clause-carries g c = select_carries c.args.txn c.args.open_bytes _ _ _ c.args.plan.now _ _ c.answer_rows.result _ _ _ _ _ c.in-Select.is c.answer_rows.ensures.carries
