use Rattle.std.proofs.Common.{◌≡◌, ◌∙◌, [], Some, None, position, ap}
use Rattle.log_tables.specs.Tables.{is_named}
use Rattle.live_tables.proofs.TablesLemmas.{dropped_there, changed_nowhere}
use Rattle.live_tables.proofs.tables.drop_table.Goals as goal

pub returns-in-Some : goal.returns-in-Some
returns-in-Some c =
    let tables = c.args.tables.now.items in
    let is : Some c.in-Some.i ≡ position (is_named c.args.table.now) tables = c.in-Some.ensures ∙ ap (position (is_named c.args.table.now)) c.deref.ensures.value in
    c.remove.ensures.items ∙ dropped_there c.args.table.now tables c.in-Some.i is

pub returns-in_default : goal.returns-in_default
returns-in_default c =
    let tables = c.args.tables.now.items in
    let is : None ≡ position (is_named c.args.table.now) tables = c.in_default.ensures ∙ ap (position (is_named c.args.table.now)) c.deref.ensures.value in
    changed_nowhere c.args.table.now (λ _. []) tables is
