use Rattle.std.proofs.Common.{◌≡◌, ◌∙◌, Some, None, position, ap}
use Rattle.row_format.specs.declared.change.Change.TheVariants.{Delete}
use Rattle.log_tables.specs.Tables.{is_named}
use Rattle.log_tables.specs.Changes.{changed}
use Rattle.live_tables.proofs.TablesLemmas.{changed_there, changed_nowhere}
use Rattle.live_tables.proofs.tables.delete.Goals as goal

pub returns-in-Some : goal.returns-in-Some
returns-in-Some c =
    let tables = c.args.tables.now.items in
    let is : Some c.in-Some.i ≡ position (is_named c.args.map.table) tables = c.in-Some.ensures ∙ ap (position (is_named c.args.map.table)) c.deref.ensures.value in
    changed_there c.args.map.table (Delete c.args.map c.args.place c.args.before) tables c.in-Some.i c.index_mut.result.now c.delete.new.self is c.index_mut.ensures.value c.delete.ensures

pub returns : goal.returns
returns c =
    let tables = c.args.tables.now.items in
    let is : None ≡ position (is_named c.args.map.table) tables = c.in_default.ensures ∙ ap (position (is_named c.args.map.table)) c.deref.ensures.value in
    changed_nowhere c.args.map.table (changed (Delete c.args.map c.args.place c.args.before)) tables is
