use Rattle.std.proofs.Common.{◌≡◌, ◌∙◌, Some, None, position, ap}
use Rattle.std.proofs.lemmas.Result.{on_ok_weaker}
use Rattle.row_format.specs.declared.change.Change.TheVariants.{Insert}
use Rattle.log_tables.specs.Tables.{is_named}
use Rattle.log_tables.specs.Changes.{changed}
use Rattle.live_tables.proofs.TablesLemmas.{changed_there, changed_nowhere}
use Rattle.live_tables.proofs.tables.insert.Goals as goal

pub returns-in-Some-clause-ok : goal.returns-in-Some-clause-ok
returns-in-Some-clause-ok c =
    let tables = c.args.tables.now.items in
    let is : Some c.in-Some.i ≡ position (is_named c.args.map.table) tables = c.in-Some.ensures ∙ ap (position (is_named c.args.map.table)) c.deref.ensures.value in
    on_ok_weaker c.insert.result (changed_there c.args.map.table (Insert c.args.map c.args.row) tables c.in-Some.i c.index_mut.result.now c.insert.new.self is c.index_mut.ensures.value) c.insert.ensures.ok

pub returns-in-None-clause-ok : goal.returns-in-None-clause-ok
returns-in-None-clause-ok c =
    let tables = c.args.tables.now.items in
    let is : None ≡ position (is_named c.args.map.table) tables = c.in-None.ensures ∙ ap (position (is_named c.args.map.table)) c.deref.ensures.value in
    changed_nowhere c.args.map.table (changed (Insert c.args.map c.args.row)) tables is
