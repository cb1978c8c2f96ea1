use Rattle.std.proofs.Common.{◌≡◌, ◌∙◌, position, is_some, sym, ap}
use Rattle.log_tables.specs.Tables.{is_named}
use Rattle.live_tables.proofs.TablesLemmas.{create_taken, create_added}
use Rattle.live_tables.proofs.tables.create.Goals as goal

pub returns-then-is_some-clause-ok : goal.returns-then-is_some-clause-ok
returns-then-is_some-clause-ok c =
    let tables = c.args.tables.now.items in
    let same : c.find.result ≡ position (is_named c.args.definition.table) tables = c.find.ensures ∙ ap (position (is_named c.args.definition.table)) c.deref.ensures.value in
    create_taken c.args.definition tables (sym (c.is_some.ensures ∙ ap is_some same) ∙ c.if-is_some.true)

pub returns-in-Ok-clause-ok : goal.returns-in-Ok-clause-ok
returns-in-Ok-clause-ok c =
    let tables = c.args.tables.now.items in
    let same : c.find.result ≡ position (is_named c.args.definition.table) tables = c.find.ensures ∙ ap (position (is_named c.args.definition.table)) c.deref.ensures.value in
    c.in-Ok.ensures.items ∙ create_added c.args.definition tables c.new.result (sym (c.is_some.ensures ∙ ap is_some same) ∙ c.if-is_some.false) c.new.ensures
