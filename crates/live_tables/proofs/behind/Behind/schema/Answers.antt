use Rattle.std.proofs.Common.{◌∙◌, sym, ap}
use Rattle.log_tables.specs.Tables.{table_named}
use Rattle.log_tables.proofs.FoldLemmas.{after_changes-append}
use Rattle.engine_api.specs.Live.{schema_found}
use Rattle.live_tables.specs.Folds.{through, schema_step}
use Rattle.live_tables.proofs.LookLemmas.{schema_behind}
use Rattle.live_tables.proofs.behind.Behind.schema.Goals as goal

pub returns : goal.returns
returns c = λ made.
    let it = c.args.self.now in
    let n = c.args.name.now in
    c.schema_through.ensures
    ∙ ap (through (schema_step n) it.more.now) (c.schema_through-done.ensures ∙ ap (through (schema_step n) it.done.now) c.schema-stored.ensures)
    ∙ schema_behind n it.done.now it.more.now it.tables.now made
    ∙ ap (λ ts. schema_found (table_named n ts)) (sym (after_changes-append it.done.now it.more.now it.tables.now))
