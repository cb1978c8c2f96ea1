use Rattle.std.proofs.Common.{◌∙◌, ap}
use Rattle.std.specs.Option.{option_copied}
use Rattle.log_tables.specs.Tables.{table_named}
use Rattle.engine_api.specs.States.{changes_in}
use Rattle.engine_api.specs.Live.{schema_found, live_schema}
use Rattle.live_tables.specs.Folds.{through, schema_step}
use Rattle.live_tables.specs.Live.{Live}
use Rattle.live_tables.proofs.LookLemmas.{schema_behind}
use Rattle.live_tables.proofs.live.LiveTables.schema.Goals as goal

pub returns : goal.returns
returns c =
    let it = c.self.inside in
    let n = c.args.table.now in
    let step = schema_step n in
    c.schema_by.ensures
    ∙ ap (λ ps. through step (changes_in ps) (option_copied c.schema_through-done.result)) c.deref-3.ensures.value
    ∙ ap (through step (changes_in it.pending.items))
    (c.schema_through-done.ensures
    ∙ ap (λ l. through step l (option_copied c.schema-stored.result)) c.deref-2.ensures.value
    ∙ ap (through step it.done.items) (c.schema-stored.ensures ∙ ap (λ ts. schema_found (table_named n ts)) c.deref.ensures.value))
    ∙ schema_behind n it.done.items (changes_in it.pending.items) it.tables.items c.self.invariant.0.made
    ∙ ap (λ (l : Live). live_schema n l.state) c.self.view_is
