use Rattle.std.proofs.Common.{◌∙◌, ◌++◌, ap, sym}
use Rattle.std.specs.Option.{option_copied}
use Rattle.log_tables.specs.Tables.{table_named}
use Rattle.log_tables.specs.Changes.{after_changes}
use Rattle.log_tables.proofs.FoldLemmas.{after_changes-append}
use Rattle.engine_api.specs.States.{changes_in}
use Rattle.engine_api.specs.Live.{row_found, live_row, live_schema, schema_found}
use Rattle.live_tables.specs.Folds.{Applied, through, row_step}
use Rattle.live_tables.specs.Live.{Live}
use Rattle.live_tables.proofs.FitLemmas.{both_apply}
use Rattle.live_tables.proofs.RowBehindLemmas.{row_behind, key_of_schema}
use Rattle.live_tables.proofs.live.LiveTables.row.Goals as goal

pub returns : goal.returns
returns c =
    let it = c.self.inside in
    let n = c.args.table.now in
    let key = c.args.key.now in
    let step = row_step n c.in_ok-column.field-0 key in
    let done = it.done.items in
    let more = changes_in it.pending.items in
    let applied : Applied it.tables.items (done ++ more) = record { made = c.self.invariant.0.made; fit = both_apply done more it.tables.items c.self.invariant.0.done_fit c.self.invariant.0.open_fit } in
    let after = after_changes-append done more it.tables.items in
    let is = sym (ap (λ ts. schema_found (table_named n ts)) after ∙ ap (λ (l : Live). live_schema n l.state) c.self.view_is ∙ sym c.in_ok-schema.ensures) in
    let keyed = sym (key_of_schema (table_named n (after_changes (done ++ more) it.tables.items)) c.in_ok-schema.field-0.now is) ∙ c.in_ok-column.was in
    c.row_by.ensures
    ∙ ap (λ ps. through step (changes_in ps) (option_copied c.row_through-done.result)) c.deref-3.ensures.value
    ∙ ap (through step more)
    (c.row_through-done.ensures
    ∙ ap (λ l. through step l (option_copied c.row-stored.result)) c.deref-2.ensures.value
    ∙ ap (through step done) (c.row-stored.ensures ∙ ap (λ ts. row_found (table_named n ts) key) c.deref.ensures.value))
    ∙ row_behind n c.in_ok-column.field-0 key done more it.tables.items applied keyed
    ∙ ap (λ ts. row_found (table_named n ts) key) after
    ∙ ap (λ (l : Live). live_row n key l.state) c.self.view_is
