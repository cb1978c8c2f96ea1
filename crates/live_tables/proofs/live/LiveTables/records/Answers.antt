use Rattle.std.proofs.Common.{◌≡◌, ◌∙◌, length, ap}
use Rattle.log_tables.specs.Tables.{table_named}
use Rattle.engine_api.specs.States.{changes_in}
use Rattle.engine_api.specs.Live.{rows_found, live_rows}
use Rattle.live_tables.specs.Folds.{through, rows_step}
use Rattle.live_tables.specs.Live.{Live}
use Rattle.live_tables.proofs.LookLemmas.{count_behind}
use Rattle.live_tables.proofs.live.LiveTables.records.Goals as goal

pub returns : goal.returns
returns c =
    let it = c.self.inside in
    let n = c.args.table.now in
    let sound = c.self.invariant.0 in
    let step = rows_step n in
    let stored : c.rows-stored.result ≡ length (rows_found (table_named n it.tables.items)) = c.rows-stored.ensures.value ∙ ap (λ ts. length (rows_found (table_named n ts))) c.deref.ensures.value in
    let done = c.rows_through-done.ensures.value ∙ ap (λ l. through step l c.rows-stored.result) c.deref-2.ensures.value ∙ ap (through step it.done.items) stored in
    c.rows_by.ensures.value ∙ ap (λ ps. through step (changes_in ps) c.rows_through-done.result) c.deref-3.ensures.value ∙ ap (through step (changes_in it.pending.items)) done
    ∙ count_behind n it.done.items (changes_in it.pending.items) it.tables.items sound.made sound.done_fit sound.open_fit
    ∙ ap (λ (l : Live). length (live_rows n l.state)) c.self.view_is
