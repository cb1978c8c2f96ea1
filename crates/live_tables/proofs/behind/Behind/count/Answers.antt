use Rattle.std.proofs.Common.{◌∙◌, ap}
use Rattle.live_tables.specs.Folds.{through, rows_step}
use Rattle.live_tables.proofs.RowBehindLemmas.{rows_behind}
use Rattle.live_tables.proofs.behind.Behind.count.Goals as goal

pub returns-clause-value : goal.returns-clause-value
returns-clause-value c = λ applied.
    let step = rows_step c.args.name.now in
    let it = c.args.self.now in
    c.rows_through.ensures.value
    ∙ ap (through step it.more.now) (c.rows_through-done.ensures.value ∙ ap (through step it.done.now) c.rows-stored.ensures.value)
    ∙ rows_behind c.args.name.now it.done.now it.more.now it.tables.now applied
