use Rattle.std.proofs.Common.{◌∙◌, ap}
use Rattle.live_tables.specs.Folds.{through, row_step}
use Rattle.live_tables.proofs.RowBehindLemmas.{row_behind}
use Rattle.live_tables.proofs.behind.Behind.row.Goals as goal

pub returns : goal.returns
returns c = λ applied keyed.
    let it = c.args.self.now in
    let step = row_step c.args.name.now c.args.column c.args.key.now in
    c.row_through.ensures
    ∙ ap (through step it.more.now) (c.row_through-done.ensures ∙ ap (through step it.done.now) c.row-stored.ensures)
    ∙ row_behind c.args.name.now c.args.column c.args.key.now it.done.now it.more.now it.tables.now applied keyed
