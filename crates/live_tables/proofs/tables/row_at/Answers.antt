use Rattle.std.proofs.Common.{◌∙◌, sym, ap}
use Rattle.log_tables.specs.Tables.{is_named}
use Rattle.live_tables.specs.Folds.{row_in}
use Rattle.live_tables.proofs.OpenLemmas.{found_there, found_nowhere}
use Rattle.live_tables.proofs.BackLemmas.{nothing_there}
use Rattle.live_tables.proofs.tables.row_at.Goals as goal

pub returns-in-Some : goal.returns-in-Some
returns-in-Some c =
    let found = found_there (is_named c.args.name.now) c.args.tables.now c.in-Some.i c.index-tables-i.result c.in-Some.ensures c.index-tables-i.is in
    c.row_at.ensures ∙ ap (row_in c.args.place) (sym found)

pub returns-in-None : goal.returns-in-None
returns-in-None c =
    let gone = found_nowhere (is_named c.args.name.now) c.args.tables.now c.in-None.ensures in
    sym (ap (row_in c.args.place) gone ∙ nothing_there c.args.place)
