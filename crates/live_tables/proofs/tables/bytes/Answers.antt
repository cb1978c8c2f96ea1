use Rattle.std.proofs.Common.{◌∙◌, sym, ap}
use Rattle.log_tables.specs.Tables.{is_named}
use Rattle.live_tables.specs.Bytes.{capped}
use Rattle.live_tables.specs.Folds.{bytes_found}
use Rattle.live_tables.proofs.OpenLemmas.{found_there, found_nowhere}
use Rattle.live_tables.proofs.tables.bytes.Goals as goal

pub returns-in-Some : goal.returns-in-Some
returns-in-Some c =
    let found = found_there (is_named c.args.name.now) c.args.tables.now c.in-Some.i c.index-tables-i.result c.in-Some.ensures c.index-tables-i.is in
    c.bytes.ensures ∙ ap (λ o. capped (bytes_found o)) (sym found)

pub returns-in-None : goal.returns-in-None
returns-in-None c =
    let gone = found_nowhere (is_named c.args.name.now) c.args.tables.now c.in-None.ensures in
    ap (λ o. capped (bytes_found o)) (sym gone)
