use Rattle.std.proofs.Common.{◌∙◌, Some, sym, ap}
use Rattle.log_tables.specs.Tables.{is_named}
use Rattle.engine_api.specs.Live.{schema_found}
use Rattle.live_tables.proofs.OpenLemmas.{found_there, found_nowhere}
use Rattle.live_tables.proofs.tables.schema.Goals as goal

pub returns-in-Some : goal.returns-in-Some
returns-in-Some c =
    let found = found_there (is_named c.args.name.now) c.args.tables.now c.in-Some.i c.index-tables-i.result c.in-Some.ensures c.index-tables-i.is in
    ap Some c.schema.ensures ∙ ap (λ o. schema_found o) (sym found)

pub returns-in-None : goal.returns-in-None
returns-in-None c =
    let gone = found_nowhere (is_named c.args.name.now) c.args.tables.now c.in-None.ensures in
    ap (λ o. schema_found o) (sym gone)
