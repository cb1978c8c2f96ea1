use Rattle.std.proofs.Common.{◌∙◌, sym, ap}
use Rattle.log_tables.specs.Tables.{is_named}
use Rattle.engine_api.specs.Live.{rows_found}
use Rattle.live_tables.specs.Places.{below}
use Rattle.live_tables.proofs.OpenLemmas.{found_there, found_nowhere}
use Rattle.live_tables.proofs.tables.below.Goals as goal

pub returns-in-Some-clause-value : goal.returns-in-Some-clause-value
returns-in-Some-clause-value c =
    let found = found_there (is_named c.args.name.now) c.args.tables.now c.in-Some.i c.index-tables-i.result c.in-Some.ensures c.index-tables-i.is in
    c.below.ensures.value ∙ ap (λ o. below c.args.column c.args.key.now (rows_found o)) (sym found)

pub returns-in-None-clause-value : goal.returns-in-None-clause-value
returns-in-None-clause-value c =
    let gone = found_nowhere (is_named c.args.name.now) c.args.tables.now c.in-None.ensures in
    ap (λ o. below c.args.column c.args.key.now (rows_found o)) (sym gone)
