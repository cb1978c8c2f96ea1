use Rattle.std.proofs.Common.{◌∙◌, ap}
use Rattle.std.proofs.lemmas.Result.{on_ok_weaker}
use Rattle.engine_api.specs.States.{begun_state}
use Rattle.live_tables.specs.Loads.{with_tables}
use Rattle.live_tables.proofs.LoadLemmas.{row_applies, row_added_there}
use Rattle.live_tables.proofs.live.LiveTables.load_row.Goals as goal

pub load-requires-clause-applies : goal.load-requires-clause-applies
load-requires-clause-applies c =
    row_applies c.in_ok-map.map c.args.table.now c.args.row c.args.self.now.state c.requires.idle c.in_ok-map.ensures.table c.in_ok-map.ensures.schema c.requires.row

pub returns-clause-ok : goal.returns-clause-ok
returns-clause-ok c =
    let added = row_added_there c.in_ok-map.map c.args.table.now c.args.row c.args.self.now.state c.requires.idle c.in_ok-map.ensures.table c.in_ok-map.ensures.schema in
    on_ok_weaker c.load.result (λ is. is ∙ ap (λ ts. begun_state (with_tables ts c.args.self.now.state.gist)) added) c.load.ensures.ok
