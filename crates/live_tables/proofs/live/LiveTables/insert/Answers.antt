use Rattle.std.proofs.Common.{refl, sym, ◌∙◌}
use Rattle.engine_api.specs.Live.{live_schema}
use Rattle.live_tables.proofs.LookLemmas.{insert_fits}
use Rattle.live_tables.proofs.AddLemmas.{no_duplicate, may_also_be}
use Rattle.live_tables.proofs.live.LiveTables.insert.Goals as goal

pub add-requires-clause-applies : goal.add-requires-clause-applies
add-requires-clause-applies c =
    insert_fits c.args.table.now c.args.row.now c.in_ok-change.change (live_schema c.args.table.now c.args.self.now.state) c.args.self.now.state refl c.requires.row c.in_ok-change.ensures
    (sym c.is_taken.ensures ∙ c.if-is_taken.false)

pub returns-clause-duplicate : goal.returns-clause-duplicate
returns-clause-duplicate c = λ is. absurd (no_duplicate c.add.result c.add.ensures.answers is)

pub returns-clause-answers : goal.returns-clause-answers
returns-clause-answers c = may_also_be c.add.result c.add.ensures.answers
