-- create
use Rattle.std.proofs.Common.{refl}
use Rattle.row_format.specs.declared.change.Change.TheVariants.{Create}
use Rattle.engine_api.specs.States.{with_change}
use Rattle.journal_engine.proofs.SpeltLemmas.{spelt_change}
use Rattle.journal_engine.proofs.CallLemmas.{well_next, well_added}
use Rattle.journal_engine.proofs.calls.JournalEngineEngine.create.Goals as goal

pub invariant_of-self : goal.invariant_of-self
invariant_of-self c =
    let it = c.self.inside in
    let change = Create c.args.table.now it.name c.args.schema.now in
    let next = with_change c.args.txn change it.live.state in
    let spelt = spelt_change c.args.txn change it.live.state (c.named.ensures, c.named-2.ensures, c.requires.schema) refl c.self.invariant.spelt in
    well_added it.first_file it.journal it.live.state next c.create.new.self.state c.create.result c.create.ensures.adds c.self.invariant
    (well_next it.first_file it.journal it.live.state next refl refl spelt c.self.invariant)
