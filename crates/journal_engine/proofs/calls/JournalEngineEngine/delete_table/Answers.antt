-- delete_table
use Rattle.std.proofs.Common.{refl}
use Rattle.row_format.specs.declared.change.Change.TheVariants.{Drop}
use Rattle.engine_api.specs.States.{with_change}
use Rattle.journal_engine.proofs.SpeltLemmas.{spelt_change}
use Rattle.journal_engine.proofs.CallLemmas.{well_next, well_either}
use Rattle.journal_engine.proofs.calls.JournalEngineEngine.delete_table.Goals as goal

pub invariant_of-self : goal.invariant_of-self
invariant_of-self c =
    let it = c.self.inside in
    let change = Drop c.args.table.now in
    let next = with_change c.args.txn change it.live.state in
    let spelt = spelt_change c.args.txn change it.live.state c.named.ensures refl c.self.invariant.spelt in
    well_either it.first_file it.journal it.live.state next c.drop_table.new.self.state c.drop_table.result c.drop_table.ensures.ok c.drop_table.ensures.none c.self.invariant
    (well_next it.first_file it.journal it.live.state next refl refl spelt c.self.invariant)
