use Rattle.redo_journal.proofs.TableLemmas.{drops_none, drops_found}
use Rattle.redo_journal.proofs.tables.TableIndex.drop_table.Goals as goal

pub returns-in_default : goal.returns-in_default
returns-in_default c = λ tables are. drops_none _ c.args.records.now c.args.name.now c.args.self.now.tables.items c.deref.result.now tables are c.deref.ensures.value c.in_default.ensures

pub returns : goal.returns
returns c = λ tables are.
    drops_found c.args.records.now c.args.name.now c.args.self.now.tables.items c.deref.result.now c.remove.new.self.items tables c.in-Some.i are c.deref.ensures.value c.in-Some.ensures c.remove.ensures.items
