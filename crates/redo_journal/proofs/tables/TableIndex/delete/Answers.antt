use Rattle.std.proofs.Common.{Some}
use Rattle.redo_journal.specs.Index.{removing}
use Rattle.redo_journal.proofs.TableLemmas.{edits_none, edits_found}
use Rattle.redo_journal.proofs.tables.TableIndex.delete.Goals as goal

pub returns-in_default : goal.returns-in_default
returns-in_default c = λ tables are.
    edits_none c.args.records.now c.args.map.now.table (Some c.args.map.now.schema) (removing c.args.at c.args.before.now) c.args.self.now.tables.items _ tables c.in_default.ensures.found are

pub returns : goal.returns
returns c = λ tables are.
    edits_found c.args.records.now c.args.map.now.table (Some c.args.map.now.schema) (removing c.args.at c.args.before.now) c.args.self.now.tables.items tables c.in-Some.i c.index_mut.result.now c.remove_row.new.self c.remove_row.result
    c.in-Some.ensures.found are c.index_mut.ensures.value (λ table is. c.remove_row.ensures table is)
