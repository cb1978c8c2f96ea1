use Rattle.std.proofs.Common.{Some}
use Rattle.redo_journal.specs.Index.{replacing}
use Rattle.redo_journal.proofs.TableLemmas.{edits_none, edits_found_or}
use Rattle.redo_journal.proofs.tables.TableIndex.update.Goals as goal

pub returns-in_default : goal.returns-in_default
returns-in_default c = λ tables after are here.
    edits_none c.args.records.now c.args.map.now.table (Some c.args.map.now.schema) (replacing c.args.at c.args.before.now after) c.args.self.now.tables.items _ tables c.in_default.ensures.found are

pub returns : goal.returns
returns c = λ tables after are here.
    edits_found_or c.args.records.now c.args.map.now.table (Some c.args.map.now.schema) (replacing c.args.at c.args.before.now after) c.args.self.now.tables.items tables c.in-Some.i c.index_mut.result.now c.replace_row.new.self
    c.replace_row.result c.in-Some.ensures.found are c.index_mut.ensures.value (λ table is. c.replace_row.ensures table after is here)
