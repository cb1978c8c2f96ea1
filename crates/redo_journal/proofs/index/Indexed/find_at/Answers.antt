use Rattle.redo_journal.proofs.EditLemmas.{index_within, at_other, at_known}
use Rattle.redo_journal.proofs.index.Indexed.find_at.Goals as goal

pub returns-then-not-is_row_at-clause-found : goal.returns-then-not-is_row_at-clause-found
returns-then-not-is_row_at-clause-found c = λ table is. at_other c.args.records.now c.args.self.now c.args.at c.args.before.now c.deref.result.now table is c.deref.ensures.value c.if-not-is_row_at.ensures

pub returns-clause-within : goal.returns-clause-within
returns-clause-within c = index_within c.args.records.now c.args.self.now c.deref.result.now c.args.at c.args.before.now c.deref.ensures.value c.if-not-is_row_at.ensures

pub returns-clause-found : goal.returns-clause-found
returns-clause-found c = λ table is. at_known c.args.records.now c.args.self.now c.args.at c.args.before.now c.deref.result.now table is c.deref.ensures.value c.if-not-is_row_at.ensures
