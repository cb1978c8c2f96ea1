use Rattle.redo_journal.proofs.EditLemmas.{keyed_missing, keyed_other, keyed_known}
use Rattle.redo_journal.proofs.index.Indexed.find_keyed.Goals as goal

pub returns-in_default-clause-found : goal.returns-in_default-clause-found
returns-in_default-clause-found c = λ table at is key.
    keyed_missing c.args.records.now c.args.self.now c.args.column at c.args.before.now c.deref.result.now c.in_default.field-0 table is key c.deref.ensures.value c.in_default.ensures.found

pub returns-then-not-is_row_at-clause-found : goal.returns-then-not-is_row_at-clause-found
returns-then-not-is_row_at-clause-found c = λ table at is key.
    keyed_other c.args.records.now c.args.self.now c.args.column at c.args.before.now c.deref.result.now c.deref-2.result.now c.in-Ok.i table is key c.deref.ensures.value c.in-Ok.ensures.found c.deref-2.ensures.value
    c.if-not-is_row_at.ensures

pub returns-clause-found : goal.returns-clause-found
returns-clause-found c = λ table at is key.
    keyed_known c.args.records.now c.args.self.now c.args.column at c.args.before.now c.deref-2.result.now c.in-Ok.i table is c.deref-2.ensures.value c.if-not-is_row_at.ensures
