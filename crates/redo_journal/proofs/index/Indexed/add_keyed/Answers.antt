use Rattle.redo_journal.proofs.IndexLemmas.{keyed_added, keyed_taken}
use Rattle.redo_journal.proofs.index.Indexed.add_keyed.Goals as goal

pub returns-in_default-place_of : goal.returns-in_default-place_of
returns-in_default-place_of c = λ table row is key at.
    keyed_taken c.args.records.now c.args.self.now c.args.column c.args.place c.deref.result.now c.in_default-place_of.field-0 table c.in-Some.row.now row is key c.in-Some.ensures at c.deref.ensures.value c.in_default-place_of.ensures.found

pub returns : goal.returns
returns c = λ table row is key at.
    keyed_added c.args.records.now c.args.self.now c.insert.new.self c.args.column c.args.place c.deref.result.now c.in-Err.i table c.in-Some.row.now row is key c.in-Some.ensures at c.deref.ensures.value c.in-Err.ensures.found
    c.in_ok-insert.ensures.items
