use Rattle.std.proofs.Common.{sym, ap, subst}
use Rattle.row_format.specs.declared.schema.Schema.{Schema}
use Rattle.redo_journal.specs.Index.{IsRowFound}
use Rattle.redo_journal.proofs.IndexLemmas.{schema_of_table}
use Rattle.redo_journal.proofs.EditLemmas.{row_removed}
use Rattle.redo_journal.proofs.index.Indexed.remove_row.Goals as goal

pub returns : goal.returns
returns c = λ table is.
    let same = schema_of_table c.args.records.now c.args.self.now table c.in-Some.schema.now is c.in-Some.ensures in
    let found = c.in-Some-find_row.ensures.found table is (ap (λ (s : Schema). s.key) same) in
    row_removed c.args.records.now c.args.self.now c.remove.new.self c.args.at c.args.before.now c.in-Some-find_row.i table is
    (subst (λ (s : Schema). IsRowFound s.key c.args.at c.args.before.now table.rows c.in-Some-find_row.i) (sym same) found) c.remove.ensures.items
