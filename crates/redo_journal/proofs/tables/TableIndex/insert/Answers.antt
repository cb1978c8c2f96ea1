use Rattle.std.specs.Option.{option_copied}
use Rattle.redo_journal.specs.Index.{adding}
use Rattle.redo_journal.proofs.TableLemmas.{edits_none, edits_found_or}
use Rattle.redo_journal.proofs.tables.TableIndex.insert.Goals as goal

pub returns-in_default : goal.returns-in_default
returns-in_default c = λ tables row are at. edits_none c.args.records.now c.args.name.now (option_copied c.args.made_for) (adding row) c.args.self.now.tables.items _ tables c.in_default.ensures.found are

pub returns : goal.returns
returns c = λ tables row are at.
    edits_found_or c.args.records.now c.args.name.now (option_copied c.args.made_for) (adding row) c.args.self.now.tables.items tables c.in-Some.i c.index_mut.result.now c.add_row.new.self c.add_row.result c.in-Some.ensures.found are c.index_mut.ensures.value
    (λ table is. c.add_row.ensures table row is at)
