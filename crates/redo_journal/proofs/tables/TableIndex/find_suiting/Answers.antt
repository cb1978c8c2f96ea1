use Rattle.std.proofs.Common.{sym}
use Rattle.std.specs.Option.{option_copied}
use Rattle.redo_journal.proofs.TableLemmas.{finds_none, finds_other, finds_table}
use Rattle.redo_journal.proofs.tables.TableIndex.find_suiting.Goals as goal

pub returns-in_default-clause-found : goal.returns-in_default-clause-found
returns-in_default-clause-found c = finds_none c.args.records.now c.args.name.now (option_copied c.args.made_for) c.args.self.now.tables.items c.deref.result.now c.deref.ensures.value c.in_default.ensures

pub returns-then-not-suits-clause-found : goal.returns-then-not-suits-clause-found
returns-then-not-suits-clause-found c =
    finds_other c.args.records.now c.args.name.now (option_copied c.args.made_for) c.args.self.now.tables.items c.deref.result.now c.in-Some.i c.index.result.now c.deref.ensures.value c.in-Some.ensures c.index.ensures (sym c.if-not-suits.ensures)

pub returns-clause-found : goal.returns-clause-found
returns-clause-found c =
    finds_table c.args.records.now c.args.name.now (option_copied c.args.made_for) c.args.self.now.tables.items c.deref.result.now c.in-Some.i c.index.result.now c.deref.ensures.value c.in-Some.ensures c.index.ensures (sym c.if-not-suits.ensures)
