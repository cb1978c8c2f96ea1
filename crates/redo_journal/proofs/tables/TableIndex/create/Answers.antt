use Rattle.std.specs.Prelude.{is_none}
use Rattle.log_tables.specs.Tables.{table_named}
use Rattle.redo_journal.proofs.TableLemmas.{name_free, name_taken, name_new, table_created}
use Rattle.redo_journal.proofs.tables.TableIndex.create.Goals as goal

pub returns-then-is_some : goal.returns-then-is_some
returns-then-is_some c = λ tables it are at.
    let free = name_free c.args.records.now c.in-Some.name.now c.args.self.now.tables.items c.deref.result.now tables c.args.place it c.find.result are c.deref.ensures.value c.in-Some.ensures at c.find.ensures in
    name_taken _ (is_none (table_named it.table tables)) c.find.result free c.if-is_some.ensures

pub returns : goal.returns
returns c = λ tables it are at.
    let free = name_free c.args.records.now c.in-Some.name.now c.args.self.now.tables.items c.deref.result.now tables c.args.place it c.find.result are c.deref.ensures.value c.in-Some.ensures at c.find.ensures in (
      name_new (is_none (table_named it.table tables)) c.find.result free c.if-is_some.ensures,
      λ done. table_created c.args.records.now c.args.self.now.tables.items c.push.new.self.items tables c.args.place c.new.result it are at c.new.ensures.items c.in_ok-push.ensures.items,
    )
