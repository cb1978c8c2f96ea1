use Rattle.std.proofs.Common.{Some, Ok, sym, ap, ◌∙◌}
use Rattle.row_format.specs.declared.change.Change.TheVariants.{Create, Drop, Insert, Update, Delete}
use Rattle.redo_journal.proofs.TableLemmas.{applies_made, applies_create, applies_insert, applies_update, applies_delete}
use Rattle.redo_journal.proofs.tables.TableIndex.apply.Goals as goal

pub returns-in-Some-Create : goal.returns-in-Some-Create
returns-in-Some-Create c = λ tables it are at.
    let found = ap Some (sym c.in-Some-Create.field-0-is) ∙ c.in-Some-Create.ensures in
    applies_made c.args.records.now c.args.place c.create.result c.create.new.self.tables.items tables it (Create c.in-Some-Create.field-0-0 c.in-Some-Create.field-0-1 c.in-Some-Create.field-0-2) found at
    (applies_create c.args.records.now c.args.place c.create.result c.create.new.self.tables.items tables c.in-Some-Create.field-0-0 c.in-Some-Create.field-0-1 c.in-Some-Create.field-0-2 found (λ d is. c.create.ensures tables d are is))

pub returns-in-Some-Drop : goal.returns-in-Some-Drop
returns-in-Some-Drop c = λ tables it are at.
    let found = ap Some (sym c.in-Some-Drop.field-0-is) ∙ c.in-Some-Drop.ensures in
    applies_made c.args.records.now c.args.place (Ok c.drop_table.result) c.drop_table.new.self.tables.items tables it (Drop c.in-Some-Drop.table) found at (c.drop_table.ensures tables are)

pub returns-in-Some-Insert : goal.returns-in-Some-Insert
returns-in-Some-Insert c = λ tables it are at.
    let found = ap Some (sym c.in-Some-Insert.field-0-is) ∙ c.in-Some-Insert.ensures in
    applies_made c.args.records.now c.args.place c.insert.result c.insert.new.self.tables.items tables it (Insert c.in-Some-Insert.map c.in-Some-Insert.field-0-1) found at
    (applies_insert c.args.records.now c.args.place c.insert.result c.insert.new.self.tables.items tables c.in-Some-Insert.map c.in-Some-Insert.field-0-1 found (λ row is. c.insert.ensures tables row are is))

pub returns-in-Some-Update : goal.returns-in-Some-Update
returns-in-Some-Update c = λ tables it are at.
    let found = ap Some (sym c.in-Some-Update.field-0-is) ∙ c.in-Some-Update.ensures in
    applies_made c.args.records.now c.args.place c.update.result c.update.new.self.tables.items tables it (Update c.in-Some-Update.map c.in-Some-Update.at c.in-Some-Update.before c.in-Some-Update.field-0-3) found at
    (applies_update c.args.records.now c.args.place c.update.result c.update.new.self.tables.items tables c.in-Some-Update.map c.in-Some-Update.at c.in-Some-Update.before c.in-Some-Update.field-0-3 found
    (λ row is. c.update.ensures tables row are is))

pub returns-in-Some-Delete : goal.returns-in-Some-Delete
returns-in-Some-Delete c = λ tables it are at.
    let found = ap Some (sym c.in-Some-Delete.field-0-is) ∙ c.in-Some-Delete.ensures in
    applies_made c.args.records.now c.args.place (Ok c.delete.result) c.delete.new.self.tables.items tables it (Delete c.in-Some-Delete.map c.in-Some-Delete.at c.in-Some-Delete.before) found at
    (applies_delete c.args.records.now c.delete.result c.delete.new.self.tables.items tables c.in-Some-Delete.map c.in-Some-Delete.at c.in-Some-Delete.before (c.delete.ensures tables are))
