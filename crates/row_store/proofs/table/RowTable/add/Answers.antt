use Rattle.row_store.proofs.ChangeLemmas.{insert_back}
use Rattle.row_store.proofs.table.RowTable.add.Goals as goal

pub returns-clause-rows : goal.returns-clause-rows
returns-clause-rows c = (c.insert.ensures.inserts.ok c.in-Ok.field-0 c.in-Ok.is).0

pub returns-clause-spare : goal.returns-clause-spare
returns-clause-spare c = (c.insert.ensures.inserts.ok c.in-Ok.field-0 c.in-Ok.is).3

pub returns-clause-back : goal.returns-clause-back
returns-clause-back c = insert_back c.args.self.now.schema.key c.args.row c.args.self.now.rows c.insert.new.self.rows (c.insert.ensures.inserts.ok c.in-Ok.field-0 c.in-Ok.is).0
