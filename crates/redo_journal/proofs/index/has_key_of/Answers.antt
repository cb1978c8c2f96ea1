use Rattle.redo_journal.specs.Index.{key_at}
use Rattle.redo_journal.proofs.EditLemmas.{has_one_key}
use Rattle.redo_journal.proofs.index.has_key_of.Goals as goal

pub returns-in-Some : goal.returns-in-Some
returns-in-Some c =
    has_one_key c.eq.result c.key_order.result (key_at c.args.records.now c.args.column c.args.place) c.in-Some.key.now c.args.column c.args.row.now c.eq.ensures c.key_order.ensures c.in-Some.ensures
