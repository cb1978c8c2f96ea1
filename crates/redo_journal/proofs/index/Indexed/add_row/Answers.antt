use Rattle.std.proofs.Common.{◌∙◌, ap}
use Rattle.row_format.specs.declared.schema.Schema.{Schema}
use Rattle.redo_journal.proofs.IndexLemmas.{schema_of_table, added_last}
use Rattle.redo_journal.proofs.index.Indexed.add_row.Goals as goal

pub returns-in_ok-push-in-None : goal.returns-in_ok-push-in-None
returns-in_ok-push-in-None c = λ table row is at.
    let same = schema_of_table c.args.records.now c.args.self.now table c.in-Some.schema.now is c.in-Some.ensures in
    added_last c.args.records.now c.args.self.now c.push.new.self c.args.place table row is (ap (λ (s : Schema). s.key) same ∙ c.in-None.is) at c.in_ok-push-in-None.ensures.items
