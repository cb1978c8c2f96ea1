use Rattle.std.proofs.Common.{ℕ, ◌∙◌, refl, ap, subst}
use Rattle.std.specs.Prelude.{Option}
use Rattle.std.specs.Vec.{with_item}
use Rattle.row_format.specs.declared.schema.Schema.{Schema}
use Rattle.redo_journal.specs.Index.{IsRowFound}
use Rattle.redo_journal.proofs.IndexLemmas.{schema_of_table}
use Rattle.redo_journal.proofs.EditLemmas.{row_set_at}
use Rattle.redo_journal.proofs.index.Indexed.replace_row.Goals as goal

pub returns-in-None : goal.returns-in-None
returns-in-None c = λ table after is here.
    let same = schema_of_table c.args.records.now c.args.self.now table c.in-Some.schema.now is c.in-Some.ensures in
    let key = ap (λ (s : Schema). s.key) same in
    let found = c.in-Some-find_row.ensures.found table is key in
    row_set_at c.args.records.now c.args.self.now (with_item c.args.self.now.rows c.in-Some-find_row.i c.args.place) c.args.at c.args.before.now after c.in-Some-find_row.i c.args.place table is (key ∙ c.in-None.is)
    (subst (λ (k : Option ℕ). IsRowFound k c.args.at c.args.before.now table.rows c.in-Some-find_row.i) c.in-None.is found) here refl
