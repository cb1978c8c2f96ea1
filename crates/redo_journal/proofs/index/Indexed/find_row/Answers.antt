use Rattle.std.proofs.Common.{ℕ, ◌∙◌, sym, subst}
use Rattle.std.specs.Prelude.{Option}
use Rattle.redo_journal.specs.Index.{FindsRow}
use Rattle.redo_journal.proofs.index.Indexed.find_row.Goals as goal

pub returns-in-Some-clause-found : goal.returns-in-Some-clause-found
returns-in-Some-clause-found c = λ table is key.
    subst (λ (k : Option ℕ). FindsRow k c.args.at c.args.before.now table.rows c.find_keyed.result) (sym c.in-Some.is) (c.find_keyed.ensures.found table c.args.at is (key ∙ c.in-Some.is))
