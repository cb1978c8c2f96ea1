use Rattle.std.proofs.Common.{◌≡◌, sym, subst, true}
use Rattle.row_format.specs.declared.change.Change.TheVariants.{Delete}
use Rattle.log_tables.specs.Changes.{names_table}
use Rattle.live_tables.specs.Folds.{CameTo, StoodAt, row_in, found_after}
use Rattle.live_tables.proofs.BackLemmas.{back_before_delete}
use Rattle.live_tables.proofs.back.step_within.Goals as goal

pub returns-in-Delete-clause-stood : goal.returns-in-Delete-clause-stood
returns-in-Delete-clause-stood c = λ name o own came.
    let change = Delete c.in-Delete.map c.in-Delete.place c.in-Delete.before in
    let it = back_before_delete name c.in-Delete.map c.in-Delete.place c.in-Delete.before o c.args.at.place c.before_delete.result.place c.args.at.count c.before_delete.result.count
    (subst (λ x. names_table name x ≡ true) c.in-Delete.is own) (subst (λ x. CameTo name x o c.args.at.count) c.in-Delete.is came)
    c.before_delete.ensures.below c.before_delete.ensures.above c.before_delete.ensures.count in
    subst (λ x. StoodAt o (row_in c.args.at.place (found_after name x o)) c.before_delete.result.place c.before_delete.result.count) (sym c.in-Delete.is) it
