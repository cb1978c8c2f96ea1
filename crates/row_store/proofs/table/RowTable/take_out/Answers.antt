use Rattle.std.proofs.Common.{◌∙◌, ap, sym, List, Some}
use Rattle.sql_value.specs.declared.value.Value.{Value}
use Rattle.row_store.proofs.ChangeLemmas.{delete_back}
use Rattle.row_store.proofs.table.RowTable.take_out.Goals as goal

pub returns-clause-back : goal.returns-clause-back
returns-clause-back c =
    delete_back c.args.self.now.schema.key c.args.place c.args.row.now c.args.self.now.rows c.remove.new.self.rows c.place_of-place.ensures.ordered
    (c.place_of-place.ensures.stands.deleted_is ∙ ap (λ (l : List (List Value)). Some l) (sym c.remove.ensures.rows))
