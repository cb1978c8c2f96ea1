use Rattle.std.proofs.Common.{◌∙◌}
use Rattle.row_store.proofs.ChangeLemmas.{update_back}
use Rattle.row_store.proofs.table.RowTable.exchange.Goals as goal

pub returns-clause-back : goal.returns-clause-back
returns-clause-back c =
    update_back c.args.self.now.schema.key c.args.place c.args.before.now c.args.after c.args.self.now.rows c.replace.new.self.rows c.place_of-place.ensures.ordered
    (c.place_of-place.ensures.stands.updated_is c.args.after ∙ (c.replace.ensures.replaces.ok c.in-Ok.field-0 c.in-Ok.is).1)
