use Rattle.std.proofs.Common.{refl}
use Rattle.std.specs.Vec.{with_item}
use Rattle.redo_journal.proofs.EditLemmas.{row_set_keyed, row_moved}
use Rattle.redo_journal.proofs.index.Indexed.replace_keyed.Goals as goal

pub returns-then-has_key_of : goal.returns-then-has_key_of
returns-then-has_key_of c = λ table after at is key found here.
    row_set_keyed c.args.records.now c.args.self.now (with_item c.args.self.now.rows c.args.i c.args.place) c.args.column at c.args.before.now after c.args.i c.args.place table is key found here c.if-has_key_of.ensures refl

pub returns : goal.returns
returns c = λ table after at is key found here.
    row_moved c.args.records.now c.args.self.now c.add_keyed.new.self c.remove.new.self c.args.column at c.args.before.now after c.args.i table c.add_keyed.result is key found c.remove.ensures.items
    (λ other there keyed. c.add_keyed.ensures other after there keyed here)
