use Rattle.std.proofs.Common.{◌∙◌, sym}
use Rattle.row_locks.proofs.MarkLemmas.{adds_waits, adds_no_waits}
use Rattle.row_locks.proofs.marks.Marks.add.Goals as goal

pub returns-in_ok-add_behind-clause-adds : goal.returns-in_ok-add_behind-clause-adds
returns-in_ok-add_behind-clause-adds c =
    adds_waits c.args.owner c.args.granted.now c.args.waits.now c.in-Some.k c.index-waits-k.result
    c.args.self.now.reached.items c.add_by_locks.new.self.reached.items c.add_behind.new.self.reached.items
    c.requires.once (sym c.place_of.ensures ∙ c.in-Some.is) c.index-waits-k.is c.in_ok-add_by_locks.ensures.adds c.in_ok-add_behind.ensures.adds

pub returns-in_default-clause-adds : goal.returns-in_default-clause-adds
returns-in_default-clause-adds c =
    adds_no_waits c.args.owner c.args.granted.now c.args.waits.now c.args.self.now.reached.items c.add_by_locks.new.self.reached.items
    (sym c.place_of.ensures ∙ c.in_default.is) c.in_ok-add_by_locks.ensures.adds
