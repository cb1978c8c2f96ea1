use Rattle.std.proofs.Common.{◌∙◌, ap}
use Rattle.std.specs.Prelude.{not}
use Rattle.redo_journal.proofs.TableLemmas.{never}
use Rattle.redo_journal.proofs.ReplayLemmas.{prepare_possible, prepare_taken}
use Rattle.redo_journal.proofs.replay.Replay.take_prepare.Goals as goal

pub returns-then-is_some : goal.returns-then-is_some
returns-then-is_some c = λ replay it is at.
    (ap not (c.if-is_some.ensures ∙ prepare_possible c.args.self.now c.args.records.now replay c.args.number c.in-Some.it.now it c.find.result is c.in-Some.ensures at c.find.ensures), never)

pub returns : goal.returns
returns c = λ replay it is at. (
  ap not (c.if-is_some.ensures ∙ prepare_possible c.args.self.now c.args.records.now replay c.args.number c.in-Some.it.now it c.find.result is c.in-Some.ensures at c.find.ensures),
  λ done. prepare_taken c.args.self.now c.args.records.now replay c.args.number it c.add.new.self is at c.in_ok-add.ensures,
)
