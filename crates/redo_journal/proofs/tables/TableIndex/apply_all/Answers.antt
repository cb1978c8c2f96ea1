use Rattle.std.proofs.Common.{◌∙◌}
use Rattle.redo_journal.proofs.TableLemmas.{reached_none, reached_more, reached_fails, reached_all, change_of_prepared}
use Rattle.redo_journal.proofs.tables.TableIndex.apply_all.Goals as goal

pub loop-change-init : goal.loop-change-init
loop-change-init c = λ tables it are at. reached_none c.args.records.now c.args.self.now.tables.items tables c.args.number c.in-Some.it.now it c.as_slice-count.result.now are c.in-Some.ensures at c.as_slice-count.ensures

pub returns-then-not-branch : goal.returns-then-not-branch
returns-then-not-branch c = λ tables it are at.
    reached_fails _ c.args.records.now c.loop-change.self.tables.items c.apply.new.self.tables.items it.changes _ c.loop-change.change tables c.in_ok-apply.field-0 (c.loop-change.invariant tables it are at) c.loop-change-test.true c.if-not-branch.true
    (λ now x stand is. c.in_ok-apply.ensures now x stand (change_of_prepared c.args.records.now c.args.number c.loop-change.change it at ∙ is))

pub loop-change-preserved : goal.loop-change-preserved
loop-change-preserved c = λ tables it are at.
    reached_more c.args.records.now c.loop-change.self.tables.items c.apply.new.self.tables.items it.changes _ c.loop-change.change tables c.in_ok-apply.field-0 (c.loop-change.invariant tables it are at) c.loop-change-test.true c.if-not-branch.false
    (λ now x stand is. c.in_ok-apply.ensures now x stand (change_of_prepared c.args.records.now c.args.number c.loop-change.change it at ∙ is))

pub returns : goal.returns
returns c = λ tables it are at. reached_all c.args.records.now c.loop-change.self.tables.items it.changes _ c.loop-change.change tables (c.loop-change.invariant tables it are at) c.loop-change-test.false
