use Rattle.std.proofs.Common.{arith, Ok}
use Rattle.std.proofs.lemmas.Option.{slice_get_within}
use Rattle.redo_journal.specs.declared.record.Record.TheVariants.{SnapTable, SnapRow, SnapLast, Prepare, Commit, Rollback}
use Rattle.redo_journal.proofs.ReplayLemmas.{arm_same, arm_taken, at_arm, table_taken, row_taken, prepared_here}
use Rattle.redo_journal.proofs.replay.Replay.accept.Goals as goal

pub returns-in-Some-SnapTable : goal.returns-in-Some-SnapTable
returns-in-Some-SnapTable c = λ replay it is at.
    let same = arm_same c.args.records.now c.args.number it c.in-Some-SnapTable.field-0.now (SnapTable c.in-Some-SnapTable.field-0-0) at c.in-Some-SnapTable.ensures.lookup.3.1 c.in-Some-SnapTable.field-0-is in
    arm_taken c.create.result _ c.args.records.now replay it _ same (table_taken c.create.result c.args.self.now c.args.records.now replay c.args.number c.in-Some-SnapTable.field-0-0 c.create.new.self is (at_arm c.args.records.now c.args.number it _ at same)
    (λ here. c.create.ensures replay.gist.tables c.in-Some-SnapTable.field-0-0 is.tables here))

pub returns-in-Some-SnapRow : goal.returns-in-Some-SnapRow
returns-in-Some-SnapRow c = λ replay it is at.
    let same = arm_same c.args.records.now c.args.number it c.in-Some-SnapRow.field-0.now (SnapRow c.in-Some-SnapRow.table c.in-Some-SnapRow.field-0-1) at c.in-Some-SnapRow.ensures.lookup.3.1 c.in-Some-SnapRow.field-0-is in
    arm_taken c.insert.result _ c.args.records.now replay it _ same (row_taken c.insert.result c.args.self.now c.args.records.now replay c.args.number c.in-Some-SnapRow.table c.in-Some-SnapRow.field-0-1 c.insert.new.self is (at_arm c.args.records.now c.args.number it _ at same)
    (λ here. c.insert.ensures replay.gist.tables c.in-Some-SnapRow.field-0-1 is.tables here))

pub returns-in-Some-SnapLast : goal.returns-in-Some-SnapLast
returns-in-Some-SnapLast c = λ replay it is at.
    let same = arm_same c.args.records.now c.args.number it c.in-Some-SnapLast.field-0.now (SnapLast c.in-Some-SnapLast.number) at c.in-Some-SnapLast.ensures.lookup.3.1 c.in-Some-SnapLast.field-0-is in
    arm_taken (Ok c.take_last.result) c.take_last.new.self c.args.records.now replay it _ same (c.take_last.ensures c.args.records.now replay is)

pub returns-in-Some-Prepare : goal.returns-in-Some-Prepare
returns-in-Some-Prepare c = λ replay it is at.
    let same = arm_same c.args.records.now c.args.number it c.in-Some-Prepare.field-0.now (Prepare c.in-Some-Prepare.field-0-0) at c.in-Some-Prepare.ensures.lookup.3.1 c.in-Some-Prepare.field-0-is in
    arm_taken c.take_prepare.result c.take_prepare.new.self c.args.records.now replay it _ same
    (c.take_prepare.ensures replay c.in-Some-Prepare.field-0-0 is (prepared_here c.args.records.now c.args.number c.in-Some-Prepare.field-0-0 (at_arm c.args.records.now c.args.number it _ at same)))

pub returns-in-Some-Commit : goal.returns-in-Some-Commit
returns-in-Some-Commit c = λ replay it is at.
    let same = arm_same c.args.records.now c.args.number it c.in-Some-Commit.field-0.now (Commit c.in-Some-Commit.xid c.in-Some-Commit.number) at c.in-Some-Commit.ensures.lookup.3.1 c.in-Some-Commit.field-0-is in
    arm_taken c.take_commit.result c.take_commit.new.self c.args.records.now replay it _ same (c.take_commit.ensures replay is)

pub returns-in-Some-Rollback : goal.returns-in-Some-Rollback
returns-in-Some-Rollback c = λ replay it is at.
    let same = arm_same c.args.records.now c.args.number it c.in-Some-Rollback.field-0.now (Rollback c.in-Some-Rollback.xid) at c.in-Some-Rollback.ensures.lookup.3.1 c.in-Some-Rollback.field-0-is in
    arm_taken (Ok c.take_rollback.result) c.take_rollback.new.self c.args.records.now replay it _ same (c.take_rollback.ensures replay is)

pub returns-in-None : goal.returns-in-None
returns-in-None c = λ replay it is at. absurd (omega (arith, c.in-None.ensures.lookup.3, slice_get_within c.args.records.now c.args.number it at))
