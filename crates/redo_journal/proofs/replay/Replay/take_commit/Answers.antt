use Rattle.std.proofs.Common.{◌∙◌, sym, Some, None}
use Rattle.redo_journal.proofs.TableLemmas.{never}
use Rattle.redo_journal.proofs.PreparedLemmas.{prepared_found}
use Rattle.redo_journal.proofs.ReplayLemmas.{commit_unknown, commit_late, commit_possible, commit_taken}
use Rattle.redo_journal.proofs.replay.Replay.take_commit.Goals as goal

pub returns-in_default : goal.returns-in_default
returns-in_default c = λ replay is.
    let found = prepared_found c.args.records.now c.args.xid c.args.self.now.prepared.numbers.items replay.gist.prepared None is.prepared c.in_default.ensures in
    commit_unknown _ c.args.records.now replay c.args.xid c.args.number found

pub returns-then-number-self : goal.returns-then-number-self
returns-then-number-self c = λ replay is.
    let found = prepared_found c.args.records.now c.args.xid c.args.self.now.prepared.numbers.items replay.gist.prepared (Some c.in-Some.at) is.prepared c.in-Some.ensures in
    commit_late _ c.args.self.now c.args.records.now replay c.args.xid c.args.number c.in-Some.at is found c.if-number-self.true

pub returns-then-not-branch : goal.returns-then-not-branch
returns-then-not-branch c = λ replay is.
    let found = prepared_found c.args.records.now c.args.xid c.args.self.now.prepared.numbers.items replay.gist.prepared (Some c.in-Some.at) is.prepared c.in-Some.ensures in
    let done = c.in_ok-apply_all.ensures replay.gist.tables found.0 is.tables found.1 in
    (sym c.if-not-branch.true ∙ commit_possible c.args.self.now c.args.records.now replay c.args.xid c.args.number c.in-Some.at c.in_ok-apply_all.field-0 is found c.if-number-self.false done.0, never)

pub returns : goal.returns
returns c = λ replay is.
    let found = prepared_found c.args.records.now c.args.xid c.args.self.now.prepared.numbers.items replay.gist.prepared (Some c.in-Some.at) is.prepared c.in-Some.ensures in
    let done = c.in_ok-apply_all.ensures replay.gist.tables found.0 is.tables found.1 in (
      sym c.if-not-branch.false ∙ commit_possible c.args.self.now c.args.records.now replay c.args.xid c.args.number c.in-Some.at c.in_ok-apply_all.field-0 is found c.if-number-self.false done.0,
      λ taken. commit_taken c.args.self.now c.args.records.now replay c.args.xid c.args.number c.in-Some.at c.apply_all.new.self c.remove.new.self is found (done.1 c.if-not-branch.false) c.remove.ensures,
    )
