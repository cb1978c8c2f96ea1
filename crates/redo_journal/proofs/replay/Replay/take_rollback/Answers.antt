use Rattle.std.proofs.Common.{◌∙◌, sym}
use Rattle.redo_journal.proofs.TableLemmas.{never}
use Rattle.redo_journal.proofs.PreparedLemmas.{prepared_found, prepared_is}
use Rattle.redo_journal.proofs.ReplayLemmas.{rollback_taken}
use Rattle.redo_journal.proofs.replay.Replay.take_rollback.Goals as goal

pub returns-then-is_none : goal.returns-then-is_none
returns-then-is_none c = λ replay is.
    let found = prepared_found c.args.records.now c.args.xid c.args.self.now.prepared.numbers.items replay.gist.prepared c.find.result is.prepared c.find.ensures in
    (sym (prepared_is c.args.records.now c.args.xid replay.gist.prepared c.find.result found ∙ c.if-is_none.ensures), never)

pub returns : goal.returns
returns c = λ replay is.
    let found = prepared_found c.args.records.now c.args.xid c.args.self.now.prepared.numbers.items replay.gist.prepared c.find.result is.prepared c.find.ensures in (
      sym (prepared_is c.args.records.now c.args.xid replay.gist.prepared c.find.result found ∙ c.if-is_none.ensures),
      λ done. rollback_taken c.args.self.now c.args.records.now replay c.args.xid c.remove.new.self is c.remove.ensures,
    )
