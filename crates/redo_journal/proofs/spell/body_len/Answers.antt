use Rattle.std.proofs.Common.{◌+◌, length, sym, ◌∙◌, ap}
use Rattle.binlog_events.specs.Items.{list_spelling}
use Rattle.redo_journal.specs.Records.{record_event}
use Rattle.redo_journal.proofs.SpellLemmas.{length-number, length-pair, length-prepared}
use Rattle.redo_journal.proofs.spell.body_len.Goals as goal

pub returns-in-SnapLast-clause-value : goal.returns-in-SnapLast-clause-value
returns-in-SnapLast-clause-value c = sym (ap (λ it. length (record_event it).body) c.in-SnapLast.is ∙ length-number c.in-SnapLast.number)

pub returns-in-Prepare-clause-value : goal.returns-in-Prepare-clause-value
returns-in-Prepare-clause-value c =
    ap (λ n. 8 + n) c.items_len.ensures.value
    ∙ sym (ap (λ it. length (record_event it).body) c.in-Prepare.is ∙ length-prepared c.in-Prepare.it.xid (list_spelling c.in-Prepare.it.changes))

pub returns-in-Commit-clause-value : goal.returns-in-Commit-clause-value
returns-in-Commit-clause-value c = sym (ap (λ it. length (record_event it).body) c.in-Commit.is ∙ length-pair c.in-Commit.xid c.in-Commit.number)

pub returns-in-Rollback-clause-value : goal.returns-in-Rollback-clause-value
returns-in-Rollback-clause-value c = sym (ap (λ it. length (record_event it).body) c.in-Rollback.is ∙ length-number c.in-Rollback.xid)
