use Rattle.std.proofs.Common.{◌∙◌, sym, subst, refl, List}
use Rattle.std.proofs.lemmas.Result.{err_from_is_err_and}
use Rattle.row_format.specs.declared.change.Change.{Change}
use Rattle.binlog_events.specs.Frames.{TellsChanges}
use Rattle.binlog_events.proofs.LogLemmas.{no_first, other_first, no_changes_behind, transaction_found, transaction_shorter}
use Rattle.binlog_events.proofs.found.take_transaction.Goals as goal

pub returns-in_default-clause-absent : goal.returns-in_default-clause-absent
returns-in_default-clause-absent c = no_first c.args.start.crc c.args.start.at c.args.bytes.now c.in_default.ensures.none

pub returns-then-not-begins-clause-absent : goal.returns-then-not-begins-clause-absent
returns-then-not-begins-clause-absent c =
    other_first c.args.start c.in-Some.first.end c.args.bytes.now c.in-Some.first.rest.now (record { kind = c.in-Some.first.kind; body = c.in-Some.first.body.now }) c.in-Some.ensures.some (sym c.begins.ensures ∙ c.if-not-begins.true)

pub returns-in_err-ended-clause-absent : goal.returns-in_err-ended-clause-absent
returns-in_err-ended-clause-absent c =
    let p = err_from_is_err_and c.from_residual.result c.from_residual.ensures.1 in
    rw (p.1, p.2) (no_changes_behind c.in_err-ended.field-0.0 c.args.start c.in-Some.first.end c.args.bytes.now c.in-Some.first.rest.now (record { kind = c.in-Some.first.kind; body = c.in-Some.first.body.now }) c.in-Some.ensures.some
    (sym c.begins.ensures ∙ c.if-not-begins.false) c.in_err-ended.ensures.absent)

pub overflow_sub-result : goal.overflow_sub-result
overflow_sub-result c =
    transaction_shorter c.args.start c.in-Some.first.end c.in_ok-ended.ended.end c.args.bytes.now c.in-Some.first.rest.now c.in_ok-ended.ended.rest.now (record { kind = c.in-Some.first.kind; body = c.in-Some.first.body.now })
    c.in_ok-ended.ended.changes.items c.in_ok-ended.ended.xid c.in-Some.ensures.some c.in_ok-ended.ensures.found

pub returns-clause-found : goal.returns-clause-found
returns-clause-found c =
    transaction_found c.args.start c.in-Some.first.end c.in_ok-ended.ended.end c.args.bytes.now c.in-Some.first.rest.now c.in_ok-ended.ended.rest.now (record { kind = c.in-Some.first.kind; body = c.in-Some.first.body.now }) _ c.in-Some.ensures.some
    (sym c.begins.ensures ∙ c.if-not-begins.false)
    (subst (λ (l : List Change). TellsChanges c.in-Some.first.end c.in-Some.first.rest.now l c.in_ok-ended.ended.xid c.in_ok-ended.ended.rest.now c.in_ok-ended.ended.end) (sym c.new.ensures) c.in_ok-ended.ensures.found)
    refl refl
