use Rattle.std.proofs.Common.{Ok, Err, ap}
use Rattle.disk_model.specs.Object.{object}
use Rattle.plugd.proofs.CommitLemmas.{commits_ok, commits_err, ends_ungiven, ends_unspelt, plain_given, plain_spelt, noted_now, unnoted_now, room_now, spent_now}
use Rattle.plugd.proofs.FinishLemmas.{LogsOne}
use Rattle.plugd.proofs.PlainLemmas.{noted_as, plain_failed, plain_spent, plain_done}
use Rattle.plugd.proofs.kernel.Kernel.commit_plain.Goals as goal

pub returns-in_err-xid-clause-commits : goal.returns-in_err-xid-clause-commits
returns-in_err-xid-clause-commits g c = λ text.
    let work = noted_as text c.args.changes in
    commits_err c.from_residual.result c.from_residual.ensures.0 work c.args.changes _ _ (ends_ungiven work c.args.changes _ c.give.new.self)

pub returns-in_err-spell-clause-commits : goal.returns-in_err-spell-clause-commits
returns-in_err-spell-clause-commits g c = λ text.
    let work = noted_as text c.args.changes in
    let given = plain_given text c.args.changes _ c.give.new.self c.in_ok-xid.xid c.in_ok-xid.ensures.given in
    commits_err c.from_residual-in_err-spell.result c.from_residual-in_err-spell.ensures.0 work c.args.changes _ _
    (λ past idle is. ends_unspelt past _ c.spell.new.self c.in_err-spell.ensures.spells.same (given past idle is).way.ahead)

pub returns-then-not-branch-clause-commits : goal.returns-then-not-branch-clause-commits
returns-then-not-branch-clause-commits g c = λ text.
    let work = noted_as text c.args.changes in
    let spells = c.in_ok-spell.ensures.spells in
    let given = plain_given text c.args.changes _ c.give.new.self c.in_ok-xid.xid c.in_ok-xid.ensures.given in
    let not = ap Ok c.if-not-branch.true in
    commits_ok work c.args.changes _ _ _ (λ past idle is.
    let was = given past idle is in
    plain_spent past idle text c.args.changes c.in_ok-xid.xid _ (plain_spelt past idle text c.args.changes c.in_ok-xid.xid _ c.spell.new.self spells.same was)
    (unnoted_now past _ _ is.catalog (spells.unnoted not)) (spent_now past idle _ c.args.changes _ was.way (spells.spent not)))

pub returns-in_default-clause-commits : goal.returns-in_default-clause-commits
returns-in_default-clause-commits g c = λ text.
    let work = noted_as text c.args.changes in
    let spells = c.in_ok-spell.ensures.spells in
    let given = plain_given text c.args.changes _ c.give.new.self c.in_ok-xid.xid c.in_ok-xid.ensures.given in
    let fits = ap Ok c.if-not-branch.false in
    let d2 = goal.Storage-dyn g (object c.log.new.storage) in
    let one : LogsOne _ c.deref.result.now (Err c.in_default.field-0) c.log.new.log (d2.disk c.log.new.storage.value) = record { bytes_are = c.deref.ensures.value; ok = c.in_default.ensures.ok; counts = c.in_default.ensures.counts; moments = c.in_default.ensures.any_moment; device = c.in_default.ensures.device } in
    commits_ok work c.args.changes _ _ c.halt.result (λ past idle is.
    let was = given past idle is in
    plain_failed past idle text c.args.changes c.in_ok-xid.xid _ c.deref.result.now c.in_default.field-0 c.log.new.log (d2.disk c.log.new.storage.value) c.halt.new.self c.halt.result
    (plain_spelt past idle text c.args.changes c.in_ok-xid.xid _ c.spell.new.self spells.same was)
    (spells.spelt fits)
    (room_now past idle _ c.args.changes _ was.way (spells.fits fits)) one c.halt.ensures.server c.halt.ensures.reply)

pub returns-clause-commits : goal.returns-clause-commits
returns-clause-commits g c = λ text.
    let work = noted_as text c.args.changes in
    let spells = c.in_ok-spell.ensures.spells in
    let given = plain_given text c.args.changes _ c.give.new.self c.in_ok-xid.xid c.in_ok-xid.ensures.given in
    let fits = ap Ok c.if-not-branch.false in
    let d2 = goal.Storage-dyn g (object c.log.new.storage) in
    let one : LogsOne _ c.deref.result.now (Ok c.in-Ok.field-0) c.log.new.log (d2.disk c.log.new.storage.value) = record { bytes_are = c.deref.ensures.value; ok = c.in-Ok.ensures.ok; counts = c.in-Ok.ensures.counts; moments = c.in-Ok.ensures.any_moment; device = c.in-Ok.ensures.device } in
    commits_ok work c.args.changes _ _ c.acknowledge.result (λ past idle is.
    let was = given past idle is in
    plain_done past idle text c.args.changes c.in_ok-xid.xid c.flushed-number.result c.calls_of.result _ c.deref.result.now c.log.new.log (d2.disk c.log.new.storage.value) c.acknowledge.new.self c.acknowledge.result
    (plain_spelt past idle text c.args.changes c.in_ok-xid.xid _ c.spell.new.self spells.same was)
    (spells.spelt fits)
    (noted_now past c.args.changes _ _ is.catalog (spells.noted fits))
    (room_now past idle _ c.args.changes _ was.way (spells.fits fits)) one c.flushed-number.ensures c.calls_of.ensures c.acknowledge.ensures.acknowledges c.acknowledge.ensures.reply)
