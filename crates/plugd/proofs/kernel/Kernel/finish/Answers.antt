use Rattle.std.proofs.Common.{Ok, Err, ◌∙◌}
use Rattle.disk_model.specs.Object.{object}
use Rattle.plugd.proofs.FinishLemmas.{LogsOne, ready_under, ready_later, ready_holds, finishes_failed, finishes_halted, finishes_done}
use Rattle.plugd.proofs.kernel.Kernel.finish.Goals as goal

pub returns-in_default-clause-finishes : goal.returns-in_default-clause-finishes
returns-in_default-clause-finishes g c =
    let d2 = goal.Storage-dyn g (object c.log.new.storage) in
    let one : LogsOne _ c.deref.result.now (Err c.in_default.field-0) c.log.new.log (d2.disk c.log.new.storage.value) = record { bytes_are = c.deref.ensures.value; ok = c.in_default.ensures.ok; counts = c.in_default.ensures.counts; moments = c.in_default.ensures.any_moment; device = c.in_default.ensures.device } in
    finishes_failed c.args.count c.args.xid _ c.deref.result.now c.in_default.field-0 c.log.new.log _ c.halt.new.self c.halt.result one c.halt.ensures.server c.halt.ensures.reply

pub commit-requires-clause-holds : goal.commit-requires-clause-holds
commit-requires-clause-holds g c =
    let d2 = goal.Storage-dyn g (object c.log.new.storage) in
    let one : LogsOne _ c.deref.result.now (Ok c.in-Ok.field-0) c.log.new.log (d2.disk c.log.new.storage.value) = record { bytes_are = c.deref.ensures.value; ok = c.in-Ok.ensures.ok; counts = c.in-Ok.ensures.counts; moments = c.in-Ok.ensures.any_moment; device = c.in-Ok.ensures.device } in
    let r = c.requires.ready in
    λ told. ready_holds r.0 r.1 r.2 r.3 c.args.xid _ c.deref.result.now (Ok c.in-Ok.field-0) c.log.new.log _ r.5 r.6 one told

pub returns-in-Ok-commit-clause-finishes : goal.returns-in-Ok-commit-clause-finishes
returns-in-Ok-commit-clause-finishes g c =
    let d2 = goal.Storage-dyn g (object c.log.new.storage) in
    let one : LogsOne _ c.deref.result.now (Ok c.in-Ok.field-0) c.log.new.log (d2.disk c.log.new.storage.value) = record { bytes_are = c.deref.ensures.value; ok = c.in-Ok.ensures.ok; counts = c.in-Ok.ensures.counts; moments = c.in-Ok.ensures.any_moment; device = c.in-Ok.ensures.device } in
    finishes_done c.args.count c.args.xid c.flushed-number.result c.calls_of.result _ c.deref.result.now c.log.new.log _ c.in-Ok-commit.field-0 _ _ _ _ _ c.acknowledge.new.self c.acknowledge.result one c.flushed-number.ensures
    c.in-Ok-commit.ensures.same c.in-Ok-commit.ensures.turns c.calls_of.ensures c.acknowledge.ensures.acknowledges c.acknowledge.ensures.reply

pub returns-in-Err-clause-finishes : goal.returns-in-Err-clause-finishes
returns-in-Err-clause-finishes g c =
    let d2 = goal.Storage-dyn g (object c.log.new.storage) in
    let one : LogsOne _ c.deref.result.now (Ok c.in-Ok.field-0) c.log.new.log (d2.disk c.log.new.storage.value) = record { bytes_are = c.deref.ensures.value; ok = c.in-Ok.ensures.ok; counts = c.in-Ok.ensures.counts; moments = c.in-Ok.ensures.any_moment; device = c.in-Ok.ensures.device } in
    finishes_halted c.args.count c.args.xid c.flushed-number.result _ c.deref.result.now c.log.new.log _ c.in-Err.field-0 _ _ _ _ _ c.halt-in-Err.new.self c.halt-in-Err.result one c.flushed-number.ensures
    c.in-Err.ensures.same c.in-Err.ensures.turns c.in-Err.ensures.after_prepare c.halt-in-Err.ensures.server c.halt-in-Err.ensures.reply

pub commit-requires-clause-prepared : goal.commit-requires-clause-prepared
commit-requires-clause-prepared g c = let r = c.requires.ready in ready_under r.0 r.1 r.2 r.3 c.args.xid _ r.5

pub commit-requires-clause-later : goal.commit-requires-clause-later
commit-requires-clause-later g c = let r = c.requires.ready in ready_later r.0 r.1 r.2 r.3 c.args.xid _ c.flushed-number.result r.5 (c.flushed-number.ensures ∙ c.in-Ok.ensures.counts.0)
