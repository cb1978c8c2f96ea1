use Rattle.std.proofs.Common.{refl, rules}
use Rattle.disk_model.proofs.Replay.{called_failed, fails_counted, fails_starved, called_step, called_starved}
use Rattle.disk_model.proofs.calls.MemoryStorageStorage.cut.Goals as goal

pub returns-in_err-counted-clause-called : goal.returns-in_err-counted-clause-called
returns-in_err-counted-clause-called c = called_failed _ _ _ _ c.counted.result _ (search rules) c.from_residual.ensures.0 c.counted.ensures.counts

pub returns-in_err-counted-clause-exactly : goal.returns-in_err-counted-clause-exactly
returns-in_err-counted-clause-exactly c = fails_counted _ _ c.counted.result _ (search rules) c.from_residual.ensures.0 c.counted.ensures.counts

pub returns-in-Ok-clause-called : goal.returns-in-Ok-clause-called
returns-in-Ok-clause-called c = called_step _ c.counted.new.self _ _ _ _ _ _ c.in_ok-counted.ensures.counts c.try_cut.ensures.same c.in-Ok.ensures.ok (λ f. record { synced = refl; steps = refl; ok = search rules; err = search rules })

pub returns-in-Err-clause-called : goal.returns-in-Err-clause-called
returns-in-Err-clause-called c = called_starved _ c.counted.new.self c.try_cut.new.self _ _ _ _ _ c.no_memory.ensures.err c.in_ok-counted.ensures.counts c.try_cut.ensures.same c.in-Err.ensures.err c.no_memory.ensures.faulted c.in_ok-counted.ensures.same

pub returns-in-Err-clause-exactly : goal.returns-in-Err-clause-exactly
returns-in-Err-clause-exactly c = fails_starved _ c.counted.new.self c.try_cut.new.self _ _ _ c.no_memory.ensures.err c.in_ok-counted.ensures.counts c.try_cut.ensures.same c.in-Err.ensures.err c.no_memory.ensures.faulted c.no_memory.ensures.starved
