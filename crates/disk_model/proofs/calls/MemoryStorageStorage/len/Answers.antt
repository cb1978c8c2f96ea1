use Rattle.std.proofs.Common.{ap, length, rules}
use Rattle.disk_model.proofs.Replay.{called_failed, fails_counted, called_stays, counted_bytes, read_bytes}
use Rattle.disk_model.proofs.calls.MemoryStorageStorage.len.Goals as goal

pub returns-in_err-counted-clause-called : goal.returns-in_err-counted-clause-called
returns-in_err-counted-clause-called c = called_failed _ _ _ _ c.counted.result _ (search rules) c.from_residual.ensures.0 c.counted.ensures.counts

pub returns-in_err-counted-clause-exactly : goal.returns-in_err-counted-clause-exactly
returns-in_err-counted-clause-exactly c = fails_counted _ _ c.counted.result _ (search rules) c.from_residual.ensures.0 c.counted.ensures.counts

pub returns-clause-called : goal.returns-clause-called
returns-clause-called c = called_stays _ _ _ _ _ c.in_ok-counted.ensures.counts

pub returns-clause-value : goal.returns-clause-value
returns-clause-value c = λ told. ap length (read_bytes _ _ _ _ _ c.bytes_of.ensures c.deref.ensures.value (counted_bytes _ _ _ _ c.in_ok-counted.ensures.counts))
