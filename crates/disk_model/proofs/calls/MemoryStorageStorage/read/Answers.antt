use Rattle.std.proofs.Common.{rules, arith}
use Rattle.std.proofs.lemmas.List.{take_rest}
use Rattle.std.proofs.lemmas.Grind.{common_steps}
use Rattle.disk_model.proofs.Replay.{called_failed, fails_counted, called_stays, counted_bytes, read_bytes, fits_none, fits_some}
use Rattle.disk_model.proofs.calls.MemoryStorageStorage.read.Goals as goal

pub returns-in_err-counted-clause-called : goal.returns-in_err-counted-clause-called
returns-in_err-counted-clause-called c = called_failed _ _ _ _ c.counted.result _ (search rules) c.from_residual.ensures.0 c.counted.ensures.counts

pub returns-in_err-counted-clause-exactly : goal.returns-in_err-counted-clause-exactly
returns-in_err-counted-clause-exactly c = fails_counted _ _ c.counted.result _ (search rules) c.from_residual.ensures.0 c.counted.ensures.counts

pub returns-then-at-bytes-clause-called : goal.returns-then-at-bytes-clause-called
returns-then-at-bytes-clause-called c = called_stays _ _ _ _ _ c.in_ok-counted.ensures.counts

pub returns-clause-called : goal.returns-clause-called
returns-clause-called c = called_stays _ _ _ _ _ c.in_ok-counted.ensures.counts

pub returns-then-at-bytes-clause-value : goal.returns-then-at-bytes-clause-value
returns-then-at-bytes-clause-value c = λ told.
    let same = read_bytes _ _ _ _ _ c.bytes_of-bytes.ensures c.deref.ensures.value (counted_bytes _ _ _ _ c.in_ok-counted.ensures.counts) in
    fits_none _ _ _ _ same c.if-at-bytes.true

pub returns-clause-value : goal.returns-clause-value
returns-clause-value c = λ told.
    let same = read_bytes _ _ _ _ _ c.bytes_of-bytes.ensures c.deref.ensures.value (counted_bytes _ _ _ _ c.in_ok-counted.ensures.counts) in
    fits_some _ _ _ c.args.buf.now c.copy_from_slice.new.self c.args.at c.min-n.result same (take_rest c.bytes_of-bytes.result.now c.args.at) (grind (arith, common_steps)) (search rules)
