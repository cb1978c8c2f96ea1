use Rattle.std.proofs.Common.{drop, ap, sum_by}
use Rattle.std.proofs.lemmas.List.{drop_all}
use Rattle.live_tables.specs.Folds.{change_bytes}
use Rattle.live_tables.proofs.BytesLemmas.{capped_end}
use Rattle.live_tables.proofs.bytes.changes_len.Goals as goal

pub returns : goal.returns
returns c =
    capped_end c.loop-i.sum (sum_by change_bytes (drop c.loop-i.i c.args.changes.now)) (sum_by change_bytes c.args.changes.now) c.loop-i.invariant.fits
    (ap (sum_by change_bytes) (drop_all c.loop-i.i c.args.changes.now c.loop-i-test.false)) c.loop-i.invariant.so_far
