use Rattle.std.proofs.Common.{drop, ap, length, sum_by}
use Rattle.std.proofs.lemmas.List.{drop_all}
use Rattle.row_format.specs.Spelling.{row_image}
use Rattle.live_tables.proofs.BytesLemmas.{capped_end}
use Rattle.live_tables.proofs.bytes.rows_len.Goals as goal

pub returns : goal.returns
returns c =
    capped_end c.loop-i.sum (sum_by (λ row. length (row_image row)) (drop c.loop-i.i c.args.rows.now)) (sum_by (λ row. length (row_image row)) c.args.rows.now) c.loop-i.invariant.fits
    (ap (sum_by (λ row. length (row_image row))) (drop_all c.loop-i.i c.args.rows.now c.loop-i-test.false)) c.loop-i.invariant.so_far
