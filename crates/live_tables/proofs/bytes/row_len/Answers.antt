use Rattle.std.proofs.Common.{◌∙◌, length, drop, ap, sym}
use Rattle.std.specs.List.{flat_map}
use Rattle.std.proofs.lemmas.List.{drop_all}
use Rattle.row_format.specs.Spelling.{value_spelling, row_image}
use Rattle.row_format.proofs.LenLemmas.{length-row_image}
use Rattle.live_tables.specs.Bytes.{capped}
use Rattle.live_tables.proofs.BytesLemmas.{capped_end}
use Rattle.live_tables.proofs.bytes.row_len.Goals as goal

pub returns : goal.returns
returns c =
    let values = c.values-values.result.now in
    capped_end c.loop-i.sum (length (flat_map value_spelling (drop c.loop-i.i values))) (length (row_image c.args.row.now)) c.loop-i.invariant.fits
    (ap (λ rest. length (flat_map value_spelling rest)) (drop_all c.loop-i.i values c.loop-i-test.false))
    (c.loop-i.invariant.so_far ∙ ap capped (sym (length-row_image values)) ∙ ap (λ row. capped (length (row_image row))) c.loop-i.invariant.values_are)
