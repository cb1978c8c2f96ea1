use Rattle.std.proofs.Common.{◌+◌, ◌∙◌, length, drop, ap}
use Rattle.std.specs.List.{flat_map}
use Rattle.std.proofs.lemmas.List.{drop_all}
use Rattle.row_format.specs.Spelling.{column_spelling, schema_spelling}
use Rattle.live_tables.specs.Bytes.{capped}
use Rattle.live_tables.proofs.BytesLemmas.{capped_end, length-schema_spelling}
use Rattle.live_tables.proofs.bytes.schema_len.Goals as goal

pub returns : goal.returns
returns c =
    let columns = c.as_slice-columns.result.now in
    capped_end c.loop-i.sum (length (flat_map column_spelling (drop c.loop-i.i columns))) (length (schema_spelling c.args.schema.now)) c.loop-i.invariant.fits
    (ap (λ rest. length (flat_map column_spelling rest)) (drop_all c.loop-i.i columns c.loop-i-test.false))
    (c.loop-i.invariant.so_far ∙ ap (λ all. capped (2 + length (flat_map column_spelling all))) c.loop-i.invariant.columns_are ∙ ap capped (length-schema_spelling c.args.schema.now))
