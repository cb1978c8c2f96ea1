use Rattle.std.proofs.Common.{rules, ◌≤◌, ◌+◌, sym, ◌∙◌, arith}
use Rattle.page_format.proofs.FieldLemmas.{row_at-empty, row_at_is}
use Rattle.page_format.proofs.LaidLemmas.{ends_in_page}
use Rattle.page_format.proofs.directory.row_at.Goals as goal

pub returns-then-len-eq0-clause-value : goal.returns-then-len-eq0-clause-value
returns-then-len-eq0-clause-value c =
    sym (row_at-empty c.args.bytes.now c.args.slot (sym c.length_of-len.ensures.value ∙ c.if-len-eq0.true))

pub slice_bounds-result-end-2 : goal.slice_bounds-result-end-2
slice_bounds-result-end-2 c =
    let ends = ends_in_page c.args.bytes.now c.args.slot c.requires.laid c.requires.there (omega arith) in
    let within : c.place_of-place.result + c.length_of-len.result ≤ 4096 = omega (arith, ends) in
    search rules

pub returns-clause-value : goal.returns-clause-value
returns-clause-value c =
    row_at_is c.args.bytes.now c.args.slot c.place_of-place.result c.length_of-len.result _ c.place_of-place.ensures.value c.length_of-len.ensures.value (omega arith)
