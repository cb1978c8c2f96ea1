use Rattle.std.proofs.Common.{◌≡◌, ◌≤◌, ap, arith, length}
use Rattle.std.specs.List.{flat_map}
use Rattle.std.proofs.lemmas.List.{take_all}
use Rattle.row_format.specs.Spelling.{value_spelling, row_image}
use Rattle.row_format.proofs.LenLemmas.{image_small, image_more, length-row_image}
use Rattle.row_format.proofs.len.row_len.Goals as goal

pub overflow_add-sum : goal.overflow_add-sum
overflow_add-sum c =
    let list = c.values-values.result.now in
    let same : list ≡ c.args.row.now = c.values-values.ensures in
    let more = image_more list c.loop-i.i c.index-values-i.result c.loop-i-test.true c.index-values-i.is in
    let all : length (row_image list) ≤ 4098 = omega (arith, image_small c.args.row.now c.requires, ap (λ l. length (row_image l)) same) in
    omega (arith, more, all, c.loop-i.invariant.so_far, c.value_len-sum.ensures)

pub returns-clause-value : goal.returns-clause-value
returns-clause-value c =
    let list = c.values-values.result.now in
    let same : list ≡ c.args.row.now = c.values-values.ensures in
    omega (arith, c.loop-i.invariant.so_far, ap (λ l. length (flat_map value_spelling l)) (take_all c.loop-i.i list c.loop-i-test.false), length-row_image list, ap (λ l. length (row_image l)) same)

pub returns-clause-small : goal.returns-clause-small
returns-clause-small c =
    let list = c.values-values.result.now in
    let same : list ≡ c.args.row.now = c.values-values.ensures in
    omega (
      arith,
      c.loop-i.invariant.so_far,
      ap (λ l. length (flat_map value_spelling l)) (take_all c.loop-i.i list c.loop-i-test.false),
      length-row_image list,
      ap (λ l. length (row_image l)) same,
      image_small c.args.row.now c.requires,
    )
