use Rattle.std.proofs.Common.{◌+◌, ◌-◌, ◌/◌, ◌<◌, sym, ◌∙◌, arith}
use Rattle.row_store.specs.Slots.{rows_in}
use Rattle.row_store.proofs.KeyLemmas.{rows_length, parted_above, parted_below}
use Rattle.row_store.proofs.keys.count_below.Goals as goal

pub loop-low-preserved-then-is_below : goal.loop-low-preserved-then-is_below
loop-low-preserved-then-is_below c =
    let rows = rows_in c.args.slots.now c.args.order.now.items in
    let size = rows_length c.args.slots.now c.args.order.now.items in
    let middle = c.loop-low.low + (c.loop-low.high - c.loop-low.low) / 2 in
    let some = c.loop-low-test.true in
    let invariant = c.loop-low.invariant in
    let lt : middle < c.loop-low.high = omega (arith, some) in
    (λ ordered. parted_above c.args.column c.args.key.now rows c.loop-low.low c.loop-low.high middle ordered (omega (arith, lt, size, invariant.2)) (sym c.is_below.ensures ∙ c.if-is_below.true) (invariant.0 ordered), omega (arith, lt), invariant.2)

pub loop-low-preserved : goal.loop-low-preserved
loop-low-preserved c =
    let rows = rows_in c.args.slots.now c.args.order.now.items in
    let middle = c.loop-low.low + (c.loop-low.high - c.loop-low.low) / 2 in
    let some = c.loop-low-test.true in
    let invariant = c.loop-low.invariant in
    (λ ordered. parted_below c.args.column c.args.key.now rows c.loop-low.low c.loop-low.high middle ordered (sym c.is_below.ensures ∙ c.if-is_below.false) (invariant.0 ordered), omega arith, omega (arith, some, invariant.2))
