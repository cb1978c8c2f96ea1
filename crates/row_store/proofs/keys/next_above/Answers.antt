use Rattle.std.proofs.Common.{◌+◌, sym, ◌∙◌}
use Rattle.row_store.specs.Slots.{rows_in}
use Rattle.row_store.proofs.KeyLemmas.{rows_length}
use Rattle.row_store.proofs.FindLemmas.{up_to_own, up_to_place, first_is}
use Rattle.row_store.proofs.keys.next_above.Goals as goal

pub returns-in-Ok-clause-found : goal.returns-in-Ok-clause-found
returns-in-Ok-clause-found c = λ ordered.
    let rows = rows_in c.args.slots.now c.args.order.now.items in
    let size = rows_length c.args.slots.now c.args.order.now.items in
    first_is c.args.column c.args.low.now rows (c.in-Ok.i + 1) c.len-len.result c.then_some.result (up_to_own c.args.column c.args.low.now rows c.in-Ok.i ordered (c.in-Ok.ensures.found ordered)) (c.len-len.ensures ∙ sym size) c.then_some.ensures

pub returns-in-Err-clause-found : goal.returns-in-Err-clause-found
returns-in-Err-clause-found c = λ ordered.
    let rows = rows_in c.args.slots.now c.args.order.now.items in
    let size = rows_length c.args.slots.now c.args.order.now.items in
    first_is c.args.column c.args.low.now rows c.in-Err.i c.len-len.result c.then_some-in-Err.result (up_to_place c.args.column c.args.low.now rows c.in-Err.i (c.in-Err.ensures.found ordered)) (c.len-len.ensures ∙ sym size) c.then_some-in-Err.ensures
