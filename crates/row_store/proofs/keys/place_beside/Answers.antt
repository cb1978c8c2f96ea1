use Rattle.std.proofs.Common.{rules, ◌<◌, length}
use Rattle.row_store.specs.Slots.{rows_in}
use Rattle.row_store.proofs.KeyLemmas.{rows_length}
use Rattle.row_store.proofs.FindLemmas.{moves_there}
use Rattle.row_store.proofs.keys.place_beside.Goals as goal

pub returns-in-None-clause-found : goal.returns-in-None-clause-found
returns-in-None-clause-found c = λ ordered.
    let rows = rows_in c.args.slots.now c.args.order.now.items in
    let size = rows_length c.args.slots.now c.args.order.now.items in
    let within : c.args.i < length rows = search (rules, size) in
    moves_there c.args.key rows c.args.i c.args.row.now c.in-None.is within
