use Rattle.std.proofs.Common.{rules, ◌≡◌, ◌≢◌, ◌<◌, ◌≤◌, length}
use Rattle.row_store.specs.Slots.{rows_in}
use Rattle.row_store.proofs.KeyLemmas.{rows_length}
use Rattle.row_store.proofs.FindLemmas.{moves_same, moves_nowhere, moves_behind, moves_before}
use Rattle.row_store.proofs.keys.place_by_key.Goals as goal

pub returns-then-j-i-clause-found : goal.returns-then-j-i-clause-found
returns-then-j-i-clause-found c = λ ordered.
    let rows = rows_in c.args.slots.now c.args.order.now.items in
    let size = rows_length c.args.slots.now c.args.order.now.items in
    let within : c.args.i < length rows = search (rules, size) in
    let same : c.in-Ok.j ≡ c.args.i = search rules in
    moves_same c.args.column c.args.row.now rows c.args.i c.in-Ok.j ordered within (c.in-Ok.ensures.found ordered) same

pub returns-else-j-i-clause-found : goal.returns-else-j-i-clause-found
returns-else-j-i-clause-found c = λ ordered.
    let rows = rows_in c.args.slots.now c.args.order.now.items in
    let size = rows_length c.args.slots.now c.args.order.now.items in
    let within : c.args.i < length rows = search (rules, size) in
    let other : c.in-Ok.j ≢ c.args.i = search rules in
    moves_nowhere c.args.column c.args.row.now rows c.args.i c.in-Ok.j within (c.in-Ok.ensures.found ordered) other

pub returns-then-j-i-2-clause-found : goal.returns-then-j-i-2-clause-found
returns-then-j-i-2-clause-found c = λ ordered.
    let rows = rows_in c.args.slots.now c.args.order.now.items in
    let size = rows_length c.args.slots.now c.args.order.now.items in
    let within : c.args.i < length rows = search (rules, size) in
    let behind : c.args.i < c.in-Err.j = search rules in
    moves_behind c.args.column c.args.row.now rows c.args.i c.in-Err.j ordered within (c.in-Err.ensures.found ordered) behind

pub returns-else-j-i-2-clause-found : goal.returns-else-j-i-2-clause-found
returns-else-j-i-2-clause-found c = λ ordered.
    let rows = rows_in c.args.slots.now c.args.order.now.items in
    let size = rows_length c.args.slots.now c.args.order.now.items in
    let within : c.args.i < length rows = search (rules, size) in
    let low : c.in-Err.j ≤ c.args.i = search rules in
    moves_before c.args.column c.args.row.now rows c.args.i c.in-Err.j ordered within (c.in-Err.ensures.found ordered) low
