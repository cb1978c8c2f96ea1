use Rattle.std.proofs.Common.{arith, sym, ◌∙◌}
use Rattle.std.proofs.lemmas.Option.{slice_get_within, get_or_from_slice_get}
use Rattle.row_store.specs.Slots.{rows_in}
use Rattle.row_store.proofs.KeyLemmas.{place_found, is_equal, is_other, rows_length, past, order_there}
use Rattle.row_store.proofs.FindLemmas.{found_there}
use Rattle.row_store.proofs.keys.find_key.Goals as goal

pub returns-in-None-clause-found : goal.returns-in-None-clause-found
returns-in-None-clause-found c = λ ordered.
    let rows = rows_in c.args.slots.now c.args.order.now.items in
    let size = rows_length c.args.slots.now c.args.order.now.items in
    let within = c.count_below-i.ensures.within in
    let past_all = past c.args.order.now.items c.count_below-i.result c.in-None.ensures in
    place_found c.args.column c.args.key.now rows c.count_below-i.result (c.count_below-i.ensures.parted ordered) (omega (arith, size, within)) (λ h. absurd (omega (arith, h, size, past_all)))

pub returns-then-eq-clause-found : goal.returns-then-eq-clause-found
returns-then-eq-clause-found c = λ ordered.
    let rows = rows_in c.args.slots.now c.args.order.now.items in
    let size = rows_length c.args.slots.now c.args.order.now.items in
    let there = sym c.in-Some.ensures in
    let lt = slice_get_within c.args.order.now.items c.count_below-i.result c.in-Some.slot there in
    let is = get_or_from_slice_get c.args.order.now.items c.count_below-i.result c.in-Some.slot 0 there in
    found_there c.args.column c.args.key.now rows c.count_below-i.result (omega (arith, lt, size))
    (order_there c.args.slots.now c.args.order.now.items c.args.column c.args.key.now c.count_below-i.result c.in-Some.slot c.key_order.result lt is c.key_order.ensures ∙ is_equal c.key_order.result (sym c.if-eq.ensures))

pub returns-else-eq-clause-found : goal.returns-else-eq-clause-found
returns-else-eq-clause-found c = λ ordered.
    let rows = rows_in c.args.slots.now c.args.order.now.items in
    let size = rows_length c.args.slots.now c.args.order.now.items in
    let there = sym c.in-Some.ensures in
    let lt = slice_get_within c.args.order.now.items c.count_below-i.result c.in-Some.slot there in
    let is = get_or_from_slice_get c.args.order.now.items c.count_below-i.result c.in-Some.slot 0 there in
    let within = c.count_below-i.ensures.within in
    let stands = order_there c.args.slots.now c.args.order.now.items c.args.column c.args.key.now c.count_below-i.result c.in-Some.slot c.key_order.result lt is c.key_order.ensures in
    place_found c.args.column c.args.key.now rows c.count_below-i.result (c.count_below-i.ensures.parted ordered) (omega (arith, size, within)) (λ h e. is_other c.key_order.result (sym c.if-eq.ensures) (sym stands ∙ e))
