use Rattle.std.proofs.Common.{◌≡◌, length, arith, sym, ap, ◌∙◌, Some, None, is_some, unwrap_or, false}
use Rattle.std.specs.Prelude.{insert}
use Rattle.log_tables.specs.Keys.{key_in, row_with, place_above, in_key_order}
use Rattle.log_tables.proofs.PartLemmas.{cond_false}
use Rattle.log_tables.proofs.PlainLemmas.{place_above-within, in_key_order-insert}
use Rattle.log_tables.proofs.plain.insert_in_order.Goals as goal

pub insert-requires : goal.insert-requires
insert-requires c =
    let same : c.deref-2.result.now ≡ c.args.rows.now = c.deref-2.ensures.value ∙ c.rows.view_is in
    let at : c.place_for-place.result ≡ place_above c.args.column c.args.row c.args.rows.now = c.place_for-place.ensures ∙ ap (place_above c.args.column c.args.row) same in
    let long : length c.deref-2.result.now ≡ length c.args.rows.now = ap length same in
    let within = place_above-within c.args.column c.args.row c.args.rows.now in
    omega (arith, at, long, within)

pub returns : goal.returns
returns c =
    let first : c.deref.result.now ≡ c.args.rows.now = c.deref.ensures.value ∙ c.rows.view_is in
    let same : c.deref-2.result.now ≡ c.args.rows.now = c.deref-2.ensures.value ∙ c.rows.view_is in
    let at : c.place_for-place.result ≡ place_above c.args.column c.args.row c.args.rows.now = c.place_for-place.ensures ∙ ap (place_above c.args.column c.args.row) same in
    let free : is_some (row_with c.args.column (key_in c.args.column c.args.row) c.args.rows.now) ≡ false =
    sym (c.has_key_of.ensures ∙ ap (λ xs. is_some (row_with c.args.column (key_in c.args.column c.args.row) xs)) first) ∙ c.if-has_key_of.false in
    c.in_ok-insert.ensures.items
    ∙ ap (λ xs. insert xs c.place_for-place.result c.args.row) c.rows.view_is
    ∙ ap (λ i. insert c.args.rows.now i c.args.row) at
    ∙ sym (in_key_order-insert c.args.column c.args.row c.args.rows.now)
    ∙ sym (ap (λ o. unwrap_or o c.args.rows.now) (cond_false (is_some (row_with c.args.column (key_in c.args.column c.args.row) c.args.rows.now)) None (Some (in_key_order c.args.column c.args.row c.args.rows.now)) free))
