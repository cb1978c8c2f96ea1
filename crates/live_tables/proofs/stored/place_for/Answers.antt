use Rattle.std.proofs.Common.{◌∙◌, [], sym, ap, arith}
use Rattle.sql_value.specs.Values.{value_cmp}
use Rattle.log_tables.specs.Keys.{key_in}
use Rattle.live_tables.proofs.StoredLemmas.{place_found, key_found, is_equal, is_other}
use Rattle.live_tables.proofs.stored.place_for.Goals as goal

pub returns-in-None-clause-found : goal.returns-in-None-clause-found
returns-in-None-clause-found c = λ ordered.
    place_found c.args.column c.args.key.now c.args.rows.now c.count_below-i.result (c.count_below-i.ensures.parted ordered) c.count_below-i.ensures.within (λ h. absurd (omega (arith, c.in-None.ensures.lookup.3)))

pub returns-then-eq-clause-found : goal.returns-then-eq-clause-found
returns-then-eq-clause-found c = λ ordered.
    let at = c.in-Some.ensures.lookup.3 in
    key_found c.args.column c.args.key.now c.args.rows.now c.count_below-i.result at.0
    (ap (λ r. value_cmp (key_in c.args.column r) c.args.key.now) (sym (at.1 [])) ∙ sym c.key_order.ensures ∙ is_equal c.key_order.result (sym c.if-eq.ensures))

pub returns-else-eq-clause-found : goal.returns-else-eq-clause-found
returns-else-eq-clause-found c = λ ordered.
    let at = c.in-Some.ensures.lookup.3.1 in
    place_found c.args.column c.args.key.now c.args.rows.now c.count_below-i.result (c.count_below-i.ensures.parted ordered) c.count_below-i.ensures.within
    (λ h e. is_other c.key_order.result (sym c.if-eq.ensures) (c.key_order.ensures ∙ ap (λ r. value_cmp (key_in c.args.column r) c.args.key.now) (at []) ∙ e))
