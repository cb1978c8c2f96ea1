use Rattle.std.proofs.Common.{◌∙◌, sym, ap, arith}
use Rattle.sql_value.specs.Values.{value_cmp}
use Rattle.redo_journal.specs.Index.{key_at}
use Rattle.redo_journal.proofs.IndexLemmas.{first_place, place_found, key_found, is_equal, is_other}
use Rattle.redo_journal.proofs.index.place_for.Goals as goal

pub returns-in-None-clause-found : goal.returns-in-None-clause-found
returns-in-None-clause-found c = λ rows are ordered.
    place_found c.args.records.now c.args.column c.args.key.now c.args.places.now rows c.count_below-i.result are (c.count_below-i.ensures.parted rows are ordered) c.count_below-i.ensures.within (λ h. absurd (omega (arith, c.in-None.ensures.lookup.3)))

pub returns-then-eq-clause-found : goal.returns-then-eq-clause-found
returns-then-eq-clause-found c = λ rows are ordered.
    let at = c.in-Some.ensures.lookup.3 in
    key_found c.args.records.now c.args.column c.args.key.now c.args.places.now rows c.count_below-i.result are at.0
    (ap (λ p. value_cmp (key_at c.args.records.now c.args.column p) c.args.key.now) (sym (at.1 first_place)) ∙ sym c.key_order.ensures ∙ is_equal c.key_order.result (sym c.if-eq.ensures))

pub returns-else-eq-clause-found : goal.returns-else-eq-clause-found
returns-else-eq-clause-found c = λ rows are ordered.
    let at = c.in-Some.ensures.lookup.3.1 in
    place_found c.args.records.now c.args.column c.args.key.now c.args.places.now rows c.count_below-i.result are (c.count_below-i.ensures.parted rows are ordered) c.count_below-i.ensures.within
    (λ h e. is_other c.key_order.result (sym c.if-eq.ensures) (c.key_order.ensures ∙ ap (λ p. value_cmp (key_at c.args.records.now c.args.column p) c.args.key.now) (at first_place) ∙ e))
