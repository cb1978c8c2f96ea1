use Rattle.std.proofs.Common.{◌∙◌, [], Some, sym, ap, arith}
use Rattle.std.specs.Option.{option_copied}
use Rattle.sql_value.specs.Values.{value_cmp}
use Rattle.log_tables.specs.Keys.{key_in}
use Rattle.live_tables.proofs.StoredLemmas.{no_row, first_row, is_equal, is_other}
use Rattle.live_tables.proofs.stored.row_of.Goals as goal

pub returns-in_err-row : goal.returns-in_err-row
returns-in_err-row c = λ ordered.
    ap option_copied c.from_residual.ensures
    ∙ sym (no_row c.args.column c.args.key.now c.args.rows.now c.count_below.result ordered (c.count_below.ensures.parted ordered) c.count_below.ensures.within (λ h. absurd (omega (arith, c.in_err-row.ensures.lookup.3))))

pub returns-then-eq : goal.returns-then-eq
returns-then-eq c = λ ordered.
    let at = c.in_ok-row.ensures.lookup.3 in
    ap Some (at.1 [])
    ∙ sym (first_row c.args.column c.args.key.now c.args.rows.now c.count_below.result (c.count_below.ensures.parted ordered) at.0
    (ap (λ r. value_cmp (key_in c.args.column r) c.args.key.now) (sym (at.1 [])) ∙ sym c.key_order.ensures ∙ is_equal c.key_order.result (sym c.if-eq.ensures)))

pub returns-else-eq : goal.returns-else-eq
returns-else-eq c = λ ordered.
    let at = c.in_ok-row.ensures.lookup.3.1 in
    sym (no_row c.args.column c.args.key.now c.args.rows.now c.count_below.result ordered (c.count_below.ensures.parted ordered) c.count_below.ensures.within
    (λ h e. is_other c.key_order.result (sym c.if-eq.ensures) (c.key_order.ensures ∙ ap (λ r. value_cmp (key_in c.args.column r) c.args.key.now) (at []) ∙ e)))
