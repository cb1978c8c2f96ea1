use Rattle.std.proofs.Common.{◌≡◌, None, true, false, sym, ap, ◌∙◌, is_some}
use Rattle.sql_value.specs.Values.{same_value}
use Rattle.log_tables.specs.Keys.{key_in, row_with}
use Rattle.log_tables.proofs.PartLemmas.{cond_true, cond_false}
use Rattle.log_tables.proofs.KeyLemmas.{row_with-without}
use Rattle.log_tables.proofs.plain.is_taken.Goals as goal

pub returns-then-has_key : goal.returns-then-has_key
returns-then-has_key c =
    let j = key_in c.args.column c.args.before.now in
    let k = key_in c.args.column c.args.after.now in
    let same : same_value j k ≡ true = ap (same_value j) (sym c.value_at.ensures) ∙ sym c.has_key.ensures ∙ c.if-has_key.true in
    sym (ap is_some (row_with-without c.args.column j k c.args.rows.now ∙ cond_true (same_value j k) None (row_with c.args.column k c.args.rows.now) same))

pub returns : goal.returns
returns c =
    let j = key_in c.args.column c.args.before.now in
    let k = key_in c.args.column c.args.after.now in
    let apart : same_value j k ≡ false = ap (same_value j) (sym c.value_at.ensures) ∙ sym c.has_key.ensures ∙ c.if-has_key.false in
    c.has_key_of.ensures
    ∙ sym (ap is_some (row_with-without c.args.column j k c.args.rows.now ∙ cond_false (same_value j k) None (row_with c.args.column k c.args.rows.now) apart))
