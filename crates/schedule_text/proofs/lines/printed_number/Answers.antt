use Rattle.std.proofs.Common.{List, ℕ, ◌<◌, get_or, sym, subst, arith}
use Rattle.schedule_text.proofs.NumberLemmas.{none_has, not_printed, no_text, ok_has, printed_text, number_read, number_ok}
use Rattle.schedule_text.proofs.lines.printed_number.Goals as goal

pub returns-then-not-starts_above_zero : goal.returns-then-not-starts_above_zero
returns-then-not-starts_above_zero c = not_printed c.starts_above_zero.result c.args.digits.now c.if-not-starts_above_zero.true
    c.starts_above_zero.ensures.1

pub returns-in_err-ok : goal.returns-in_err-ok
returns-in_err-ok c = none_has _ _ _ c.from_residual.ensures
    (λ number up e. no_text _ _ c.from_utf8.result c.ok.result c.ok.ensures.value c.in_err-ok.was c.from_utf8.ensures.cases
    (printed_text c.args.digits.now number (omega (arith, up.1)) e))

pub returns : goal.returns
returns c =
    let read = ok_has _ _ c.from_utf8.result c.ok.result c.in_ok-ok.field-0 c.ok.ensures.value c.in_ok-ok.was c.from_utf8.ensures.cases in
    let same = read.0 in
    let starts = subst (λ (l : List ℕ). 48 < get_or l 0 0) (sym same) (c.starts_above_zero.ensures.0 c.if-not-starts_above_zero.false) in
    number_ok c.in_ok-ok.field-0.now c.args.digits.now c.parse.result c.ok-2.result c.ok-2.ensures.value same
    (number_read c.in_ok-ok.field-0.now c.parse.result starts c.parse.ensures.value.0)
