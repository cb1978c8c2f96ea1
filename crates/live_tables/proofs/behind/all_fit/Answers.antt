use Rattle.std.proofs.Common.{◌∙◌, refl, sym, ap, arith}
use Rattle.std.proofs.lemmas.List.{take_all}
use Rattle.log_tables.specs.Changes.{after_changes, all_apply}
use Rattle.live_tables.proofs.FitLemmas.{fit_more, fit_stops}
use Rattle.live_tables.proofs.behind.all_fit.Goals as goal

pub loop-i-init : goal.loop-i-init
loop-i-init c = λ made fit. refl

pub loop-i-preserved : goal.loop-i-preserved
loop-i-preserved c = λ made fit.
    fit_more c.args.done.now c.args.changes.now c.args.tables.now c.loop-i.i c.index-changes-i.result c.loop-i-test.true c.index-changes-i.is fit (c.loop-i.invariant made fit)
    (λ all. c.if-not-applies.ensures (record { made = made; fit = all }))

pub returns-then-not-applies : goal.returns-then-not-applies
returns-then-not-applies c = λ made fit.
    fit_stops c.args.done.now c.args.changes.now c.args.tables.now c.loop-i.i c.index-changes-i.result c.loop-i-test.true c.index-changes-i.is fit (c.loop-i.invariant made fit)
    (λ all. c.if-not-applies.ensures (record { made = made; fit = all }))

pub returns : goal.returns
returns c = λ made fit.
    let base = after_changes c.args.done.now c.args.tables.now in
    sym (ap (λ l. all_apply l base) (sym (take_all c.loop-i.i c.args.changes.now (omega arith))) ∙ c.loop-i.invariant made fit)
