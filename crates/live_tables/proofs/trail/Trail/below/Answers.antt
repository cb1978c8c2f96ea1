use Rattle.std.proofs.Common.{◌≡◌, ◌∙◌, ◌++◌, [], ap, subst}
use Rattle.engine_api.specs.States.{changes_in}
use Rattle.engine_api.specs.Live.{rows_found}
use Rattle.live_tables.specs.Folds.{Applied, through}
use Rattle.live_tables.specs.Places.{Track, sum_step, one_below, below, found_behind}
use Rattle.live_tables.proofs.BelowLemmas.{sum_after}
use Rattle.live_tables.proofs.TrailLemmas.{three}
use Rattle.live_tables.proofs.trail.Trail.below.Goals as goal

pub returns-clause-value : goal.returns-clause-value
returns-clause-value c =
    let it = c.self.inside in
    let n = c.args.name.now in
    let own = c.args.own.now in
    let step = sum_step (one_below c.args.column c.args.key.now) n in
    subst (λ (t : Track). Applied t.tables (t.changes ++ own) → c.below_through.result ≡ below c.args.column c.args.key.now (rows_found (found_behind n t.tables (t.changes ++ own)))) c.self.view_is
    (λ applied.
    c.below_through.ensures.value
    ∙ ap (through step own) (c.below_by-opened.ensures.value ∙ ap (through step (changes_in it.opens.now)) (c.below_through-done.ensures.value ∙ ap (through step it.done.now) c.below-stored.ensures.value))
    ∙ three step it.done.now (changes_in it.opens.now) own (below c.args.column c.args.key.now (rows_found (found_behind n it.tables.now [])))
    ∙ sum_after (one_below c.args.column c.args.key.now) n ((it.done.now ++ changes_in it.opens.now) ++ own) it.tables.now applied)
