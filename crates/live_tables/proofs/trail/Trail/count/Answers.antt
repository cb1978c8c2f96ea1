use Rattle.std.proofs.Common.{◌≡◌, ◌∙◌, ◌++◌, [], length, ap, sym, subst}
use Rattle.engine_api.specs.States.{changes_in}
use Rattle.engine_api.specs.Live.{rows_found}
use Rattle.live_tables.specs.Folds.{Applied, through, rows_step}
use Rattle.live_tables.specs.Places.{Track, found_behind}
use Rattle.live_tables.proofs.FoldLemmas.{count_after}
use Rattle.live_tables.proofs.TrailLemmas.{three}
use Rattle.live_tables.proofs.trail.Trail.count.Goals as goal

pub returns : goal.returns
returns c =
    let it = c.self.inside in
    let n = c.args.name.now in
    let own = c.args.own.now in
    let step = rows_step n in
    subst (λ (t : Track). Applied t.tables (t.changes ++ own) → c.rows_through.result ≡ length (rows_found (found_behind n t.tables (t.changes ++ own)))) c.self.view_is
    (λ applied.
    c.rows_through.ensures.value
    ∙ ap (through step own) (c.rows_by-opened.ensures.value ∙ ap (through step (changes_in it.opens.now)) (c.rows_through-done.ensures.value ∙ ap (through step it.done.now) c.rows-stored.ensures.value))
    ∙ three step it.done.now (changes_in it.opens.now) own (length (rows_found (found_behind n it.tables.now [])))
    ∙ sym (count_after n ((it.done.now ++ changes_in it.opens.now) ++ own) it.tables.now applied.made applied.fit))
