use Rattle.std.proofs.Common.{◌≡◌, ◌∙◌, subst, sym, ap}
use Rattle.row_format.specs.Changes.{IsPlace, AreFitChanges}
use Rattle.sql_effect.specs.Effects.{map_of}
use Rattle.sql_effect.specs.Rewrite.{place_told, made_changes}
use Rattle.sql_effect.proofs.RewriteLemmas.{fit_more, fit_made, place_fits}
use Rattle.sql_effect.proofs.rewrite.go_over.Goals as goal

pub returns-clause-fit : goal.returns-clause-fit
returns-clause-fit c before =
    let map = map_of c.args.definition.now in
    let key = c.args.definition.now.schema.key in
    let at : c.place_told-place.result ≡ place_told key c.args.progress.now.done.items = c.place_told-place.ensures ∙ ap (place_told key) c.deref-2.ensures.value in
    subst AreFitChanges (sym c.in_ok-add_change.ensures)
    (fit_more c.args.progress.now.changes.items (made_changes map c.place_told-place.result c.args.row.now c.in_ok-made.made) before
    (fit_made map c.place_told-place.result c.args.row.now c.in_ok-made.made c.requires.table
    (subst (IsPlace key) (sym at) (place_fits key c.args.progress.now.done.items c.requires.done)) c.requires.row c.in_ok-made.ensures.fit))
