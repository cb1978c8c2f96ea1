use Rattle.std.proofs.Common.{◌≡◌, ◌∙◌, ◌++◌, Some, None, true, ap, sym, subst}
use Rattle.row_format.specs.declared.change.Change.TheVariants.{Insert, Update, Delete}
use Rattle.log_tables.specs.Changes.{takes}
use Rattle.engine_api.specs.Live.{rows_found}
use Rattle.live_tables.specs.Places.{goes_at, stands_at, update_moves, Makes}
use Rattle.live_tables.proofs.TrailLemmas.{table_in_order}
use Rattle.live_tables.proofs.MovesLemmas.{insert_makes, update_makes, delete_makes}
use Rattle.live_tables.proofs.trail.Trail.moves.Goals as goal

pub returns-in-Insert : goal.returns-in-Insert
returns-in-Insert c = λ t applied is keyed fit.
    let own = c.args.self.now.changes ++ c.args.own.now in
    let change = Insert c.in-Insert.map c.in-Insert.row in
    let fit_here : takes change (Some t) ≡ true = subst (λ x. takes x (Some t) ≡ true) c.in-Insert.is fit in
    let at : c.goes.result ≡ goes_at t.definition.schema.key c.in-Insert.row t.rows =
    c.goes.ensures applied ∙ ap (λ o. goes_at c.args.key c.in-Insert.row (rows_found o)) is ∙ ap (λ k. goes_at k c.in-Insert.row t.rows) (sym keyed) in
    subst (λ x. Makes (record { from = None; to = Some c.goes.result }) x t) (sym c.in-Insert.is)
    (insert_makes c.in-Insert.map c.in-Insert.row t c.goes.result (table_in_order c.args.name.now c.args.self.now.tables own t applied is) fit_here at)

pub returns-in-Update : goal.returns-in-Update
returns-in-Update c = λ t applied is keyed fit.
    let own = c.args.self.now.changes ++ c.args.own.now in
    let it = c.in-Update in
    let change = Update it.map it.place it.before it.after in
    let fit_here : takes change (Some t) ≡ true = subst (λ x. takes x (Some t) ≡ true) it.is fit in
    let at : c.update_moves.result ≡ update_moves t.definition.schema.key it.place it.before it.after t.rows =
    c.update_moves.ensures applied ∙ ap (λ o. update_moves c.args.key it.place it.before it.after (rows_found o)) is ∙ ap (λ k. update_moves k it.place it.before it.after t.rows) (sym keyed) in
    subst (λ x. Makes c.update_moves.result x t) (sym it.is)
    (subst (λ m. Makes m change t) (sym at) (update_makes it.map it.place it.before it.after t (table_in_order c.args.name.now c.args.self.now.tables own t applied is) fit_here))

pub returns-in-Delete : goal.returns-in-Delete
returns-in-Delete c = λ t applied is keyed fit.
    let own = c.args.self.now.changes ++ c.args.own.now in
    let it = c.in-Delete in
    let change = Delete it.map it.place it.before in
    let fit_here : takes change (Some t) ≡ true = subst (λ x. takes x (Some t) ≡ true) it.is fit in
    let at : c.stands.result ≡ stands_at t.definition.schema.key it.place it.before t.rows =
    c.stands.ensures applied ∙ ap (λ o. stands_at c.args.key it.place it.before (rows_found o)) is ∙ ap (λ k. stands_at k it.place it.before t.rows) (sym keyed) in
    subst (λ x. Makes (record { from = Some c.stands.result; to = None }) x t) (sym it.is)
    (delete_makes it.map it.place it.before t c.stands.result (table_in_order c.args.name.now c.args.self.now.tables own t applied is) fit_here at)
