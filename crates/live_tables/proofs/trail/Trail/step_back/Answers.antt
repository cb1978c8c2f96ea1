use Rattle.std.proofs.Common.{◌≡◌, ◌∙◌, ◌++◌, ◌∷◌, [], None, true, sym, subst}
use Rattle.std.specs.Prelude.{slice_get}
use Rattle.std.specs.Option.{option_copied}
use Rattle.log_tables.specs.Changes.{names_table}
use Rattle.live_tables.specs.Places.{edited, AreWithin, Tells, WalksBack}
use Rattle.live_tables.proofs.TrailLemmas.{back_beside, told_created, told_dropped, told_by, stood_by, edit_when, told_row, back_row}
use Rattle.live_tables.proofs.trail.Trail.step_back.Goals as goal

pub returns-then-not-is_of-clause-stood : goal.returns-then-not-is_of-clause-stood
returns-then-not-is_of-clause-stood c =
    back_beside c.args.name.now c.args.self.now.tables (c.args.self.now.changes ++ c.args.own.now) c.args.change.now c.args.key c.args.place
    (sym c.if-not-is_of.ensures)

pub returns-in-Create-clause-told : goal.returns-in-Create-clause-told
returns-in-Create-clause-told c =
    let cs = c.args.self.now.changes ++ c.args.own.now in
    let it = c.in-Create in
    let own = subst (λ x. names_table c.args.name.now x ≡ true) it.is (sym c.is_of.ensures ∙ c.if-not-is_of.false) in
    subst (λ x. Tells c.args.name.now c.args.self.now.tables (cs ++ x ∷ []) c.args.key c.args.place None) (sym it.is)
    (told_created c.args.name.now c.args.self.now.tables cs it.table it.engine it.schema c.args.key c.args.place own)

pub returns-in-Drop-clause-told : goal.returns-in-Drop-clause-told
returns-in-Drop-clause-told c =
    let cs = c.args.self.now.changes ++ c.args.own.now in
    let it = c.in-Drop in
    let own = subst (λ x. names_table c.args.name.now x ≡ true) it.is (sym c.is_of.ensures ∙ c.if-not-is_of.false) in
    subst (λ x. Tells c.args.name.now c.args.self.now.tables (cs ++ x ∷ []) c.args.key c.args.place None) (sym it.is)
    (told_dropped c.args.name.now c.args.self.now.tables cs it.table c.args.key c.args.place own)

pub returns-in_default-clause-told : goal.returns-in_default-clause-told
returns-in_default-clause-told c =
    let cs = c.args.self.now.changes ++ c.args.own.now in
    let own = sym c.is_of.ensures ∙ c.if-not-is_of.false in
    let edit = edit_when c.args.change.now c.in_default.not-Create c.in_default.not-Drop c.in_default.not-Install c.in_default.not-Uninstall in
    let new = option_copied c.new_row.result in
    told_by c.stood.result (AreWithin c.moves.result new) (λ r rows. slice_get (edited c.moves.result new rows) c.args.place ≡ option_copied r)
    (λ r. Tells c.args.name.now c.args.self.now.tables (cs ++ c.args.change.now ∷ []) c.args.key c.args.place (option_copied r)) c.stood.ensures.told
    (λ r tells. told_row c.args.name.now c.args.self.now.tables cs c.args.change.now c.args.key c.moves.result c.args.place (option_copied r) new edit own c.moves.ensures c.new_row.ensures tells)

pub returns-in_default-clause-stood : goal.returns-in_default-clause-stood
returns-in_default-clause-stood c =
    let cs = c.args.self.now.changes ++ c.args.own.now in
    let own = sym c.is_of.ensures ∙ c.if-not-is_of.false in
    let edit = edit_when c.args.change.now c.in_default.not-Create c.in_default.not-Drop c.in_default.not-Install c.in_default.not-Uninstall in
    let new = option_copied c.new_row.result in
    stood_by c.stood.result (AreWithin c.moves.result new) (λ p rows. slice_get (edited c.moves.result new rows) c.args.place ≡ slice_get rows p)
    (λ p. WalksBack c.args.name.now c.args.self.now.tables (cs ++ c.args.change.now ∷ []) cs c.args.key c.args.place p) c.stood.ensures.stood
    (λ p stood. back_row c.args.name.now c.args.self.now.tables cs c.args.change.now c.args.key c.moves.result c.args.place p new edit own c.moves.ensures c.new_row.ensures stood)
