use Rattle.std.proofs.Common.{◌≡◌, ◌∙◌, sym, ap, subst, position, get_or, OnOk}
use Rattle.engine_api.specs.States.{Pending, is_by}
use Rattle.live_tables.proofs.OpenLemmas.{first_added, next_added}
use Rattle.live_tables.proofs.pending.add_change.Goals as goal

pub returns-in_default-clause-ok : goal.returns-in_default-clause-ok
returns-in_default-clause-ok c =
    let is = c.in_default.ensures ∙ ap (position (is_by c.args.txn)) c.deref.ensures.value in
    subst (λ l. OnOk c.begin.result (c.begin.new.pending.items ≡ l)) (first_added c.args.txn c.args.pending.now.items c.args.change is) c.begin.ensures.ok

pub returns-clause-ok : goal.returns-clause-ok
returns-clause-ok c =
    let xs = c.args.pending.now.items in
    let is = c.in-Some.ensures ∙ ap (position (is_by c.args.txn)) c.deref.ensures.value in
    let inside : Pending = record { txn = c.behind-pending.inside.txn; under = c.behind-pending.inside.under; changes = c.behind-pending.inside.changes.items } in
    let at : inside ≡ get_or xs c.in-Some.i inside = subst (λ (o : Pending). o ≡ get_or xs c.in-Some.i o) (sym c.behind-pending.view_is) c.index_mut.ensures.value in
    c.push_reserved.ensures.items
    ∙ next_added c.args.txn xs c.in-Some.i inside c.push.new.self.items c.args.change c.remove-it.new.self.items c.remove-it.result c.requires.distinct c.requires.unprepared is at
    c.in_ok-push.ensures.items c.remove-it.ensures.items c.remove-it.ensures.value
