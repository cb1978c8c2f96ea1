use Rattle.std.proofs.Common.{◌∙◌, position, sym, ap, subst}
use Rattle.log_tables.specs.Gists.{has_xid}
use Rattle.log_tables.specs.Changes.{after_changes, all_apply}
use Rattle.live_tables.specs.Folds.{AreMade}
use Rattle.live_tables.specs.Live.{Live}
use Rattle.live_tables.proofs.OpenLemmas.{found_nowhere, found_there}
use Rattle.live_tables.proofs.LeftLemmas.{some_in_left, can_told, is_left}
use Rattle.live_tables.proofs.live.LiveTables.can_commit.Goals as goal

pub returns-then-self-number-clause-left : goal.returns-then-self-number-clause-left
returns-then-self-number-clause-left c =
    λ p asked left_there.
    let it = c.self.inside in
    let out = c.index.result.now in
    let place = c.in-Some.ensures ∙ ap (position (has_xid c.args.xid)) c.deref.ensures.value in
    let found = found_there (has_xid c.args.xid) it.left.items c.in-Some.i out place c.index.ensures in
    let tables = c.deref-then-self-number.ensures.value in
    let done = c.deref-then-self-number-2.ensures.value in
    let fit = ap (λ l. all_apply l c.deref-then-self-number.result.now) done ∙ ap (λ ts. all_apply it.done.items ts) tables ∙ c.self.invariant.0.done_fit in
    let made = subst AreMade (sym tables) c.self.invariant.0.made in
    let told = c.all_fit.ensures made fit
    ∙ ap (λ l. all_apply l (after_changes c.deref-then-self-number-2.result.now c.deref-then-self-number.result.now)) c.as_slice.ensures
    ∙ ap (λ l. all_apply out.changes (after_changes l c.deref-then-self-number.result.now)) done
    ∙ ap (λ ts. all_apply out.changes (after_changes it.done.items ts)) tables in
    can_told c.args.xid c.args.number it.last c.all_fit.result out p it.tables.items it.done.items it.left.items it.pending.items c.args.self.now.state
    (ap (λ (l : Live). l.state) c.self.view_is) left_there.1 found c.if-self-number.true told asked

pub returns-in-None-clause-left : goal.returns-in-None-clause-left
returns-in-None-clause-left c =
    λ p asked left_there.
    let it = c.self.inside in
    let place = c.in-None.ensures ∙ ap (position (has_xid c.args.xid)) c.deref.ensures.value in
    absurd (some_in_left c.args.xid it.last it.tables.items it.done.items it.left.items it.pending.items c.args.self.now.state (ap (λ (l : Live). l.state) c.self.view_is) left_there
    (sym (found_nowhere (has_xid c.args.xid) it.left.items place)))

pub returns-then-self-number-clause-none : goal.returns-then-self-number-clause-none
returns-then-self-number-clause-none c =
    λ gone.
    let it = c.self.inside in
    let place = c.in-Some.ensures ∙ ap (position (has_xid c.args.xid)) c.deref.ensures.value in
    let found = found_there (has_xid c.args.xid) it.left.items c.in-Some.i c.index.result.now place c.index.ensures in
    absurd (gone (is_left c.args.xid it.last c.index.result.now it.tables.items it.done.items it.left.items it.pending.items c.args.self.now.state
    (ap (λ (l : Live). l.state) c.self.view_is) c.self.invariant.0.xids found))
