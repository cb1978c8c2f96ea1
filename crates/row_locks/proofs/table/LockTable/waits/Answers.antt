use Rattle.std.proofs.Common.{◌∙◌, ◌++◌, ◌==◌, List, None, position, take, sym, ap, subst}
use Rattle.row_locks.specs.declared.lock.Request.{Request}
use Rattle.row_locks.specs.Queues.{Locks, first, in_way, holder_of}
use Rattle.row_locks.specs.Answers.{IsSound}
use Rattle.row_locks.proofs.SoundLemmas.{idle_iff}
use Rattle.row_locks.proofs.NextLemmas.{holder_none, holder_at}
use Rattle.row_locks.proofs.table.LockTable.waits.Goals as goal

pub returns-in_default-clause-value : goal.returns-in_default-clause-value
returns-in_default-clause-value c =
    let locks : Locks = record { granted = c.self.inside.granted.items; waits = c.self.inside.waits.items } in
    holder_none locks c.args.owner (ap (position (λ it. it.owner == c.args.owner)) (sym c.deref.ensures.value) ∙ sym c.place_of.ensures ∙ c.in_default.is)
    ∙ ap (λ (l : Locks). holder_of l c.args.owner) c.self.view_is

pub returns-clause-value : goal.returns-clause-value
returns-clause-value c =
    let locks : Locks = record { granted = c.self.inside.granted.items; waits = c.self.inside.waits.items } in
    let x = c.index.result.now in
    let k = c.in-Some.k in
    c.first_in_way.ensures
    ∙ ap (λ (l : List Request). first (in_way (l ++ take k c.deref-3.result.now) x)) c.deref-2.ensures.value
    ∙ ap (λ (l : List Request). first (in_way (locks.granted ++ take k l) x)) c.deref-3.ensures.value
    ∙ holder_at locks c.args.owner k x c.self.invariant.0.once (ap (position (λ it. it.owner == c.args.owner)) (sym c.deref.ensures.value) ∙ sym c.place_of.ensures ∙ c.in-Some.is) c.index.ensures
    ∙ ap (λ (l : Locks). holder_of l c.args.owner) c.self.view_is

pub returns-in_default-clause-idle : goal.returns-in_default-clause-idle
returns-in_default-clause-idle c = idle_iff c.args.self.now c.args.owner None (subst IsSound c.self.view_is c.self.invariant.0) (returns-in_default-clause-value c)

pub returns-clause-idle : goal.returns-clause-idle
returns-clause-idle c = idle_iff c.args.self.now c.args.owner c.first_in_way.result (subst IsSound c.self.view_is c.self.invariant.0) (returns-clause-value c)
