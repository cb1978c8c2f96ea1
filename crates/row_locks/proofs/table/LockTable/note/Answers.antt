use Rattle.std.proofs.Common.{◌≡◌, ◌∙◌, List, [], ◌∷◌, ◌++◌, false, sym, ap, subst, arith}
use Rattle.row_locks.specs.declared.lock.Request.{Request}
use Rattle.row_locks.specs.Queues.{Locks, queue, among, owners, is_free, waits_for, with_wait}
use Rattle.row_locks.specs.Cycles.{NoneBegins}
use Rattle.row_locks.specs.Answers.{IsSound}
use Rattle.row_locks.specs.Inside.{FitNumbers}
use Rattle.row_locks.proofs.SoundLemmas.{sound_with_wait, fits_push}
use Rattle.row_locks.proofs.table.LockTable.note.Goals as goal

pub invariant_of-self-2 : goal.invariant_of-self-2
invariant_of-self-2 c =
    let it = c.args.it in
    let locks : Locks = record { granted = c.self.inside.granted.items; waits = c.self.inside.waits.items } in
    let free : among it.owner (owners locks.waits) ≡ false = ap (λ (l : Locks). among it.owner (owners l.waits)) c.self.view_is ∙ c.requires.idle in
    let blocked : is_free (queue locks) it ≡ false = ap (λ (l : Locks). is_free (queue l) it) c.self.view_is ∙ c.requires.blocked in
    let none = subst (λ (l : Locks). NoneBegins (waits_for (with_wait it l)) it.owner) (sym c.self.view_is) c.requires.no_cycle in
    let sound = sound_with_wait it locks c.self.invariant.0 free blocked none in
    let at = λ (us vs : List Request). IsSound (record { granted = us; waits = vs }) in (
      subst (at c.reserve.new.self.items) (sym c.in_ok-push.ensures.items) (subst (λ us. at us (locks.waits ++ it ∷ [])) (sym c.in_ok-reserve.ensures.items) sound),
      subst FitNumbers (sym c.in_ok-push.ensures.items) (fits_push locks.waits it c.self.invariant.1 c.requires.number),
      omega (arith, c.in_ok-push.ensures.len, c.in_ok-reserve.ensures.len, c.in_ok-reserve.ensures.ok, c.len.ensures),
    )

pub returns-clause-sound : goal.returns-clause-sound
returns-clause-sound c = (invariant_of-self-2 c).0
