use Rattle.std.proofs.Common.{◌≡◌, ◌∙◌, List, [], ◌∷◌, ◌++◌, sym, ap, subst, arith, false}
use Rattle.row_locks.specs.declared.lock.Request.{Request}
use Rattle.row_locks.specs.Queues.{Locks, among, owners}
use Rattle.row_locks.specs.Answers.{IsSound}
use Rattle.row_locks.proofs.SoundLemmas.{sound_with_lock}
use Rattle.row_locks.proofs.table.LockTable.grant.Goals as goal

pub invariant_of-self-2 : goal.invariant_of-self-2
invariant_of-self-2 c =
    let waits = c.self.inside.waits.items in
    let locks : Locks = record { granted = c.self.inside.granted.items; waits = waits } in
    let free : among c.args.it.owner (owners waits) ≡ false = ap (λ (l : Locks). among c.args.it.owner (owners l.waits)) c.self.view_is ∙ c.requires in
    let items : c.push_reserved.new.self.items ≡ locks.granted ++ c.args.it ∷ [] = c.push_reserved.ensures.items ∙ ap (λ l. l ++ c.args.it ∷ []) c.in_ok-reserve.ensures.items in (
      subst (λ (l : List Request). IsSound (record { granted = l; waits = waits })) (sym items) (sound_with_lock c.args.it locks c.self.invariant.0 free),
      c.self.invariant.1,
      omega (arith, c.push_reserved.ensures.len, c.push_reserved.ensures.capacity, c.in_ok-reserve.ensures.len, c.in_ok-reserve.ensures.ok, c.len.ensures),
    )

pub returns-clause-sound : goal.returns-clause-sound
returns-clause-sound c = (invariant_of-self-2 c).0
