use Rattle.std.proofs.Common.{List, [], sym, subst, arith}
use Rattle.row_locks.specs.declared.lock.Request.{Request}
use Rattle.row_locks.specs.Answers.{IsSound}
use Rattle.row_locks.specs.Inside.{FitNumbers}
use Rattle.row_locks.proofs.SoundLemmas.{sound_empty}
use Rattle.row_locks.proofs.table.LockTable.new.Goals as goal

pub invariant_of-result : goal.invariant_of-result
invariant_of-result c =
    let sound : IsSound (record { granted = c.new.result.items; waits = [] }) = subst (λ (l : List Request). IsSound (record { granted = l; waits = [] })) (sym c.new.ensures.items) sound_empty in (
      subst (λ (l : List Request). IsSound (record { granted = c.new.result.items; waits = l })) (sym c.new-2.ensures.items) sound,
      subst FitNumbers (sym c.new-2.ensures.items) tt,
      omega (arith, c.new.ensures.len, c.new-2.ensures.len),
    )

pub returns-clause-sound : goal.returns-clause-sound
returns-clause-sound c = (invariant_of-result c).0
