use Rattle.std.specs.List.{AllWithin}
use Rattle.plugd.specs.XidSet.{IsIn}
use Rattle.plugd.proofs.xids.XidSet.last_beside.Given as goal

abbrev pub invariant-loop-range : goal.invariant-loop-range
invariant-loop-range l = AllWithin (λ r. IsIn r l.xid → ⊥) l.range-items 0 l.range-index
