use Rattle.std.proofs.Common.{◌≡◌, ℕ, take}
use Rattle.std.specs.BTreeSet.{contains}
use Rattle.std.specs.Ordering.{nat_cmp}
use Rattle.xid_recovery.specs.Pairs.{has}
use Rattle.xid_recovery.proofs.settle.xid_set.Given as goal

abbrev pub invariant-loop-xid : goal.invariant-loop-xid
invariant-loop-xid l = (x : ℕ) → contains nat_cmp l.set x ≡ has x (take l.xid-index l.xids)
