-- What always holds of the locks, and what a wish is answered. (This project.)
use Rattle.std.specs.Prelude.{◌≡◌, ◌↔◌, ◌⊎◌, ℕ, true, false, List, [], ◌∷◌, ◌++◌, ⊤, Some, MatchBool}
use Rattle.row_locks.specs.declared.lock.Request.{Request}
use Rattle.row_locks.specs.declared.want.Want.{Want}
use Rattle.row_locks.specs.declared.want.Want.TheVariants.{Granted, Waits, Deadlock}
use Rattle.row_locks.specs.Queues.{Locks, queue, owners, first, in_way, is_free, is_covered, waits_for, with_lock, with_wait}
use Rattle.row_locks.specs.Cycles.{AreDistinct, IsCycle, NoneBegins, IsLeastCycle}

-- somebody is in the way of each of these waits, where these requests stand before them
abbrev pub AreBlocked : List Request → List Request → Type 0
AreBlocked before [] = ⊤
AreBlocked before (it ∷ rest) = (is_free before it ≡ false) × AreBlocked (before ++ it ∷ []) rest

-- no cycle of waits stands, no owner waits twice, and no wait stands that could be granted
pub record IsSound (locks : Locks) : Type 0 where
  pub no_cycle : (cycle : List ℕ) → IsCycle (waits_for locks) cycle → ⊥
  pub once : AreDistinct (owners locks.waits)
  pub blocked : AreBlocked locks.granted locks.waits

-- what the owner has covers it, and nothing changes; or nobody is in its way, and it is granted last
abbrev pub Grants : Request → Locks → Locks → Type 0
Grants it old new =
    MatchBool (is_covered old.granted it) (new ≡ old) ((is_free (queue old) it ≡ true) × (new ≡ with_lock it old))

-- It is not covered, this owner is the first in its way, no cycle would begin with its own owner, and it waits last.
pub record StartsToWait (it : Request) (holder : ℕ) (old new : Locks) : Type 0 where
  pub uncovered : is_covered old.granted it ≡ false
  pub first_in_way : first (in_way (queue old) it) ≡ Some holder
  pub no_cycle : NoneBegins (waits_for (with_wait it old)) it.owner
  pub waits : new ≡ with_wait it old

-- It is not covered, somebody is in its way, its wait would close this cycle, the least of those that begin with its owner, and nothing changes.
pub record Refuses (it : Request) (cycle : List ℕ) (old new : Locks) : Type 0 where
  pub uncovered : is_covered old.granted it ≡ false
  pub in_the_way : is_free (queue old) it ≡ false
  pub least : IsLeastCycle (waits_for (with_wait it old)) it.owner cycle
  pub same : new ≡ old

-- what each answer says, and what it leaves
abbrev pub Answers : Request → Want → Locks → Locks → Type 0
Answers it Granted old new = Grants it old new
Answers it (Waits holder) old new = StartsToWait it holder old new
Answers it (Deadlock cycle) old new = Refuses it cycle old new

-- the answer is that the owner waits
abbrev pub IsWaits : Want → Type 0
IsWaits (Waits holder) = ⊤
IsWaits _ = ⊥

-- the answer is that a cycle would be closed
abbrev pub IsDeadlock : Want → Type 0
IsDeadlock (Deadlock cycle) = ⊤
IsDeadlock _ = ⊥

-- neither what the owner has nor a free name grants it
abbrev pub IsHeldUp : Request → Locks → Type 0
IsHeldUp it old = (is_covered old.granted it ≡ false) × (is_free (queue old) it ≡ false)

-- each answer comes exactly where its case holds: granted, held up with no cycle, held up with a cycle that begins with the owner
pub record ComesWhere (it : Request) (answer : Want) (old : Locks) : Type 0 where
  pub granted : (answer ≡ Granted) ↔ ((is_covered old.granted it ≡ true) ⊎ (is_free (queue old) it ≡ true))
  pub waits : IsWaits answer ↔ (IsHeldUp it old × NoneBegins (waits_for (with_wait it old)) it.owner)
  pub deadlock : IsDeadlock answer ↔ (IsHeldUp it old × (cycle : List ℕ) × IsCycle (waits_for (with_wait it old)) cycle × (first cycle ≡ Some it.owner))
