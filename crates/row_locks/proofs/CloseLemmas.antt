-- Whether a wait closes a cycle, and which.
use Rattle.std.proofs.Common.{◌≡◌, ℕ, List, ◌∷◌, ◌++◌, length, take, filter, Option, Some, None, true, false, sym, ap, subst, ◌∙◌, arith}
use Rattle.std.proofs.lemmas.List.{take_all}
use Rattle.row_locks.specs.declared.lock.Request.{Request}
use Rattle.row_locks.specs.Queues.{Locks, queue, owners, among, in_way, waits_for, with_wait}
use Rattle.row_locks.specs.Cycles.{IsLeastCycle, NoneBegins}
use Rattle.row_locks.specs.Answers.{IsSound}
use Rattle.row_locks.specs.Inside.{least_of, Reach, GoesBack}
use Rattle.row_locks.proofs.WayLemmas.{none_begins, least_cycle_from}
use Rattle.row_locks.proofs.SoundLemmas.{more_with_wait, waits_for_by_it}
use Rattle.row_locks.proofs.NextLemmas.{least_none, least_some}

-- the least owner in the way of a request that reaches its own
abbrev pub least_to : Locks → List ℕ → Request → Option ℕ
least_to locks reached it = least_of None (filter (λ a. among a reached) (in_way (locks.granted ++ take (length locks.waits) locks.waits) it))

all_in_way : (locks : Locks) (it : Request) → in_way (locks.granted ++ take (length locks.waits) locks.waits) it ≡ in_way (queue locks) it
all_in_way locks it = ap (λ (l : List Request). in_way (locks.granted ++ l) it) (take_all (length locks.waits) locks.waits (omega arith))

-- If none is found, no cycle begins with the owner.
pub closes_none : (locks : Locks) (it : Request) (reached : List ℕ) → among it.owner (owners locks.waits) ≡ false → Reach (waits_for locks) reached it.owner → least_to locks reached it ≡ None
    → NoneBegins (waits_for (with_wait it locks)) it.owner
closes_none locks it reached free reach none =
    none_begins (waits_for (with_wait it locks)) (waits_for locks) reached it.owner (more_with_wait it locks free) reach
    (λ b e. least_none (λ a. among a reached) (in_way (locks.granted ++ take (length locks.waits) locks.waits) it) none b
    (ap (among b) (all_in_way locks it) ∙ sym (waits_for_by_it it locks free b) ∙ e))

-- who is found reaches it
pub found_reaches : (locks : Locks) (it : Request) (reached : List ℕ) (start : ℕ) → least_to locks reached it ≡ Some start → among start reached ≡ true
found_reaches locks it reached start found = (least_some (λ a. among a reached) (in_way (locks.granted ++ take (length locks.waits) locks.waits) it) start found).1

-- With the way back from it, it makes the least cycle.
pub closes_some : (locks : Locks) (it : Request) (reached way : List ℕ) (start : ℕ) → IsSound locks → among it.owner (owners locks.waits) ≡ false → Reach (waits_for locks) reached it.owner
    → least_to locks reached it ≡ Some start → (rest : List ℕ) × (way ≡ it.owner ∷ start ∷ rest) × GoesBack (waits_for locks) reached it.owner start rest
    → IsLeastCycle (waits_for (with_wait it locks)) it.owner way
closes_some locks it reached way start sound free reach found back =
    let ways = in_way (locks.granted ++ take (length locks.waits) locks.waits) it in
    let least = least_some (λ a. among a reached) ways start found in
    let is : (b : ℕ) → waits_for (with_wait it locks) it.owner b ≡ among b ways = λ b. waits_for_by_it it locks free b ∙ ap (among b) (sym (all_in_way locks it)) in
    subst (IsLeastCycle (waits_for (with_wait it locks)) it.owner) (sym back.1)
    (least_cycle_from (waits_for (with_wait it locks)) (waits_for locks) reached it.owner start back.0 sound.no_cycle (more_with_wait it locks free) reach
    (is start ∙ least.0) (λ b e m. least.2 b (sym (is b) ∙ e) m) back.2)
