use Rattle.std.proofs.Common.{◌≡◌, List, ℕ, drop, filter}
use Rattle.row_locks.specs.Queues.{among, in_way}
use Rattle.row_locks.specs.Inside.{flags, least_of}
use Rattle.row_locks.proofs.requests.least_marked.Given as goal

abbrev pub invariant-loop-k : goal.invariant-loop-k
invariant-loop-k l = (reached : List ℕ) → l.marked ≡ flags reached l.before
    → least_of l.best (filter (λ a. among a reached) (in_way (drop l.k l.before) l.it)) ≡ least_of l.initial.best (filter (λ a. among a reached) (in_way l.before l.it))
