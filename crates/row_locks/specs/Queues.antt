-- Who holds what, who waits, and for whom. (This project.)
use Rattle.std.specs.Prelude.{◌==◌, ℕ, Bool, not, if◌then◌else◌, List, [], ◌∷◌, ◌++◌, Option, Some, None, is_none, map, filter}
use Rattle.std.specs.List.{list_any}
use Rattle.row_locks.specs.declared.lock.Request.{Request}
use Rattle.row_locks.specs.Modes.{are_in_conflict, request_covers}

-- the granted locks in the order of granting, and the waits in order: in this order they stand in the queue
pub record Locks : Type 0 where
  pub granted : List Request
  pub waits : List Request

-- all requests, in queue order
abbrev pub queue : Locks → List Request
queue locks = locks.granted ++ locks.waits

-- whose requests these are
abbrev pub owners : List Request → List ℕ
owners requests = map (λ it. it.owner) requests

-- this owner is one of these
abbrev pub among : ℕ → List ℕ → Bool
among a owners = list_any (λ b. b == a) owners

-- the first of these
abbrev pub first : List ℕ → Option ℕ
first [] = None
first (a ∷ rest) = Some a

-- who is in the way of a request: the owners of those before it that are in conflict with it, in queue order
abbrev pub in_way : List Request → Request → List ℕ
in_way before it = owners (filter (λ other. are_in_conflict other it) before)

-- for whom an owner waits by these waits, where these requests stand before them
abbrev pub waited_for : ℕ → List Request → List Request → List ℕ
waited_for a before [] = []
waited_for a before (it ∷ rest) = (if it.owner == a then in_way before it else []) ++ waited_for a (before ++ it ∷ []) rest

-- the first owner for whom an owner waits; nothing where it does not wait
abbrev pub holder_of : Locks → ℕ → Option ℕ
holder_of locks a = first (waited_for a locks.granted locks.waits)

-- the one owner waits for the other: it has a wait, and a lock or an earlier wait of the other is in its way
abbrev pub waits_for : Locks → ℕ → ℕ → Bool
waits_for locks a b = among b (waited_for a locks.granted locks.waits)

-- a granted lock of its owner covers it
abbrev pub is_covered : List Request → Request → Bool
is_covered granted it = list_any (λ lock. request_covers lock it) granted

-- the same, and this lock is granted last
abbrev pub with_lock : Request → Locks → Locks
with_lock it locks = record { granted = locks.granted ++ it ∷ []; waits = locks.waits }

-- the same, and this one waits last
abbrev pub with_wait : Request → Locks → Locks
with_wait it locks = record { granted = locks.granted; waits = locks.waits ++ it ∷ [] }

-- the requests of all others
abbrev pub others : ℕ → List Request → List Request
others a requests = filter (λ it. not (it.owner == a)) requests

-- nobody is in its way
abbrev pub is_free : List Request → Request → Bool
is_free before it = is_none (first (in_way before it))

-- The waits in order: one that nobody is in the way of any more, by the granted locks and the waits that stay before it, is granted last;
-- the others stay.
abbrev pub settled : List Request → List Request → List Request → Locks
settled granted stay [] = record { granted = granted; waits = stay }
settled granted stay (it ∷ rest) =
    if is_free (granted ++ stay) it then settled (granted ++ it ∷ []) stay rest else settled granted (stay ++ it ∷ []) rest

-- the locks and the wait of an owner are gone, and the waits are settled
abbrev pub released : ℕ → Locks → Locks
released a locks = settled (others a locks.granted) [] (others a locks.waits)
