-- What the search for a cycle works with: the owners that reach one, and the way back to it. (This project.)
use Rattle.std.specs.Prelude.{◌≡◌, ◌==◌, ◌≤◌, ◌<◌, ◌^◌, ◌⊎◌, ⊤, ◌&&◌, ◌||◌, ℕ, Bool, true, false, min, length, map, take, List, [], ◌∷◌, Option, Some, None}
use Rattle.std.specs.List.{list_any}
use Rattle.row_locks.specs.declared.lock.Request.{Request}
use Rattle.row_locks.specs.Modes.{are_in_conflict}
use Rattle.row_locks.specs.Queues.{Locks, among, waits_for}
use Rattle.row_locks.specs.Cycles.{AreDistinct}

-- a wait of this owner among these is in conflict with a request before them
abbrev pub is_behind : Request → List Request → ℕ → Bool
is_behind other waits a = list_any (λ it. (it.owner == a) && are_in_conflict other it) waits

-- the same of one of the locks of an owner
abbrev pub is_behind_any : ℕ → List Request → List Request → ℕ → Bool
is_behind_any b granted waits a = list_any (λ lock. (lock.owner == b) && is_behind lock waits a) granted

-- for each request, whether its owner is one of these
abbrev pub flags : List ℕ → List Request → List Bool
flags reached requests = map (λ it. among it.owner reached) requests

-- no owner is reached twice, and each wait tells whether its owner is reached
pub record AreMarks (waits : List Request) (reached : List ℕ) (waiting : List Bool) : Type 0 where
  pub distinct : AreDistinct reached
  pub told : waiting ≡ flags reached waits

-- these owners are reached too, behind those that were, and no others
pub record Adds (more : ℕ → Bool) (old new : List ℕ) : Type 0 where
  pub front : take (length old) new ≡ old
  pub exact : (a : ℕ) → among a new ≡ (among a old || more a)

-- these are the owners that reach the last one: each waits for it or for another of these, and who waits for these is among them
pub record Reach (waits : ℕ → ℕ → Bool) (reached : List ℕ) (last : ℕ) : Type 0 where
  pub goes_on : (a : ℕ) → among a reached ≡ true → (waits a last ≡ true) ⊎ (b : ℕ) × (waits a b ≡ true) × (among b reached ≡ true)
  pub direct : (a : ℕ) → waits a last ≡ true → among a reached ≡ true
  pub closed : (a b : ℕ) → waits a b ≡ true → among b reached ≡ true → among a reached ≡ true

-- the lesser of the best so far and another
abbrev pub lesser : Option ℕ → ℕ → ℕ
lesser None a = a
lesser (Some best) a = min best a

-- the least of the best so far and these
abbrev pub least_of : Option ℕ → List ℕ → Option ℕ
least_of best [] = best
least_of best (a ∷ rest) = least_of (Some (lesser best a)) rest

-- of the owners that reach the last one, this is the least for whom an owner waits that does not wait for the last one itself
pub record IsNext (waits : ℕ → ℕ → Bool) (reached : List ℕ) (last a b : ℕ) : Type 0 where
  pub not_last : waits a last ≡ false
  pub waits_for : waits a b ≡ true
  pub reaches : among b reached ≡ true
  pub least : (c : ℕ) → waits a c ≡ true → among c reached ≡ true → b ≤ c

-- the marks tell who reaches the last owner: these do, and each lock and each wait tells whether its owner is one of them
pub record MarksReach (locks : Locks) (last : ℕ) (reached : List ℕ) (holding waiting : List Bool) : Type 0 where
  pub reach : Reach (waits_for locks) reached last
  pub locks_told : holding ≡ flags reached locks.granted
  pub waits_told : waiting ≡ flags reached locks.waits

-- from this owner the way back goes on with the least owner each time, and ends as soon as it can
abbrev pub GoesBack : (ℕ → ℕ → Bool) → List ℕ → ℕ → ℕ → List ℕ → Type 0
GoesBack waits reached last a [] = waits a last ≡ true
GoesBack waits reached last a (b ∷ rest) = IsNext waits reached last a b × GoesBack waits reached last b rest

-- each of these owners is a u32
abbrev pub FitNumbers : List Request → Type 0
FitNumbers [] = ⊤
FitNumbers (it ∷ rest) = (it.owner < 2 ^ 32) × FitNumbers rest
