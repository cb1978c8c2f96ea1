-- Cycles of a relation between owners, and the least one. (This project.)
use Rattle.std.specs.Prelude.{◌≡◌, ◌<◌, ◌⊎◌, ℕ, Bool, true, false, List, [], ◌∷◌, ⊤, Some}
use Rattle.row_locks.specs.Queues.{among, first}

-- none of these is twice among them
abbrev pub AreDistinct : List ℕ → Type 0
AreDistinct [] = ⊤
AreDistinct (a ∷ rest) = (among a rest ≡ false) × AreDistinct rest

-- the first owner waits for the first of these, each of these for the next one, and the last for the last owner
abbrev pub Leads : (ℕ → ℕ → Bool) → ℕ → List ℕ → ℕ → Type 0
Leads waits a [] z = waits a z ≡ true
Leads waits a (b ∷ rest) z = (waits a b ≡ true) × Leads waits b rest z

-- owners without repeats, of whom each waits for the next one, and the last for the first
abbrev pub IsCycle : (ℕ → ℕ → Bool) → List ℕ → Type 0
IsCycle waits [] = ⊥
IsCycle waits (a ∷ rest) = AreDistinct (a ∷ rest) × Leads waits a rest a

-- number by number from the front, the first list is not after the second; a list comes before its extensions
abbrev pub NotAfter : List ℕ → List ℕ → Type 0
NotAfter [] _ = ⊤
NotAfter (a ∷ rest) [] = ⊥
NotAfter (a ∷ rest) (b ∷ others) = (a < b) ⊎ ((a ≡ b) × NotAfter rest others)

-- no cycle begins with this owner
abbrev pub NoneBegins : (ℕ → ℕ → Bool) → ℕ → Type 0
NoneBegins waits a = (cycle : List ℕ) → IsCycle waits cycle → first cycle ≡ Some a → ⊥

-- of the cycles that begin with this owner it is the least
pub record IsLeastCycle (waits : ℕ → ℕ → Bool) (a : ℕ) (cycle : List ℕ) : Type 0 where
  pub stands : IsCycle waits cycle
  pub begins : first cycle ≡ Some a
  pub least : (other : List ℕ) → IsCycle waits other → first other ≡ Some a → NotAfter cycle other
