-- What a call of a source or a sink does to what is left to read or was taken, and to the count of faults. (This project.)
use Rattle.std.specs.Prelude.{◌≡◌, ◌≤◌, ◌++◌, ℕ, List, Option, Some, Result, IsErr}
use Rattle.fault_counts.specs.Rose.{Rose}
use Rattle.outer_io.specs.declared.ends.Failed.{Failed}

-- these bytes were taken from the front of what was left, where that is told
pub record Took (bytes : List ℕ) (old new : Option (List ℕ)) : Type 0 where
  pub told : (xs : List ℕ) → old ≡ Some xs → (rest : List ℕ) × (new ≡ Some rest) × (xs ≡ bytes ++ rest)

-- these bytes were added at the end of what is held, where that is told
pub record Put (bytes : List ℕ) (old new : Option (List ℕ)) : Type 0 where
  pub told : (xs : List ℕ) → old ≡ Some xs → new ≡ Some (xs ++ bytes)

-- some first part of the bytes was added, where that is told
abbrev pub PutFront : List ℕ → Option (List ℕ) → Option (List ℕ) → Type 0
PutFront bytes old new = (front : List ℕ) × (rest : List ℕ) × (bytes ≡ front ++ rest) × Put front old new

-- the count of faults did not fall, and an answer Failed comes only where it rose or stands at its last value
pub record Counts {T : Type 0} (result : Result T Failed) (before now : ℕ) : Type 0 where
  pub no_fewer : before ≤ now
  pub cause : IsErr result → Rose before now
