-- A file to which bytes were only added since its last sync.
use Rattle.std.specs.Prelude.{◌≡◌, ◌≤◌, ℕ, List, length, take}
use Rattle.disk_model.specs.File.{Step, after_steps, IsMeant, IsWritten, least}

-- bytes were only added at the end since the sync
pub record OnlyGrew (synced : List ℕ) (steps : List Step) (bytes : List ℕ) : Type 0 where
  -- with all of it done whole, the file is this
  pub whole : after_steps synced steps ≡ bytes
  -- each intended state is a first part of it
  pub meant : (state : List ℕ) → IsMeant synced steps state → take (length state) bytes ≡ state
  -- what was synced was not written again
  pub kept : (i : ℕ) → IsWritten steps i → length synced ≤ i
  pub shortest : least synced steps ≡ length synced
  pub front : take (length synced) bytes ≡ synced
