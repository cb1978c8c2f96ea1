-- What is in one file, what was asked of it since its last sync, and what a crash may leave of it. (This project's disk model.)
use Rattle.std.specs.Prelude.{◌≡◌, ◌⊎◌, ◌<◌, ◌≤◌, ◌+◌, ℕ, min, max, List, [], ◌∷◌, ◌++◌, length, take, drop, get_or, Result, OnOk, OnErr}
use Rattle.disk_model.specs.declared.storage.Failed.{Failed}

-- a write or a cut, as it was asked for
pub data Step : Type 0 where
  Wrote : (at : ℕ) (bytes : List ℕ) → Step
  CutTo : (len : ℕ) → Step

-- a file at a moment
pub record File : Type 0 where
  -- its contents: what a read gives
  pub bytes : List ℕ
  -- what it was after its last sync that answered Ok
  pub synced : List ℕ
  -- what was asked for since, the newest first, whether it failed or not
  pub steps : List Step

-- these bytes over the old ones from a place on
abbrev pub written : ℕ → List ℕ → List ℕ → List ℕ
written at bytes old = take at old ++ bytes ++ drop (at + length bytes) old

-- one step, done whole
abbrev pub after_step : Step → List ℕ → List ℕ
after_step (Wrote at bytes) old = written at bytes old
after_step (CutTo len) old = take len old

-- the steps, done whole
abbrev pub after_steps : List ℕ → List Step → List ℕ
after_steps synced [] = synced
after_steps synced (step ∷ steps) = after_step step (after_steps synced steps)

-- an intended state: what the file is after the sync, or after one of the steps since, each done whole
abbrev pub IsMeant : List ℕ → List Step → List ℕ → Type 0
IsMeant synced [] state = state ≡ synced
IsMeant synced (step ∷ steps) state = (state ≡ after_steps synced (step ∷ steps)) ⊎ IsMeant synced steps state

-- the least length since the sync
abbrev pub least : List ℕ → List Step → ℕ
least synced [] = length synced
least synced (Wrote at bytes ∷ steps) = least synced steps
least synced (CutTo len ∷ steps) = min len (least synced steps)

-- the greatest length since the sync
abbrev pub greatest : List ℕ → List Step → ℕ
greatest synced [] = length synced
greatest synced (Wrote at bytes ∷ steps) = max (at + length bytes) (greatest synced steps)
greatest synced (CutTo len ∷ steps) = greatest synced steps

-- a place in a range that was written since the sync
abbrev pub IsWritten : List Step → ℕ → Type 0
IsWritten [] i = ⊥
IsWritten (Wrote at bytes ∷ steps) i = ((at ≤ i) × (i < at + length bytes)) ⊎ IsWritten steps i
IsWritten (CutTo len ∷ steps) i = IsWritten steps i

-- A crash image: a length between the least and the greatest since the last sync, the bytes of then at each place that was
-- not written, and any bytes elsewhere.
pub record IsImage (file : File) (image : List ℕ) : Type 0 where
  pub no_shorter : least file.synced file.steps ≤ length image
  pub no_longer : length image ≤ greatest file.synced file.steps
  pub kept : (i : ℕ) → i < length image → i < length file.synced
      → ¬ (IsWritten file.steps i) → get_or image i 0 ≡ get_or file.synced i 0

-- nothing is pending: each crash image has the file as a read gives it
pub record IsSettled (file : File) : Type 0 where
  pub synced : file.synced ≡ file.bytes
  pub steps : file.steps ≡ []

-- after a write of n bytes that failed: any bytes in the range and past the old end, the same elsewhere
pub record Torn (at n : ℕ) (old new : List ℕ) : Type 0 where
  pub before : take at new ≡ take at old
  pub after : drop (at + n) new ≡ drop (at + n) old
  pub no_shorter : length old ≤ length new
  pub no_longer : length new ≤ max (length old) (at + n)

-- after a cut that failed: some length between
pub record CutShort (n : ℕ) (old new : List ℕ) : Type 0 where
  pub no_shorter : n ≤ length new
  pub front : take (length new) old ≡ new

-- a call that only looks
abbrev pub Stays : File → File → Type 0
Stays old new = new ≡ old

-- a write: the step is noted also where it failed
pub record Writes (at : ℕ) (bytes : List ℕ) (result : Result Unit Failed) (old new : File) : Type 0 where
  pub synced : new.synced ≡ old.synced
  pub steps : new.steps ≡ Wrote at bytes ∷ old.steps
  pub ok : OnOk result (new.bytes ≡ written at bytes old.bytes)
  pub err : OnErr result (Torn at (length bytes) old.bytes new.bytes)

-- a cut, likewise
pub record Cuts (len : ℕ) (result : Result Unit Failed) (old new : File) : Type 0 where
  pub synced : new.synced ≡ old.synced
  pub steps : new.steps ≡ CutTo len ∷ old.steps
  pub ok : OnOk result (new.bytes ≡ take len old.bytes)
  pub err : OnErr result (CutShort len old.bytes new.bytes)

-- a sync: after Ok a crash leaves what a read gives
pub record Syncs (result : Result Unit Failed) (old new : File) : Type 0 where
  pub ok : OnOk result (new ≡ record { bytes = old.bytes; synced = old.bytes; steps = [] })
  pub err : OnErr result (new ≡ old)
