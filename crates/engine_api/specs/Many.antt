-- Engines that work on one volume, each on files of its own. (This project.)
use Rattle.std.specs.Prelude.{◌≡◌, ◌⊎◌, ◌≤◌, ℕ, zero, suc, List, [], ◌∷◌, ◌++◌, map, take, All, Contains, IsTrue, Bool, false, Result, Err}
use Rattle.disk_model.specs.File.{File, IsSettled}
use Rattle.disk_model.specs.Disk.{Disk, now, Keeps}
use Rattle.log_tables.specs.declared.gist.Gist.{Gist}
use Rattle.engine_api.specs.declared.fault.EngineFault.{EngineFault}
use Rattle.engine_api.specs.declared.fault.EngineFault.TheVariants.{Code as code, Device, NotAVolume, Memory}
use Rattle.engine_api.specs.States.{Kind, EngineState, synced_state}
use Rattle.engine_api.specs.Reads.{Reading, EachReads}
use Rattle.engine_api.specs.Calls.{IsSame}

-- what an engine at work tells: what it is, how its files are read, what it has, and what its files are to it
pub record Working : Type 1 where
  pub kind : Kind
  pub reading : Reading
  pub state : EngineState
  pub holds : List File → Type 0

-- an engine at work that tells these four
abbrev pub working : Kind → Reading → EngineState → (List File → Type 0) → Working
working kind reading state holds = record { kind = kind; reading = reading; state = state; holds = holds }

-- no file is one of both
abbrev pub AreApart : List ℕ → List ℕ → Type 0
AreApart these those = (f : ℕ) → Contains these f → Contains those f → ⊥

-- no file of the engine is one of these engines'
abbrev pub IsApartFrom : Kind → List Kind → Type 0
IsApartFrom kind [] = Unit {0}
IsApartFrom kind (it ∷ rest) = AreApart kind.files it.files × IsApartFrom kind rest

-- no two of the engines share a file
abbrev pub AllApart : List Kind → Type 0
AllApart [] = Unit {0}
AllApart (it ∷ rest) = IsApartFrom it rest × AllApart rest

-- the files are what the engine takes them for, and each faithful crash image of them reads as its state may
pub record IsAtWork (it : Working) (files : ℕ → File) : Type 0 where
  pub holds : it.holds (map files it.kind.files)
  pub reads : EachReads it.reading it.state.kept (map files it.kind.files)

-- so it is with each of these engines
abbrev pub AllAtWork : List Working → (ℕ → File) → Type 0
AllAtWork [] files = Unit {0}
AllAtWork (it ∷ rest) files = IsAtWork it files × AllAtWork rest files

-- the file is one of these engines'
abbrev pub IsFileOf : List Kind → ℕ → Type 0
IsFileOf [] f = ⊥
IsFileOf (it ∷ rest) f = Contains it.files f ⊎ IsFileOf rest f

-- the fault may come of engines of these kinds: no code; Device and Memory; and that a file is none only where contents are not told,
-- and then of a file of theirs
abbrev pub MayComeOf : List Kind → Bool → EngineFault → Type 0
MayComeOf kinds told (code it) = ⊥
MayComeOf kinds told Device = Unit {0}
MayComeOf kinds told (NotAVolume file) = (told ≡ false) × IsFileOf kinds file
MayComeOf kinds told Memory = Unit {0}

-- no other fault is answered
abbrev pub AnswersOf : {T : Type 0} → List Kind → Bool → Result T EngineFault → Type 0
AnswersOf kinds told result = (fault : EngineFault) → result ≡ Err fault → MayComeOf kinds told fault

-- as which gists an image may read while an engine in this state syncs
abbrev pub while_syncing : EngineState → List Gist
while_syncing state = state.kept ++ state.gist ∷ []

-- each faithful crash image of the files of each engine reads as its state may
abbrev pub AllRead : List Working → (ℕ → File) → Type 0
AllRead [] files = Unit {0}
AllRead (it ∷ rest) files = EachReads it.reading (while_syncing it.state) (map files it.kind.files) × AllRead rest files

-- the files of no engine are as they were, and those of each read as its state may
pub record AllMoments (engines : List Working) (was files : ℕ → File) : Type 0 where
  pub others : (f : ℕ) → (IsFileOf (map (λ it. it.kind) engines) f → ⊥) → files f ≡ was f
  pub read : AllRead engines files

-- so many of the engines, from the first, have synced what they had, and the others are as they were
abbrev pub SyncedUpTo : ℕ → List Working → List Working → Type 0
SyncedUpTo count [] [] = Unit {0}
SyncedUpTo count [] (new ∷ news) = ⊥
SyncedUpTo count (old ∷ olds) [] = ⊥
SyncedUpTo zero (old ∷ olds) (new ∷ news) = IsSame old.kind new.kind old.reading new.reading × (new.state ≡ old.state) × SyncedUpTo zero olds news
SyncedUpTo (suc count) (old ∷ olds) (new ∷ news) = IsSame old.kind new.kind old.reading new.reading × (new.state ≡ synced_state old.state) × SyncedUpTo count olds news

-- each of the engines has synced what it had
abbrev pub AllSynced : List Working → List Working → Type 0
AllSynced [] [] = Unit {0}
AllSynced [] (new ∷ news) = ⊥
AllSynced (old ∷ olds) [] = ⊥
AllSynced (old ∷ olds) (new ∷ news) = IsSame old.kind new.kind old.reading new.reading × (new.state ≡ synced_state old.state) × AllSynced olds news

-- the files of each of the engines are settled
abbrev pub AllSettled : List Kind → (ℕ → File) → Type 0
AllSettled [] files = Unit {0}
AllSettled (it ∷ rest) files = All IsSettled (map files it.files) × AllSettled rest files

-- so far: so many of the engines are synced and their files settled, the files are what each takes them for, and what a crash leaves
pub record SoFar (olds : List Working) (start : Disk) (count : ℕ) (news : List Working) (end : Disk) : Type 0 where
  pub synced : SyncedUpTo count olds news
  pub told : end.told ≡ start.told
  pub later : start.calls ≤ end.calls
  pub no_fewer : start.faults ≤ end.faults
  pub settled : IsTrue start.told → AllSettled (take count (map (λ it. it.kind) olds)) (now end)
  pub at_work : IsTrue start.told → AllAtWork news (now end)
  pub moments : IsTrue start.told → Keeps start end (AllMoments olds (now start))
