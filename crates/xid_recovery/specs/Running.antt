-- How far a recovery of one engine has come: what this crate's functions say to one another. (This project.)
use Rattle.std.specs.Prelude.{◌≡◌, ◌≤◌, ℕ, List, Option, None, Some, IsTrue, not, ◌&&◌, ◌==◌, take, length, All}
use Rattle.std.specs.BTreeSet.{BTreeSet, contains}
use Rattle.std.specs.Ordering.{nat_cmp}
use Rattle.disk_model.specs.File.{File}
use Rattle.disk_model.specs.Disk.{Disk, now, Keeps}
use Rattle.row_format.specs.declared.change.Transaction.{Transaction}
use Rattle.log_tables.specs.declared.gist.Gist.{Gist}
use Rattle.log_tables.specs.Gists.{is_prepared}
use Rattle.recovery_rules.specs.Places.{IsDistinct}
use Rattle.recovery_rules.specs.Trails.{NonePrepared}
use Rattle.engine_api.specs.States.{Kind}
use Rattle.engine_api.specs.Reads.{Reading, OnlyIn}
use Rattle.engine_api.specs.Calls.{IsSame}
use Rattle.engine_api.specs.Many.{Working}
use Rattle.xid_recovery.specs.declared.report.OpenFault.{OpenFault}
use Rattle.xid_recovery.specs.declared.report.OpenFault.TheVariants.{Ahead, Memory}
use Rattle.xid_recovery.specs.Pairs.{ArePairsOf, xids_in, has}
use Rattle.xid_recovery.specs.Recovers.{GoesWith, EachGoes, IsIdle}

-- images stand for one gist at most
pub record StandForOne (reading : Reading) : Type 0 where
  pub one : (images : List (List ℕ)) (a b : Gist) → reading.stands images a → reading.stands images b → a ≡ b

-- where a log is aimed at, the pairs are its own and its xids all differ
abbrev pub Fits : Option (List Transaction) → List (ℕ × ℕ) → Type 0
Fits None pairs = Unit {0}
Fits (Some log) pairs = IsDistinct log × ArePairsOf log pairs

-- where a log is aimed at, the gist goes with it
abbrev pub Aims : Kind → Option (List Transaction) → Gist → Type 0
Aims kind None gist = Unit {0}
Aims kind (Some log) gist = GoesWith kind log gist

-- where a log is aimed at, the place is its end
abbrev pub IsEnd : Option (List Transaction) → ℕ → Type 0
IsEnd None place = Unit {0}
IsEnd (Some log) place = length log ≤ place

-- where a log is aimed at, the gist goes with it, and nothing is prepared that it has before this place
abbrev pub IsOnWay : Kind → Option (List Transaction) → ℕ → Gist → Type 0
IsOnWay kind None place gist = Unit {0}
IsOnWay kind (Some log) place gist = GoesWith kind log gist × NonePrepared log gist place

-- where a log is aimed at, each faithful crash image of these files reads as a gist that goes with it
abbrev pub EachAims : Kind → Option (List Transaction) → Reading → List File → Type 0
EachAims kind None reading files = Unit {0}
EachAims kind (Some log) reading files = EachGoes kind log reading files

-- calls of the engine ran from one disk to another: it is the same engine, the counts go on, and at each moment all other files are as they
-- were and its own read as is aimed at
pub record Ran (was it : Working) (aim : Option (List Transaction)) (start end : Disk) : Type 0 where
  pub same : IsSame was.kind it.kind was.reading it.reading
  pub told : end.told ≡ start.told
  pub later : start.calls ≤ end.calls
  pub no_fewer : start.faults ≤ end.faults
  pub moments : IsTrue start.told → Keeps start end (OnlyIn was.kind.files (now start) (EachAims was.kind aim was.reading))

-- the set has the xids that are prepared
abbrev pub HasPrepared : BTreeSet ℕ → Gist → Type 0
HasPrepared left gist = (xid : ℕ) → contains nat_cmp left xid ≡ is_prepared xid gist.prepared

-- the set has what it had, but for this xid
abbrev pub IsWithout : ℕ → BTreeSet ℕ → BTreeSet ℕ → Type 0
IsWithout xid old new = (x : ℕ) → contains nat_cmp new x ≡ (not (x == xid) && contains nat_cmp old x)

-- the set has what it had, but for the xids of these pairs
abbrev pub IsWithoutAll : List (ℕ × ℕ) → BTreeSet ℕ → BTreeSet ℕ → Type 0
IsWithoutAll pairs old new = (x : ℕ) → contains nat_cmp new x ≡ (not (has x (xids_in pairs)) && contains nat_cmp old x)

-- where no pair's number is above a bound, nor the last number of the first gist, then that of the second is not
abbrev pub LastWithin : List (ℕ × ℕ) → Gist → Gist → Type 0
LastWithin pairs old new = (bound : ℕ) → All (λ (pair : ℕ × ℕ). pair.1 ≤ bound) pairs → old.last ≤ bound → new.last ≤ bound

-- so many pairs, from the first, are decided
pub record SoFar (was it : Working) (pairs : List (ℕ × ℕ)) (count : ℕ) (all left : BTreeSet ℕ) (start end : Disk) : Type 0 where
  pub idle : IsIdle it end
  pub prepared : HasPrepared left it.state.gist
  pub without : IsWithoutAll (take count pairs) all left
  pub fewer : length left.keys ≤ length all.keys
  pub ran : (aim : Option (List Transaction)) → Fits aim pairs → Aims was.kind aim was.state.gist → Ran was it aim start end
  pub on_way : (aim : Option (List Transaction)) → Fits aim pairs → Aims was.kind aim was.state.gist → IsOnWay was.kind aim count it.state.gist
  pub last : LastWithin pairs was.state.gist it.state.gist

-- some of what was left is rolled back
pub record RollingBack (was it : Working) (left : BTreeSet ℕ) (start end : Disk) : Type 0 where
  pub idle : IsIdle it end
  pub prepared : HasPrepared left it.state.gist
  pub ran : (aim : Option (List Transaction)) (place : ℕ) → IsEnd aim place → IsOnWay was.kind aim place was.state.gist → Ran was it aim start end
  pub on_way : (aim : Option (List Transaction)) (place : ℕ) → IsEnd aim place → IsOnWay was.kind aim place was.state.gist → IsOnWay was.kind aim place it.state.gist
  pub last : it.state.gist.last ≡ was.state.gist.last

-- that the last number of this engine exceeds the log's, or that there was no memory
abbrev pub Tells : List ℕ → ℕ → ℕ → OpenFault → Type 0
Tells name last logged (Ahead engine engine_last log_last) = (engine ≡ name) × (engine_last ≡ last) × (log_last ≡ logged)
Tells name last logged Memory = Unit {0}
Tells name last logged _ = ⊥
