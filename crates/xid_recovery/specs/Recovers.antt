-- What a recovery of one engine makes of its files. (This project.)
use Rattle.std.specs.Prelude.{◌≡◌, ◌+◌, ◌≤◌, ◌<◌, ℕ, List, [], ◌∷◌, Result, Ok, Err, OnOk, IsErrOf, IsTrue, Contains, All}
use Rattle.disk_model.specs.File.{File}
use Rattle.disk_model.specs.Disk.{Disk, now, Keeps}
use Rattle.row_format.specs.declared.change.Transaction.{Transaction}
use Rattle.log_tables.specs.declared.gist.Prepared.{Prepared}
use Rattle.log_tables.specs.declared.gist.Gist.{Gist}
use Rattle.log_tables.specs.Gists.{is_prepared}
use Rattle.recovery_rules.specs.Trails.{Trails, IsAtLog}
use Rattle.recovery_rules.specs.Recovery.{Suits}
use Rattle.engine_api.specs.States.{Kind, EngineState, begun_state}
use Rattle.engine_api.specs.Live.{allows}
use Rattle.engine_api.specs.Reads.{Reading, AreFaithful, AreAtStart, EachReads, files_in, bytes_in, OnlyIn}
use Rattle.engine_api.specs.Many.{Working}
use Rattle.xid_recovery.specs.declared.report.EngineReport.{EngineReport}
use Rattle.xid_recovery.specs.declared.report.OpenFault.{OpenFault}
use Rattle.xid_recovery.specs.declared.report.OpenFault.TheVariants.{Device, NotAVolume, EngineMissing, Ahead, Memory}
use Rattle.xid_recovery.specs.Pairs.{xids_in, CountsXids}

-- the fault is one of the device
abbrev pub IsDeviceFault : {T : Type 0} → Result T OpenFault → Type 0
IsDeviceFault result = IsErrOf result Device

-- it is done, or the device failed, or there was no memory
abbrev pub IsDoneOrOutside : {T : Type 0} → Result T OpenFault → Type 0
IsDoneOrOutside (Ok value) = Unit {0}
IsDoneOrOutside (Err Device) = Unit {0}
IsDoneOrOutside (Err Memory) = Unit {0}
IsDoneOrOutside (Err _) = ⊥

-- the gist goes with the log: it trails it, and the engine's flags allow each table that something prepared makes
pub record GoesWith (kind : Kind) (log : List Transaction) (gist : Gist) : Type 0 where
  pub trails : Trails kind.name log gist
  pub suits : All (λ (p : Prepared). Suits kind.name (allows kind.flags) p.changes) gist.prepared

-- each faithful crash image of these files reads as a gist that goes with the log
abbrev pub EachGoes : Kind → List Transaction → Reading → List File → Type 0
EachGoes kind log reading files = (images : List (List ℕ)) → AreFaithful reading 0 files images → (gist : Gist) × GoesWith kind log gist × reading.stands images gist

-- By its files the engine is recoverable to the log: where each of them has its contents or a faithful crash image, they stand for a gist
-- that goes with it.
pub record IsRecoverableIn (kind : Kind) (reading : Reading) (log : List Transaction) (disk : Disk) : Type 0 where
  pub images : (images : List (List ℕ)) → AreAtStart reading 0 (files_in kind.files disk) images → (gist : Gist) × GoesWith kind log gist × reading.stands images gist

-- The engine is between two calls: nothing is pending in it, its files are what it takes them for, and each faithful crash image of them
-- reads as its gist.
pub record IsIdle (it : Working) (disk : Disk) : Type 0 where
  pub begun : it.state ≡ begun_state it.state.gist
  pub files : IsTrue disk.told → it.holds (files_in it.kind.files disk) × EachReads it.reading (it.state.gist ∷ []) (files_in it.kind.files disk)

-- From files that are recoverable to the log: at each moment they are, all other files are as they were, and after Ok the engine is at
-- the log. It is done, or the device failed, or there was no memory.
pub record Recovers (kind : Kind) (reading : Reading) (log : List Transaction) (result : Result EngineReport OpenFault) (new : EngineState) (before after : Disk) : Type 0 where
  pub moments : Keeps before after (OnlyIn kind.files (now before) (EachGoes kind log reading))
  pub goes : OnOk result (GoesWith kind log new.gist)
  pub at_log : OnOk result (IsAtLog kind.name log new.gist)
  pub answers : IsDoneOrOutside result

-- The report on an engine that began with this gist: its name, its last number, and of the xids that were prepared how many are not paired,
-- which were rolled back, and how many the others are.
pub record Reports (name : List ℕ) (gist : Gist) (last : ℕ) (pairs : List (ℕ × ℕ)) (report : EngineReport) : Type 0 where
  pub name_is : report.name ≡ name
  pub last_is : report.last ≡ last
  pub rolled_back : CountsXids report.rolled_back (λ xid. IsTrue (is_prepared xid gist.prepared) × (Contains (xids_in pairs) xid → ⊥))
  pub both : CountsXids (report.committed + report.rolled_back) (λ xid. IsTrue (is_prepared xid gist.prepared))

-- the contents of the files stand for this gist, where they are told
abbrev pub Found : Kind → Reading → Disk → Gist → Type 0
Found kind reading disk gist = IsTrue disk.told → reading.stands (bytes_in kind.files disk) gist

-- the engine began with a gist whose last number the log has, and this is the report on it
pub record IsReport (kind : Kind) (reading : Reading) (disk : Disk) (logged : ℕ) (pairs : List (ℕ × ℕ)) (last : ℕ) (report : EngineReport) : Type 0 where
  pub gist : Gist
  pub found : Found kind reading disk gist
  pub logged_it : gist.last ≤ logged
  pub reports : Reports kind.name gist last pairs report

-- the engine began with a gist whose last number the log does not have
pub record IsAhead (kind : Kind) (reading : Reading) (disk : Disk) (logged : ℕ) (name : List ℕ) (last log_last : ℕ) : Type 0 where
  pub gist : Gist
  pub found : Found kind reading disk gist
  pub name_is : name ≡ kind.name
  pub last_is : last ≡ gist.last
  pub log_last_is : log_last ≡ logged
  pub ahead : logged < gist.last

-- After Ok the engine is between two calls, with nothing prepared.
pub record IsBrought (it : Working) (disk : Disk) : Type 0 where
  pub idle : IsIdle it disk
  pub none_prepared : it.state.gist.prepared ≡ []

-- Which faults may be told, besides Device and Memory: Ahead exactly where the engine began with a last number that the log does not have;
-- that a file is none only of a file of the engine, and, where contents are told, where they stand for no gist; and no engine is missed.
pub record TellsOnly (kind : Kind) (reading : Reading) (disk : Disk) (logged : ℕ) (result : Result EngineReport OpenFault) : Type 0 where
  pub ahead : (name : List ℕ) (last log_last : ℕ) → result ≡ Err (Ahead name last log_last) → IsAhead kind reading disk logged name last log_last
  pub not_a_volume : (file : ℕ) → result ≡ Err (NotAVolume file)
      → Contains kind.files file × (IsTrue disk.told → (gist : Gist) → reading.stands (bytes_in kind.files disk) gist → ⊥)
  pub none_missing : (name : List ℕ) → result ≡ Err (EngineMissing name) → ⊥
