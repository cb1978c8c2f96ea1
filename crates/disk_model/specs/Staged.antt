-- A file that is synced, changed by one step, and synced again. (This project's disk model.)
use Rattle.std.specs.Prelude.{◌≡◌, ◌≤◌, ℕ, [], ◌∷◌, Result, OnOk, IsErr, IsTrue}
use Rattle.fault_counts.specs.Rose.{Rose}
use Rattle.disk_model.specs.declared.storage.Failed.{Failed}
use Rattle.disk_model.specs.File.{File, Step, after_step}
use Rattle.disk_model.specs.Start.{settled}
use Rattle.disk_model.specs.Disk.{Disk, now, contents, Keeps, Only}

-- where the file stands: as it was, synced, with the step asked for, or synced after it
pub data IsChanging (step : Step) (was file : File) : Type 0 where
  as_was : file ≡ was → IsChanging step was file
  synced : file ≡ settled was.bytes → IsChanging step was file
  stepping : file.synced ≡ was.bytes → file.steps ≡ step ∷ [] → IsChanging step was file
  changed : file ≡ settled (after_step step was.bytes) → IsChanging step was file

-- some calls of such a change: the counts go on, and at each moment the file stands so and no other file changes
pub record IsOnWay (file : ℕ) (step : Step) (start end : Disk) : Type 0 where
  pub told : end.told ≡ start.told
  pub later : start.calls ≤ end.calls
  pub no_fewer : start.faults ≤ end.faults
  pub moments : IsTrue start.told → Keeps start end (Only file (now start) (IsChanging step (now start file)))

-- the whole change: after Ok the file has the step's bytes, all of them synced
pub record Changes (file : ℕ) (step : Step) (result : Result Unit Failed) (start end : Disk) : Type 0 where
  pub way : IsOnWay file step start end
  pub cause : IsErr result → Rose start.faults end.faults
  pub ok : IsTrue start.told → OnOk result (now end file ≡ settled (after_step step (contents start file)))
