-- Making an area in a file: the file is emptied, gets its header with a closed gate, and then the gate is opened. (This project.)
use Rattle.std.specs.Prelude.{◌≡◌, ◌≤◌, ℕ, [], ◌∷◌, Result, OnOk, IsErr, IsTrue}
use Rattle.fault_counts.specs.Rose.{Rose}
use Rattle.disk_model.specs.declared.storage.Failed.{Failed}
use Rattle.disk_model.specs.File.{File, Wrote, CutTo}
use Rattle.disk_model.specs.Start.{settled}
use Rattle.disk_model.specs.Disk.{Disk, now, Keeps, Only}
use Rattle.disk_model.specs.Staged.{IsChanging}
use Rattle.redo_journal.specs.Areas.{area_header, gate_place}

-- where the file stands: being emptied, getting its header, or getting its gate byte
pub data IsMaking (sequence : ℕ) (was file : File) : Type 0 where
  emptying : IsChanging (CutTo 0) was file → IsMaking sequence was file
  heading : IsChanging (Wrote 0 (area_header sequence 0)) (settled []) file → IsMaking sequence was file
  gating : IsChanging (Wrote gate_place (1 ∷ [])) (settled (area_header sequence 0)) file → IsMaking sequence was file

-- An area is made: at each moment the file stands so and no other file changes, and after Ok it has an open header and no more.
pub record Makes (file sequence : ℕ) (result : Result Unit Failed) (start end : Disk) : Type 0 where
  pub told : end.told ≡ start.told
  pub later : start.calls ≤ end.calls
  pub no_fewer : start.faults ≤ end.faults
  pub cause : IsErr result → Rose start.faults end.faults
  pub moments : IsTrue start.told → Keeps start end (Only file (now start) (IsMaking sequence (now start file)))
  pub ok : IsTrue start.told → OnOk result (now end file ≡ settled (area_header sequence 1))
