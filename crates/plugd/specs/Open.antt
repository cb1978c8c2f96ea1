-- What an opening of a volume leaves: where a session begins, or why there is none. (This project.)
use Rattle.std.specs.Prelude.{◌≡◌, ◌⊎◌, ◌≤◌, ◌<◌, ℕ, List, [], ◌∷◌, length, Contains, None, IsTrue}
use Rattle.fault_counts.specs.Rose.{Rose}
use Rattle.disk_model.specs.Disk.{Disk, now, contents, Keeps}
use Rattle.row_format.specs.declared.change.Transaction.{Transaction}
use Rattle.binlog_file.specs.declared.fault.BinlogFault.{BinlogFault}
use Rattle.binlog_file.specs.declared.fault.BinlogFault.TheVariants as log
use Rattle.binlog_file.specs.Logged.{IsLogged, IsNoLog, log_end}
use Rattle.binlog_file.specs.Opening.{IsSafe}
use Rattle.log_tables.specs.declared.gist.Gist.{Gist}
use Rattle.log_tables.specs.Tables.{part_of}
use Rattle.log_tables.specs.Changes.{tables_after}
use Rattle.engine_api.specs.Many.{Working}
use Rattle.engine_api.specs.Reads.{bytes_in}
use Rattle.xid_recovery.specs.declared.report.OpenFault.{OpenFault}
use Rattle.xid_recovery.specs.declared.report.OpenFault.TheVariants.{Device, NotAVolume, EngineMissing, Ahead, Memory}
use Rattle.volume_rules.specs.Images.{IsRecoverableVolume}
use Rattle.plugd.specs.Asked.{engine_name}
use Rattle.plugd.specs.Crash.{StaysRecoverable, OthersStay}
use Rattle.plugd.specs.Serve.{Base, Core, reader_of, shelf_of, IsCatalogOf, Serving}

-- What a session begins with: the logged transactions of the log, whose length and count are told, and what they have made; and the tables
-- of the engine, which are its part of the log's, where the volume could be recovered.
pub record IsBase (limit : ℕ) (engine : Working) (disk : Disk) (base : Base) : Type 0 where
  pub start : base.start ≡ disk
  pub limit_is : base.limit ≡ limit
  pub line : base.first.line ≡ 0
  pub given : base.first.given ≡ []
  pub asked : base.first.asked ≡ []
  pub halted : base.first.halted ≡ None
  pub met : base.first.met ≡ None
  pub found : IsTrue disk.told → IsLogged (contents disk 0) base.found × (base.first.count ≡ length base.found) × (base.first.len ≡ log_end base.found)
  pub catalog : IsTrue disk.told → IsCatalogOf base.found base.first.catalog
  pub live : IsTrue disk.told → IsRecoverableVolume (shelf_of engine) (reader_of engine ∷ []) disk → base.first.catalog.live ≡ part_of engine_name (tables_after base.found)

-- what was opened serves from what the opening found, and has played nothing
abbrev pub Begins : ℕ → Disk → Core → Type 0
Begins limit disk core = (base : Base) × IsBase limit core.engine disk base × Serving base [] [] core

-- a file is none of its format: the log's, or one of the engine's, whose contents stand for nothing
abbrev pub IsNone : Working → Disk → ℕ → Type 0
IsNone engine disk file =
    ((file ≡ 0) × (IsTrue disk.told → IsNoLog (contents disk 0)))
    ⊎ (Contains engine.kind.files file × (IsTrue disk.told → (gist : Gist) → engine.reading.stands (bytes_in engine.kind.files disk) gist → ⊥))

-- the engine's last number exceeds the log's
pub record IsAheadOf (engine : Working) (disk : Disk) (name : List ℕ) (last log_last : ℕ) : Type 0 where
  pub name_is : name ≡ engine.kind.name
  pub ahead : log_last < last
  pub log_is : IsTrue disk.told → (log : List Transaction) × IsLogged (contents disk 0) log × (log_last ≡ length log)
  pub last_is : IsTrue disk.told → (gist : Gist) × engine.reading.stands (bytes_in engine.kind.files disk) gist × (last ≡ gist.last)

-- the device failed, or there was no memory
abbrev pub IsOutside : OpenFault → Type 0
IsOutside Device = Unit {0}
IsOutside Memory = Unit {0}
IsOutside _ = ⊥

-- An opening was refused: the cause of each fault, what it has left of the log at each moment, and that of a volume that could be recovered
-- each crash leaves one.
pub record Refused (engine : Working) (start : Disk) (fault : OpenFault) (end : Disk) : Type 0 where
  pub told : end.told ≡ start.told
  pub later : start.calls ≤ end.calls
  pub no_fewer : start.faults ≤ end.faults
  pub device : fault ≡ Device → Rose start.faults end.faults
  pub not_a_volume : (file : ℕ) → fault ≡ NotAVolume file → IsNone engine start file
  pub ahead : (name : List ℕ) (last log_last : ℕ) → fault ≡ Ahead name last log_last → IsAheadOf engine start name last log_last
  pub none_missing : (name : List ℕ) → fault ≡ EngineMissing name → ⊥
  pub outside : IsTrue start.told → IsRecoverableVolume (shelf_of engine) (reader_of engine ∷ []) start → IsOutside fault
  pub sound : StaysRecoverable (shelf_of engine) (reader_of engine ∷ []) start end
  pub log_safe : IsTrue start.told → Keeps start end (λ files. IsSafe (now start 0) (files 0))
  pub others : IsTrue start.told → Keeps start end (OthersStay engine.kind (now start))

-- the fault of the log, as one of an opening
abbrev pub as_opening : BinlogFault → OpenFault
as_opening log.Device = Device
as_opening (log.NotAVolume file) = NotAVolume file
as_opening log.Memory = Memory
