-- What a crash at any moment leaves of the log, and of what was acknowledged. (This project.)
use Rattle.std.specs.Prelude.{◌≡◌, ◌≢◌, ◌⊎◌, ◌≤◌, ℕ, List, [], ◌∷◌, ◌++◌, length, take, Contains, option_to_list, IsTrue}
use Rattle.disk_model.specs.File.{File}
use Rattle.disk_model.specs.Disk.{Disk, now, Keeps}
use Rattle.row_format.specs.declared.change.Transaction.{Transaction}
use Rattle.binlog_file.specs.Logged.{log_of, Holds}
use Rattle.engine_api.specs.States.{Kind}
use Rattle.recovery_rules.specs.Recovery.{ShelfEngine}
use Rattle.volume_rules.specs.Readers.{Reader}
use Rattle.volume_rules.specs.Images.{EachRecoverable, IsRecoverableVolume}
use Rattle.plugd.specs.declared.ack.Ack.{Ack}
use Rattle.plugd.specs.Play.{State}

-- a volume that can be recovered stays so: at each moment of some calls each faithful crash image is recoverable
abbrev pub StaysRecoverable : List ShelfEngine → List Reader → Disk → Disk → Type 0
StaysRecoverable shelf readers start end = IsTrue start.told → IsRecoverableVolume shelf readers start → Keeps start end (EachRecoverable shelf readers)

-- the log file is as it was at the start, or each faithful crash image of it is between two lists
abbrev pub StandsIn : File → List Transaction → List Transaction → File → Type 0
StandsIn was low high file = (file ≡ was) ⊎ Holds low high file

-- the files that are neither the log's nor the engine's are as they were
abbrev pub OthersStay : Kind → (ℕ → File) → (ℕ → File) → Type 0
OthersStay kind was files = (f : ℕ) → f ≢ 0 → (Contains kind.files f → ⊥) → files f ≡ was f

-- An acknowledgement comes at a moment at which the log ends with its transaction. Each faithful crash image at a moment since then has
-- at least so many transactions, the first of all.
pub record IsKept (all : List Transaction) (disk : Disk) (ack : Ack) : Type 0 where
  pub count : ack.number ≤ length all
  pub in_time : ack.call ≤ disk.calls
  pub exactly : (disk.at ack.call 0).bytes ≡ log_of (take ack.number all)
  pub kept : (m : ℕ) → ack.call ≤ m → m ≤ disk.calls → Holds (take ack.number all) all (disk.at m 0)

-- each of these acknowledgements is kept
abbrev pub AreKept : List Transaction → Disk → List Ack → Type 0
AreKept all disk [] = Unit {0}
AreKept all disk (ack ∷ acks) = IsKept all disk ack × AreKept all disk acks

-- all transactions that an image may have: those that were found, those that were logged, and that at which the device failed
abbrev pub all_of : List Transaction → State → List Transaction
all_of found state = found ++ (state.asked ++ option_to_list state.met)

-- What a crash leaves at each moment of the log, of which an image may have these transactions; no file but the log's and the engine's
-- changes; and what becomes of each acknowledgement.
pub record Safe (kind : Kind) (start : Disk) (found all : List Transaction) (acks : List Ack) (disk : Disk) : Type 0 where
  pub moments : Keeps start disk (λ files. StandsIn (now start 0) found all (files 0))
  pub others : Keeps start disk (OthersStay kind (now start))
  pub acks_kept : AreKept all disk acks
