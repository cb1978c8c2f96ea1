-- What a `Binlog` stands for, and what is appended to it. (This project.)
use Rattle.std.specs.Prelude.{◌≡◌, ◌≤◌, ◌+◌, ℕ, List, length, take, IsTrue}
use Rattle.disk_model.specs.File.{File}
use Rattle.disk_model.specs.Disk.{Disk, now}
use Rattle.disk_model.specs.Grew.{OnlyGrew}
use Rattle.frame_codec.specs.Chain.{chain_of, EndsWithin}
use Rattle.framed_file.specs.Framed.{header_len}
use Rattle.binlog_file.specs.declared.binlog.Binlog.{Binlog}
use Rattle.row_format.specs.declared.change.Transaction.{Transaction}
use Rattle.binlog_file.specs.Logged.{all_events, log_end, log_checksum, log_of, AreFit}

-- how many transactions were written
abbrev pub flushed_of : Binlog → ℕ
flushed_of log = log.flushed

-- how many of them are synced
abbrev pub durable_of : Binlog → ℕ
durable_of log = log.durable

-- where the next transaction goes
abbrev pub end_in : Binlog → ℕ
end_in log = log.len

-- the checksum to which the next transaction is chained
abbrev pub checksum_in : Binlog → ℕ
checksum_in log = log.crc

-- The log stands in its file: the file has these transactions and nothing else, and the first of them, so many as are durable,
-- were there at the last sync.
pub record IsLog (log : Binlog) (list : List Transaction) (file : File) : Type 0 where
  pub fit : AreFit list
  pub ends : EndsWithin header_len (all_events list)
  pub bytes : file.bytes ≡ log_of list
  pub flushed : log.flushed ≡ length list
  pub durable : log.durable ≤ length list
  pub synced : file.synced ≡ log_of (take log.durable list)
  pub grew : OnlyGrew file.synced file.steps file.bytes
  pub len : log.len ≡ log_end list
  pub crc : log.crc ≡ log_checksum list

-- the log is open on this disk: where contents are told, file 0 has some transactions, and the log stands for them
pub record IsOpen (log : Binlog) (disk : Disk) : Type 0 where
  pub stands : IsTrue disk.told → (list : List Transaction) × IsLog log list (now disk 0)

-- the bytes are those of these transactions, chained to the end of the log, and they fit
pub record Carries (log : Binlog) (bytes : List ℕ) (more : List Transaction) : Type 0 where
  pub fit : AreFit more
  pub spelt : bytes ≡ chain_of log.crc log.len (all_events more)
  pub ends : EndsWithin log.len (all_events more)

-- P of each list of transactions for which the log stands in file 0, where contents are told
abbrev pub EachLog : Binlog → Disk → (List Transaction → Type 0) → Type 0
EachLog log disk P = (list : List Transaction) → IsTrue disk.told → IsLog log list (now disk 0) → P list

-- P of each such list, and of so many transactions whose bytes these are, behind it
abbrev pub EachAppend : Binlog → List ℕ → ℕ → Disk → (List Transaction → List Transaction → Type 0) → Type 0
EachAppend log bytes count disk P = (list more : List Transaction) → IsTrue disk.told → count ≡ length more → Carries log bytes more → IsLog log list (now disk 0) → P list more

-- the counts and the end after so many more transactions
pub record GoesOn (old new : Binlog) (count size : ℕ) : Type 0 where
  pub flushed : new.flushed ≡ old.flushed + count
  pub durable : new.durable ≡ old.durable
  pub len : new.len ≡ old.len + size

-- nothing of it changed
pub record IsSame (old new : Binlog) : Type 0 where
  pub flushed : new.flushed ≡ old.flushed
  pub durable : new.durable ≡ old.durable
  pub len : new.len ≡ old.len
  pub crc : new.crc ≡ old.crc
