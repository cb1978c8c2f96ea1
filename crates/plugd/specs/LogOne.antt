-- A log of which every transaction is durable. (This project.)
use Rattle.std.specs.Prelude.{◌≡◌, ℕ, List, [], ◌∷◌, IsTrue}
use Rattle.disk_model.specs.Disk.{Disk, now}
use Rattle.binlog_file.specs.declared.binlog.Binlog.{Binlog}
use Rattle.row_format.specs.declared.change.Transaction.{Transaction}
use Rattle.binlog_file.specs.Binlog.{flushed_of, durable_of, IsLog, Carries}

-- the log stands in file 0 with these transactions, all of them durable
pub record IsDurable (log : Binlog) (list : List Transaction) (disk : Disk) : Type 0 where
  pub is_log : IsLog log list (now disk 0)
  pub durable : durable_of log ≡ flushed_of log

-- P of each list of transactions that the log has, all of them durable, and of one more whose bytes these are, where contents are told
abbrev pub EachOne : Binlog → List ℕ → Disk → (List Transaction → Transaction → Type 0) → Type 0
EachOne log bytes disk P = (list : List Transaction) (t : Transaction) → IsTrue disk.told → Carries log bytes (t ∷ []) → IsDurable log list disk → P list t
