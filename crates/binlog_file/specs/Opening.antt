-- What an opening of the log does: what it has read so far, and what it leaves. (This project.)
use Rattle.std.specs.Prelude.{◌≡◌, ◌⊎◌, ◌+◌, ◌≤◌, ◌<◌, ℕ, Bool, true, false, List, [], ◌++◌, length, Option, None, IfSome}
use Rattle.disk_model.specs.File.{File, IsSettled}
use Rattle.disk_model.specs.Disk.{Disk, now, contents}
use Rattle.frame_codec.specs.Frame.{limit}
use Rattle.frame_codec.specs.Chain.{chain_of, end_of, EndsWithin}
use Rattle.framed_file.specs.Framed.{header_len}
use Rattle.binlog_file.specs.declared.binlog.Binlog.{Binlog}
use Rattle.binlog_file.specs.declared.scan.Scan.{Scan}
use Rattle.row_format.specs.declared.change.Transaction.{Transaction}
use Rattle.binlog_file.specs.Logged.{all_events, log_end, log_checksum, AreFit, Headed, Headless, IsLogged, Holds}
use Rattle.binlog_file.specs.Binlog.{flushed_of, durable_of, IsLog}
use Rattle.binlog_events.specs.Transaction.{events_of, IsTransactionAt}
use Rattle.binlog_events.specs.Found.{NoTransactionAt}

-- a reading has come behind these transactions
pub record Reached (scan : Scan) (list : List Transaction) : Type 0 where
  pub fit : AreFit list
  pub ends : EndsWithin header_len (all_events list)
  pub count : scan.count ≡ length list
  pub len : scan.len ≡ log_end list
  pub crc : scan.crc ≡ log_checksum list

-- each transaction that stands here, whatever follows these bytes, has at least so many, which are more than are there
pub record Needs (prev at : ℕ) (bytes : List ℕ) (n : ℕ) : Type 0 where
  pub more : length bytes < n
  pub within : at + n ≤ limit
  pub least : (t : Transaction) (beyond : List ℕ) → IsTransactionAt prev at (bytes ++ beyond) t → at + n ≤ end_of at (events_of t)

-- no transaction stands here, whatever follows these bytes
abbrev pub NeverAt : ℕ → ℕ → List ℕ → Type 0
NeverAt prev at bytes = (beyond : List ℕ) → NoTransactionAt prev at (bytes ++ beyond)

-- so many bytes are needed to tell what stands behind these transactions; then the piece was not the last
pub record CutOff (list : List Transaction) (rest : List ℕ) (is_last : Bool) (n : ℕ) : Type 0 where
  pub not_last : is_last ≡ false
  pub needs : Needs (log_checksum list) (log_end list) rest n

-- Some transactions more were read at the front of a piece, and given to the visitor. Either no other one stands behind them, whatever
-- follows the piece, which is nothing where it was the last; or so many bytes are needed there, and the reading goes on.
pub record Walks (before after : List Transaction → Type 0) (list : List Transaction) (bytes : List ℕ) (scan : Scan) (is_last : Bool) (needs : Option ℕ) : Type 0 where
  pub more : List Transaction
  pub reached : Reached scan (list ++ more)
  pub visited : (some : List Transaction) → before some → after (some ++ more)
  pub rest : List ℕ
  pub split : bytes ≡ chain_of (log_checksum list) (log_end list) (all_events more) ++ rest
  pub none : needs ≡ None → (beyond : List ℕ) → (is_last ≡ true → beyond ≡ [])
      → NoTransactionAt (log_checksum (list ++ more)) (log_end (list ++ more)) (rest ++ beyond)
  pub goes_on : IfSome needs (CutOff (list ++ more) rest is_last)

-- a piece that is not the last was read; more bytes are needed behind its transactions than it has
pub record Further (old new : Scan) (bytes : List ℕ) (is_last : Bool) (n : ℕ) : Type 0 where
  pub not_last : is_last ≡ false
  pub later : old.len ≤ new.len
  pub more : old.len + length bytes < new.len + n
  pub within : new.len + n ≤ limit

-- all logged transactions were read, and given to the visitor
pub record Walked (before after : List Transaction → Type 0) (bytes : List ℕ) (scan : Scan) : Type 0 where
  pub list : List Transaction
  pub reached : Reached scan list
  pub visited : (some : List Transaction) → before some → after (some ++ list)
  pub headed : Headed bytes list

-- so many transactions were given to the visitor, one after the other
pub record IsGiven (before after : List Transaction → Type 0) (count : ℕ) : Type 0 where
  pub list : List Transaction
  pub counted : count ≡ length list
  pub given : (some : List Transaction) → before some → after (some ++ list)

-- the file is as it was, or each faithful crash image of it has the transactions that it had and no others
abbrev pub IsSafe : File → File → Type 0
IsSafe was file = (file ≡ was) ⊎ ((list : List Transaction) × IsLogged was.bytes list × Holds list list file)

-- An opening that answered Ok: the file has the transactions that it had, and nothing else, all of it synced. What was cut is what
-- stood behind them, or all bytes of a file without a header.
pub record Opens (start end : Disk) (list : List Transaction) (log : Binlog) (cut : ℕ) : Type 0 where
  pub logged : IsLogged (contents start 0) list
  pub is_log : IsLog log list (now end 0)
  pub settled : IsSettled (now end 0)
  pub durable : durable_of log ≡ flushed_of log
  pub headed : Headed (contents start 0) list → cut + log_end list ≡ length (contents start 0)
  pub headless : Headless (contents start 0) list → cut ≡ length (contents start 0)

-- the same, with what the visitor stands for
pub record OpensFor (before after : List Transaction → Type 0) (start end : Disk) (log : Binlog) (cut : ℕ) : Type 0 where
  pub list : List Transaction
  pub opens : Opens start end list log cut
  pub visited : (some : List Transaction) → before some → after (some ++ list)
