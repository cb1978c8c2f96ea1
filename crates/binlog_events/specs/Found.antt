-- Whether a transaction stands at a place, and which one.
use Rattle.std.specs.Prelude.{◌≡◌, ◌+◌, ℕ, List}
use Rattle.frame_codec.specs.Chain.{end_of, last_checksum}
use Rattle.row_format.specs.declared.change.Transaction.{Transaction}
use Rattle.binlog_events.specs.declared.events.Found.{Found}
use Rattle.binlog_events.specs.Transaction.{events_of, IsTransactionAt}

-- no whole transaction stands here
abbrev pub NoTransactionAt : ℕ → ℕ → List ℕ → Type 0
NoTransactionAt prev at bytes = (t : Transaction) → IsTransactionAt prev at bytes t → ⊥

-- the transaction that was found stands here, and ends there
pub record Finds (prev at : ℕ) (bytes : List ℕ) (found : Found) : Type 0 where
  pub here : IsTransactionAt prev at bytes found.txn
  pub len : at + found.len ≡ end_of at (events_of found.txn)
  pub crc : found.crc ≡ last_checksum prev at (events_of found.txn)
