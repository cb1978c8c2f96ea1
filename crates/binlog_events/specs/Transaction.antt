-- How is a transaction spelt in the log: BEGIN, the events of its changes, and the XID that ends it.
-- (The types are those of MySQL Internals Manual, "Event Classes and Types"; the bodies are this project's.)
use Rattle.std.specs.Prelude.{◌≡◌, ◌<◌, ◌^◌, ℕ, List, [], ◌∷◌, ◌++◌, length, None}
use Rattle.frame_codec.specs.Bytes.{le64}
use Rattle.frame_codec.specs.Frame.{Event}
use Rattle.frame_codec.specs.Chain.{chain_of, EndsWithin}
use Rattle.row_format.specs.declared.change.Transaction.{Transaction}
use Rattle.row_format.specs.Changes.{AreFitChanges}
use Rattle.binlog_events.specs.Changes.{change_events}

-- the start of a transaction: a QUERY with the byte 1
abbrev pub begin : Event
begin = record { kind = 2; body = 1 ∷ [] }

-- the end of a transaction: without it, it is not there
abbrev pub xid_event : ℕ → Event
xid_event xid = record { kind = 16; body = le64 xid }

-- the events of a transaction, in order
abbrev pub events_of : Transaction → List Event
events_of t = begin ∷ (change_events None t.changes ++ xid_event t.xid ∷ [])

-- a transaction that can be spelt
pub record IsFit (t : Transaction) : Type 0 where
  pub xid : t.xid < 2 ^ 64
  pub some : 0 < length t.changes
  pub changes : AreFitChanges t.changes

-- A whole transaction stands at the front of these bytes, which are those from a file position on, chained to a checksum.
pub record IsTransactionAt (prev at : ℕ) (bytes : List ℕ) (t : Transaction) : Type 0 where
  pub fit : IsFit t
  pub ends : EndsWithin at (events_of t)
  pub rest : List ℕ
  pub stands : bytes ≡ chain_of prev at (events_of t) ++ rest
