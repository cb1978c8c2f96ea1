-- Where do frames end that were written one after the other, and what was read of the next one?
use Rattle.std.specs.Prelude.{length, ◌<◌, ◌^◌, [], ◌∷◌, None, ◌≡◌, ◌≤◌, ◌+◌, ℕ, List, ◌++◌, Result, Ok, Err}
use Rattle.std.specs.declared.alloc.AllocError.{AllocError}
use Rattle.frame_codec.specs.Frame.{Event, size_of, checksum_of, frame_of, limit}
use Rattle.frame_codec.specs.Chain.{chain_of, end_of, last_checksum, EndsWithin}
use Rattle.framed_file.specs.Framed.{IsPrefix}
use Rattle.binlog_events.specs.declared.events.End.{End}
use Rattle.row_format.specs.declared.change.Change.{Change}
use Rattle.row_format.specs.declared.fault.Unread.{Unread}
use Rattle.row_format.specs.declared.fault.Unread.TheVariants.{Absent, Memory}
use Rattle.row_format.specs.Changes.{AreFitChanges}
use Rattle.binlog_events.specs.Changes.{change_events}
use Rattle.binlog_events.specs.Transaction.{xid_event}

-- after Ok the frames of these events were added, and end there; after want of memory what was there still stands in front
abbrev pub Chains : Result End AllocError → End → List ℕ → List ℕ → List Event → Type 0
Chains (Ok end) start old new events =
    (new ≡ old ++ chain_of start.crc start.at events) × (end.at ≡ end_of start.at events) × (end.crc ≡ last_checksum start.crc start.at events)
Chains (Err _) start old new events = IsPrefix old new

-- the frame of this event stands in front of these bytes, and the rest behind it; it ends there, with this checksum
pub record IsNext (start : End) (bytes : List ℕ) (event : Event) (rest : List ℕ) (end : End) : Type 0 where
  pub ends : start.at + size_of event ≤ limit
  pub stands : bytes ≡ frame_of start.crc start.at event ++ rest
  pub at : end.at ≡ start.at + size_of event
  pub crc : end.crc ≡ checksum_of start.crc start.at event

-- the events of changes, and the XID that ends them
abbrev pub told_events : List Change → ℕ → List Event
told_events changes xid = change_events None changes ++ xid_event xid ∷ []

-- the frames of these changes, at least one, and of this XID stand in front of these bytes, and the rest behind them; they end there
pub record TellsChanges (start : End) (bytes : List ℕ) (changes : List Change) (xid : ℕ) (rest : List ℕ) (end : End) : Type 0 where
  pub some : 0 < length changes
  pub fit : AreFitChanges changes
  pub small : xid < 2 ^ 64
  pub ends : EndsWithin start.at (told_events changes xid)
  pub stands : bytes ≡ chain_of start.crc start.at (told_events changes xid) ++ rest
  pub at : end.at ≡ end_of start.at (told_events changes xid)
  pub crc : end.crc ≡ last_checksum start.crc start.at (told_events changes xid)

-- no changes, at least one, that an XID ends stand in front of these bytes
abbrev pub NoChanges : End → List ℕ → Type 0
NoChanges start bytes = (changes : List Change) (xid : ℕ) (rest : List ℕ) → 0 < length changes → AreFitChanges changes → xid < 2 ^ 64 → EndsWithin start.at (told_events changes xid)
    → bytes ≡ chain_of start.crc start.at (told_events changes xid) ++ rest → ⊥

-- nothing was read: this holds, unless memory ran out
abbrev pub FailsFor : Unread → Type 0 → Type 0
FailsFor Absent P = P
FailsFor Memory P = Unit {0}
