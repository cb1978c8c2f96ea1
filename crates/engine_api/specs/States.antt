-- What an engine is, and its state, as plain values. (This project.)
use Rattle.std.specs.Prelude.{ℕ, ◌==◌, List, [], ◌∷◌, ◌++◌, filter, find, flat_map, not, Option, Some, None, Bool, cond, ◌&&◌, nat_lt}
use Rattle.row_format.specs.declared.change.Change.{Change}
use Rattle.log_tables.specs.declared.table.Table.{Table}
use Rattle.log_tables.specs.declared.gist.Prepared.{Prepared}
use Rattle.log_tables.specs.declared.gist.Gist.{Gist}
use Rattle.log_tables.specs.Changes.{after_changes, all_apply}
use Rattle.log_tables.specs.Gists.{prepared_with, after_prepare, after_commit, after_rollback}
use Rattle.engine_api.specs.declared.flags.Flags.{Flags}

-- what never changes of an engine: its name, its library, what it can do, and the numbers of its files, in order
pub record Kind : Type 0 where
  pub name : List ℕ
  pub soname : List ℕ
  pub flags : Flags
  pub files : List ℕ

-- What a transaction has changed and neither committed nor rolled back: its changes, in order, and the xid under which it is prepared,
-- if it is.
pub record Pending : Type 0 where
  pub txn : ℕ
  pub under : Option ℕ
  pub changes : List Change

-- What an engine has: its gist; what is pending, the transaction that changed or was prepared last at the end; and the gists as which
-- an image of its files may read, the gist first.
pub record EngineState : Type 0 where
  pub gist : Gist
  pub pending : List Pending
  pub kept : List Gist

-- it is what this transaction has pending
abbrev pub is_by : ℕ → Pending → Bool
is_by txn it = it.txn == txn

-- what a transaction has pending, if it has anything
abbrev pub pending_of : ℕ → List Pending → Option Pending
pending_of txn pending = find (is_by txn) pending

-- what all other transactions have pending
abbrev pub without_txn : ℕ → List Pending → List Pending
without_txn txn pending = filter (λ it. not (is_by txn it)) pending

-- the changes of what was found pending
abbrev pub changes_of : Option Pending → List Change
changes_of None = []
changes_of (Some it) = it.changes

-- the xid of what was found pending, if it is prepared
abbrev pub xid_of : Option Pending → Option ℕ
xid_of None = None
xid_of (Some it) = it.under

-- the changes of a transaction, in order
abbrev pub changes_by : ℕ → List Pending → List Change
changes_by txn pending = changes_of (pending_of txn pending)

-- the xid under which a transaction is prepared, if it is
abbrev pub xid_by : ℕ → List Pending → Option ℕ
xid_by txn pending = xid_of (pending_of txn pending)

-- the changes of all transactions
abbrev pub changes_in : List Pending → List Change
changes_in pending = flat_map (λ it. it.changes) pending

-- The live tables: the committed ones, with the open changes of all transactions.
abbrev pub live_tables : EngineState → List Table
live_tables state = after_changes (changes_in state.pending) state.gist.tables

-- with this pending
abbrev pub with_pending : List Pending → EngineState → EngineState
with_pending pending state = record { gist = state.gist; pending = pending; kept = state.kept }

-- another gist, as which alone an image reads
abbrev pub with_gist : Gist → EngineState → EngineState
with_gist gist state = record { gist = gist; pending = state.pending; kept = gist ∷ [] }

-- one change more of a transaction
abbrev pub with_change : ℕ → Change → EngineState → EngineState
with_change txn change state = with_pending (without_txn txn state.pending ++ (record { txn = txn; under = None; changes = changes_by txn state.pending ++ change ∷ [] }) ∷ []) state

-- a transaction is prepared under this xid
abbrev pub with_xid : ℕ → ℕ → EngineState → EngineState
with_xid txn xid state = with_pending (without_txn txn state.pending ++ (record { txn = txn; under = Some xid; changes = changes_by txn state.pending }) ∷ []) state

-- nothing of a transaction is pending
abbrev pub without : ℕ → EngineState → EngineState
without txn state = with_pending (without_txn txn state.pending) state

-- what a transaction changes, under this xid
abbrev pub share_of : ℕ → ℕ → EngineState → Prepared
share_of txn xid state = record { xid = xid; changes = changes_by txn state.pending }

-- after the prepare of a transaction
abbrev pub prepared_state : ℕ → ℕ → EngineState → EngineState
prepared_state txn xid state = with_xid txn xid (with_gist (after_prepare (share_of txn xid state) state.gist) state)

-- after the commit of a transaction, as this number of the log
abbrev pub committed_state : ℕ → ℕ → ℕ → EngineState → EngineState
committed_state txn xid number state = without txn (with_gist (after_commit (share_of txn xid state) number state.gist) state)

-- the gist with what was prepared under this xid taken out, if there is one
abbrev pub gist_without : Option ℕ → Gist → Gist
gist_without None gist = gist
gist_without (Some xid) gist = after_rollback xid gist

-- after the rollback of a transaction, prepared or not
abbrev pub rolled_back_state : ℕ → EngineState → EngineState
rolled_back_state txn state = without txn (with_gist (gist_without (xid_by txn state.pending) state.gist) state)

-- The gist after a commit by xid of what was found: where its changes do not apply, or the number does not exceed the last, it is
-- rolled back.
abbrev pub resolved : Option Prepared → ℕ → Gist → Gist
resolved None number gist = gist
resolved (Some it) number gist = cond (nat_lt gist.last number && all_apply it.changes gist.tables) (after_commit it number gist) (after_rollback it.xid gist)

-- after the commit of a transaction that an earlier run prepared
abbrev pub resolved_state : ℕ → ℕ → EngineState → EngineState
resolved_state xid number state = with_gist (resolved (prepared_with xid state.gist.prepared) number state.gist) state

-- after its rollback
abbrev pub dropped_state : ℕ → EngineState → EngineState
dropped_state xid state = with_gist (after_rollback xid state.gist) state

-- after a sync of all that the engine has written
abbrev pub synced_state : EngineState → EngineState
synced_state state = with_gist state.gist state

-- an engine that has just begun with a gist
abbrev pub begun_state : Gist → EngineState
begun_state gist = record { gist = gist; pending = []; kept = gist ∷ [] }
