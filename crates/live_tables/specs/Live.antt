-- The tables of an engine in memory. (This project.)
use Rattle.std.specs.Prelude.{◌≡◌, ◌≤◌, ◌+◌, ◌^◌, ℕ, List, [], ◌∷◌, ◌++◌, true, length, sum_by, Result, Err, OnOk, OnErr}
use Rattle.row_format.specs.declared.change.Change.{Change}
use Rattle.log_tables.specs.declared.table.Table.{Table}
use Rattle.log_tables.specs.declared.gist.Prepared.{Prepared}
use Rattle.log_tables.specs.declared.gist.Gist.{Gist}
use Rattle.log_tables.specs.Changes.{after_changes, all_apply}
use Rattle.engine_api.specs.States.{EngineState, Pending, changes_in}
use Rattle.engine_api.specs.Live.{live_bytes, HasRoom}
use Rattle.engine_api.specs.declared.fault.Code.TheVariants.{Full}
use Rattle.engine_api.specs.declared.fault.EngineFault.{EngineFault}
use Rattle.engine_api.specs.declared.fault.EngineFault.TheVariants.{Code as code}
use Rattle.live_tables.specs.Folds.{AreMade, Apart, change_bytes}
use Rattle.live_tables.specs.Opens.{AreDistinct, AllApart, changes_left, shares, HaveOwnXids}

-- what the tables tell: the state of their engine, and for how many transactions more there is memory
pub record Live : Type 0 where
  pub state : EngineState
  pub spare : ℕ

-- the gist, and what is pending, with nothing else as which an image may read
abbrev pub state_with : Gist → List Pending → EngineState
state_with gist pending = record { gist = gist; pending = pending; kept = gist ∷ [] }

-- The state: committed changes that are not in the tables yet come behind them, and what this run prepared behind what was left.
abbrev pub state_of : List Table → List Change → List Prepared → List Pending → ℕ → EngineState
state_of tables done left pending last = state_with (record { tables = after_changes done tables; prepared = left ++ shares pending; last = last }) pending

-- The tables are as changes make them. The changes that are pending apply to the committed tables, and so do those that are done to the
-- tables; no change of one transaction meets one of another, or one that is left; and no transaction and no xid stands twice.
pub record AreSound (tables : List Table) (done : List Change) (left : List Prepared) (pending : List Pending) : Type 0 where
  pub made : AreMade tables
  pub done_fit : all_apply done tables ≡ true
  pub open_fit : all_apply (changes_in pending) (after_changes done tables) ≡ true
  pub apart : AllApart pending
  pub apart_left : Apart (changes_in pending) (changes_left left)
  pub distinct : AreDistinct pending
  pub xids : HaveOwnXids (left ++ shares pending)

-- how many bytes are counted at most, of those that are in the tables, and may yet be
abbrev pub most_bytes : ℕ
most_bytes = 2 ^ 63

-- The counts are those of the bytes of the tables, of what is pending, and of what is done or left; and of the changes that may be committed.
pub record AreCounted (tables : List Table) (done : List Change) (left : List Prepared) (pending : List Pending) (committed opened waits waiting : ℕ) : Type 0 where
  pub committed_is : committed ≡ live_bytes tables
  pub opened_is : opened ≡ sum_by change_bytes (changes_in pending)
  pub waits_is : waits ≡ sum_by change_bytes done + sum_by change_bytes (changes_left left)
  pub small : committed + opened + waits ≤ most_bytes
  pub waiting_is : waiting ≡ length (changes_in pending) + length (changes_left left)

-- These changes can be made on the tables, whose bytes are counted.
pub record CanMake (tables : List Table) (changes : List Change) (committed : ℕ) : Type 0 where
  pub made : AreMade tables
  pub fit : all_apply changes tables ≡ true
  pub committed_is : committed ≡ live_bytes tables
  pub small : committed + sum_by change_bytes changes ≤ most_bytes

-- One change more can be made behind what is pending; the bytes of the tables, and those that all these add, are counted together.
pub record CanAdd (tables : List Table) (pending : List Pending) (change : Change) (counted : ℕ) : Type 0 where
  pub can : CanMake tables (changes_in pending ++ change ∷ []) (live_bytes tables)
  pub counted_is : counted ≡ live_bytes tables + sum_by change_bytes (changes_in pending ++ change ∷ [])

-- A change was added: after Ok the next state, whose bytes are within the limit; else the one before; and it is full only where the
-- bytes would not be.
pub record Adds (result : Result (Unit {0}) EngineFault) (next old new : EngineState) : Type 0 where
  pub ok : OnOk result (new ≡ next)
  pub none : OnErr result (new ≡ old)
  pub full : result ≡ Err (code Full) → HasRoom next → ⊥
  pub not_full : OnOk result (HasRoom next)
