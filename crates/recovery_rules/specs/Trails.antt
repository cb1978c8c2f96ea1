-- How far one engine has come on the way to a log. (This project.)
use Rattle.std.specs.Prelude.{◌≡◌, ◌≢◌, ℕ, ◌≤◌, ◌<◌, List, [], Some, slice_get, length, Contains}
use Rattle.row_format.specs.declared.change.Transaction.{Transaction}
use Rattle.log_tables.specs.declared.gist.Prepared.{Prepared}
use Rattle.log_tables.specs.declared.gist.Gist.{Gist}
use Rattle.log_tables.specs.Tables.{part_of}
use Rattle.log_tables.specs.Changes.{EachApplies, tables_after}
use Rattle.recovery_rules.specs.Places.{tables_at, Touches, share_at, IsQuiet}

-- each change of the log on a table of the engine applies where it stands
pub record LogApplies (engine : List ℕ) (log : List Transaction) : Type 0 where
  pub applies : (place : ℕ) (it : Transaction) → slice_get log place ≡ Some it → EachApplies engine it.changes (tables_at log place)

-- what the engine has prepared is its share of the transaction at this place, which it has not committed
pub record IsOwed (engine : List ℕ) (log : List Transaction) (last place : ℕ) (it : Transaction) (prepared : Prepared) : Type 0 where
  pub later : last ≤ place
  pub touches : Touches engine log place it
  pub is : prepared ≡ share_at engine log place it

-- The engine trails the log: it has the tables of the log up to its last number, and has prepared its share of each later transaction
-- that touches it; and under an xid of the log it has prepared nothing else.
pub record Trails (engine : List ℕ) (log : List Transaction) (gist : Gist) : Type 0 where
  pub not_ahead : gist.last ≤ length log
  pub tables : gist.tables ≡ part_of engine (tables_at log gist.last)
  pub applies : LogApplies engine log
  pub rest_prepared : (place : ℕ) (it : Transaction) → slice_get log place ≡ Some it → gist.last ≤ place → Touches engine log place it → Contains gist.prepared (share_at engine log place it)
  pub no_stray : (place : ℕ) (it : Transaction) (p : Prepared) → slice_get log place ≡ Some it → Contains gist.prepared p → p.xid ≡ it.xid → IsOwed engine log gist.last place it p

-- the engine is at the log: it has its part of the log's tables, and nothing prepared
pub record IsAtLog (engine : List ℕ) (log : List Transaction) (gist : Gist) : Type 0 where
  pub tables : gist.tables ≡ part_of engine (tables_after log)
  pub none_prepared : gist.prepared ≡ []

-- the transaction at this place is one that the engine may commit next: no transaction that touches it stands between its last one and it
pub record IsNext (engine : List ℕ) (log : List Transaction) (gist : Gist) (place : ℕ) (it : Transaction) : Type 0 where
  pub at : slice_get log place ≡ Some it
  pub later : gist.last ≤ place
  pub quiet : IsQuiet engine log gist.last place

-- under the xid of no transaction before this place is anything prepared
pub record NonePrepared (log : List Transaction) (gist : Gist) (to : ℕ) : Type 0 where
  pub unlike : (place : ℕ) (it : Transaction) (p : Prepared) → slice_get log place ≡ Some it → place < to → Contains gist.prepared p → p.xid ≢ it.xid

-- The engine is ready for a transaction that comes to the end of the log: its changes on tables of the engine apply there, and the engine
-- has prepared its share of it, and nothing else under its xid.
pub record IsReady (engine : List ℕ) (log : List Transaction) (it : Transaction) (gist : Gist) : Type 0 where
  pub applies : EachApplies engine it.changes (tables_after log)
  pub prepared : Touches engine log (length log) it → Contains gist.prepared (share_at engine log (length log) it)
  pub only : (p : Prepared) → Contains gist.prepared p → p.xid ≡ it.xid → IsOwed engine log gist.last (length log) it p
