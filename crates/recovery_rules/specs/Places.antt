-- What stands at a place of a log, from 0, and what of it is an engine's. (This project.)
use Rattle.std.specs.Prelude.{◌≡◌, ◌≢◌, ℕ, ◌≤◌, ◌<◌, List, [], ◌∷◌, Some, slice_get, take, map, Contains}
use Rattle.row_format.specs.declared.change.Change.{Change}
use Rattle.row_format.specs.declared.change.Transaction.{Transaction}
use Rattle.log_tables.specs.declared.gist.Prepared.{Prepared}
use Rattle.log_tables.specs.declared.table.Table.{Table}
use Rattle.log_tables.specs.Changes.{changes_on, tables_after}

-- the tables before the transaction at this place
abbrev pub tables_at : List Transaction → ℕ → List Table
tables_at log place = tables_after (take place log)

-- what the transaction at this place changes on tables of the engine
abbrev pub part_at : List ℕ → List Transaction → ℕ → Transaction → List Change
part_at engine log place it = changes_on engine it.changes (tables_at log place)

-- the transaction at this place changes something on a table of the engine
abbrev pub Touches : List ℕ → List Transaction → ℕ → Transaction → Type 0
Touches engine log place it = part_at engine log place it ≢ []

-- what the engine prepares of the transaction at this place: its xid, and that part of its changes
abbrev pub share_at : List ℕ → List Transaction → ℕ → Transaction → Prepared
share_at engine log place it = record { xid = it.xid; changes = part_at engine log place it }

-- none of the transactions from one place up to another touches the engine
pub record IsQuiet (engine : List ℕ) (log : List Transaction) (from to : ℕ) : Type 0 where
  pub untouched : (place : ℕ) (it : Transaction) → slice_get log place ≡ Some it → from ≤ place → place < to → part_at engine log place it ≡ []

-- no transaction of the log has this xid
pub record IsNew (xid : ℕ) (log : List Transaction) : Type 0 where
  pub unlike : (place : ℕ) (it : Transaction) → slice_get log place ≡ Some it → it.xid ≢ xid

-- no two places of the log have one xid
pub record IsDistinct (log : List Transaction) : Type 0 where
  pub same_place : (i j : ℕ) (a b : Transaction) → slice_get log i ≡ Some a → slice_get log j ≡ Some b → a.xid ≡ b.xid → i ≡ j

-- the xids of a log, in order
abbrev pub xids_of : List Transaction → List ℕ
xids_of log = map (λ it. it.xid) log

-- no xid stands twice in the list
abbrev pub AreDistinct : List ℕ → Type 0
AreDistinct [] = Unit {0}
AreDistinct (xid ∷ rest) = (Contains rest xid → ⊥) × AreDistinct rest
