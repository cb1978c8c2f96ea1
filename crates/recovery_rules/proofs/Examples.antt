-- A log by hand with tables of two engines, and one engine of them that is brought to it, step by step. All of it computes.
use Rattle.std.proofs.Common.{◌≡◌, ℕ, List, [], ◌∷◌, Some, false, refl}
use Rattle.std.specs.Prelude.{codes, pos}
use Rattle.sql_value.specs.declared.value.Value.{Value}
use Rattle.sql_value.specs.declared.value.Value.TheVariants.{Int, Text}
use Rattle.row_format.specs.declared.schema.Kind.TheVariants.{BigInt, VarChar}
use Rattle.row_format.specs.declared.schema.Schema.{Schema}
use Rattle.row_format.specs.declared.change.Change.TheVariants.{Create, Insert}
use Rattle.row_format.specs.declared.change.TableMap.{TableMap}
use Rattle.row_format.specs.declared.change.Transaction.{Transaction}
use Rattle.log_tables.specs.declared.gist.Gist.{Gist}
use Rattle.log_tables.specs.Tables.{part_of}
use Rattle.log_tables.specs.Changes.{tables_after}
use Rattle.log_tables.specs.Gists.{after_commit, after_rollback}
use Rattle.recovery_rules.specs.Places.{part_at, share_at, xids_of}

schema : Schema
schema = record { columns = record { name = codes "id"; kind = BigInt; nullable = false } ∷ record { name = codes "v"; kind = VarChar 9; nullable = false } ∷ []; key = Some 0 }

map_of : List ℕ → TableMap
map_of table = record { table = table; schema = schema }

row : ℕ → List ℕ → List Value
row n v = Int (pos n) ∷ Text v ∷ []

-- a table of each engine, and a transaction on both; then one on the second engine's alone
tables_made : Transaction
tables_made = record { xid = 4; changes = Create (codes "t") (codes "JOURNAL") schema ∷ Create (codes "u") (codes "PAGES") schema ∷ [] }

both_filled : Transaction
both_filled = record { xid = 9; changes = Insert (map_of (codes "t")) (row 5 (codes "e")) ∷ Insert (map_of (codes "u")) (row 5 (codes "x")) ∷ Insert (map_of (codes "t")) (row 2 (codes "b")) ∷ [] }

second_filled : Transaction
second_filled = record { xid = 6; changes = Insert (map_of (codes "u")) (row 1 (codes "y")) ∷ [] }

log : List Transaction
log = tables_made ∷ both_filled ∷ second_filled ∷ []

-- JOURNAL after a crash: it has committed the first, and has prepared its share of the second, and something that was not logged
crashed : Gist
crashed = record {
  tables = record { definition = record { table = codes "t"; engine = codes "JOURNAL"; schema = schema }; rows = [] } ∷ [];
  prepared = record { xid = 9; changes = Insert (map_of (codes "t")) (row 5 (codes "e")) ∷ Insert (map_of (codes "t")) (row 2 (codes "b")) ∷ [] } ∷ record { xid = 7; changes = Insert (map_of (codes "t")) (row 3 (codes "c")) ∷ [] } ∷ [];
  last = 1;
}

-- the share of the second transaction is what is prepared under its xid
share : share_at (codes "JOURNAL") log 1 both_filled ≡ record { xid = 9; changes = Insert (map_of (codes "t")) (row 5 (codes "e")) ∷ Insert (map_of (codes "t")) (row 2 (codes "b")) ∷ [] }
unfolding log tables_made both_filled second_filled row map_of schema
share = refl

-- the third does not touch JOURNAL
quiet : part_at (codes "JOURNAL") log 2 second_filled ≡ []
unfolding log tables_made both_filled second_filled row map_of schema
quiet = refl

-- it trails the log: its tables are its part of those after its last number
behind : crashed.tables ≡ part_of (codes "JOURNAL") (tables_after (tables_made ∷ []))
unfolding crashed tables_made row map_of schema
behind = refl

-- a commit of that share as number 2, and a rollback of the other, bring it to the log: its part of the tables, and nothing prepared
recovered : after_rollback 7 (after_commit (share_at (codes "JOURNAL") log 1 both_filled) 2 crashed) ≡ record { tables = part_of (codes "JOURNAL") (tables_after log); prepared = []; last = 2 }
unfolding crashed log tables_made both_filled second_filled row map_of schema
recovered = refl

rows : (part_of (codes "JOURNAL") (tables_after log)) ≡ record { definition = record { table = codes "t"; engine = codes "JOURNAL"; schema = schema }; rows = row 2 (codes "b") ∷ row 5 (codes "e") ∷ [] } ∷ []
unfolding log tables_made both_filled second_filled row map_of schema
rows = refl

xids : xids_of log ≡ 4 ∷ 9 ∷ 6 ∷ []
unfolding log tables_made both_filled second_filled
xids = refl
