-- The xids of a log with their numbers, and sets of xids. (This project.)
use Rattle.std.specs.Prelude.{◌≡◌, ◌↔◌, ℕ, suc, List, Some, length, map, slice_get, Contains, ◌==◌, Bool}
use Rattle.std.specs.List.{list_any}
use Rattle.std.specs.List.Sorted.{IsStrictlySortedBy}
use Rattle.std.specs.Ordering.{nat_cmp}
use Rattle.row_format.specs.declared.change.Transaction.{Transaction}

-- the pairs are the log's: each transaction's xid with its number, in order
pub record ArePairsOf (log : List Transaction) (pairs : List (ℕ × ℕ)) : Type 0 where
  pub as_many : length pairs ≡ length log
  pub pair : (place : ℕ) (it : Transaction) → slice_get log place ≡ Some it → slice_get pairs place ≡ Some (it.xid, suc place)

-- the xids of pairs, in order
abbrev pub xids_in : List (ℕ × ℕ) → List ℕ
xids_in pairs = map (λ pair. pair.0) pairs

-- one of the xids is this one
abbrev pub has : ℕ → List ℕ → Bool
has xid xids = list_any (λ it. it == xid) xids

-- so many xids have P: a list of them rises strictly and has each
pub record CountsXids (count : ℕ) (P : ℕ → Type 0) : Type 0 where
  pub xids : List ℕ
  pub rising : IsStrictlySortedBy nat_cmp xids
  pub each : (xid : ℕ) → Contains xids xid ↔ P xid
  pub count_is : count ≡ length xids
