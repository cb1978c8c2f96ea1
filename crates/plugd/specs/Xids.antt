-- Which xid a transaction gets. (This project.)
use Rattle.std.specs.Prelude.{◌≡◌, ◌⊎◌, ◌<◌, ◌≤◌, ◌+◌, ◌-◌, ◌^◌, ℕ, max, List, [], ◌∷◌, ◌++◌, map, Contains}
use Rattle.row_format.specs.declared.change.Transaction.{Transaction}

-- the xids of transactions, in order
abbrev pub xids_of : List Transaction → List ℕ
xids_of list = map (λ t. t.xid) list

-- the greatest of some xids, or 0 where there is none
abbrev pub greatest : List ℕ → ℕ
greatest [] = 0
greatest (xid ∷ used) = max xid (greatest used)

-- the last xid
abbrev pub last_xid : ℕ
last_xid = 2 ^ 64 - 1

-- the least number from 1 that was not used
pub record IsLeastUnused (used : List ℕ) (xid : ℕ) : Type 0 where
  pub from_one : 1 ≤ xid
  pub unused : Contains used xid → ⊥
  pub least : (y : ℕ) → 1 ≤ y → y < xid → Contains used y

-- the xid that comes after these: the greatest plus 1, or, once the last one was used, the least that was not
abbrev pub IsNextXid : List ℕ → ℕ → Type 0
IsNextXid used xid = ((greatest used < last_xid) × (xid ≡ greatest used + 1)) ⊎ ((last_xid ≤ greatest used) × IsLeastUnused used xid)

-- each of the xids came after those used before it
abbrev pub AreGiven : List ℕ → List ℕ → Type 0
AreGiven used [] = Unit {0}
AreGiven used (xid ∷ given) = IsNextXid used xid × AreGiven (used ++ xid ∷ []) given

-- no xid stands twice
abbrev pub AreDistinct : List ℕ → Type 0
AreDistinct [] = Unit {0}
AreDistinct (xid ∷ used) = (Contains used xid → ⊥) × AreDistinct used
