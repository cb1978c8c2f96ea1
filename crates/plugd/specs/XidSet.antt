-- What a set of xids holds, and which xids it knows.
use Rattle.std.specs.Prelude.{◌≡◌, ◌⊎◌, ◌≤◌, ◌<◌, ◌+◌, ℕ, List, Contains}
use Rattle.plugd.specs.Xids.{greatest}
use Rattle.plugd.specs.declared.xids.XidRange.{XidRange}
use Rattle.plugd.specs.declared.xids.XidSet.{XidSet}

-- the range holds the number
abbrev pub IsIn : XidRange → ℕ → Type 0
IsIn range xid = (range.first ≤ xid) × (xid ≤ range.last)

-- one of the ranges holds the number
abbrev pub IsInOne : List XidRange → ℕ → Type 0
IsInOne ranges xid = (range : XidRange) × (Contains ranges range × IsIn range xid)

-- the set holds the number
abbrev pub HasXid : XidSet → ℕ → Type 0
HasXid set xid = IsInOne set.past.items xid ⊎ IsIn set.current xid

-- the set holds each number from the first to the last
abbrev pub HasUpTo : XidSet → ℕ → ℕ → Type 0
HasUpTo set first last = (xid : ℕ) → first ≤ xid → xid ≤ last → HasXid set xid

-- the least number from 1 that the set does not hold
pub record IsLeastFree (set : XidSet) (xid : ℕ) : Type 0 where
  pub from_one : 1 ≤ xid
  pub free : HasXid set xid → ⊥
  pub least : (y : ℕ) → 1 ≤ y → y < xid → HasXid set y

-- the set holds just these xids, and has the greatest of them
pub record Knows (set : XidSet) (used : List ℕ) : Type 0 where
  pub holds_only : (xid : ℕ) → HasXid set xid → Contains used xid
  pub holds_all : (xid : ℕ) → Contains used xid → HasXid set xid
  pub greatest_is : set.greatest ≡ greatest used
  pub current_in_order : set.current.first ≤ set.current.last + 1
