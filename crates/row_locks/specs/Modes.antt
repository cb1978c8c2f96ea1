-- Which locks conflict, and which one lock covers.
use Rattle.std.specs.Prelude.{Bool, true, false, not, ◌&&◌, ◌==◌}
use Rattle.std.specs.Str.{bytes_eq}
use Rattle.sql_value.specs.Values.{same_value}
use Rattle.row_locks.specs.declared.lock.Mode.{Mode}
use Rattle.row_locks.specs.declared.lock.Mode.TheVariants.{IS, IX, S, X}
use Rattle.row_locks.specs.declared.lock.LockName.{LockName}
use Rattle.row_locks.specs.declared.lock.LockName.TheVariants.{Plugins, Table, Key}
use Rattle.row_locks.specs.declared.lock.Request.{Request}

-- two owners may not have these on one name at once
-- (MySQL 5.7 Reference Manual, "InnoDB Locking", table-level lock type compatibility)
abbrev pub modes_conflict : Mode → Mode → Bool
modes_conflict IS X = true
modes_conflict IX S = true
modes_conflict IX X = true
modes_conflict S IX = true
modes_conflict S X = true
modes_conflict X _ = true
modes_conflict _ _ = false

-- who has the first has the second too: X covers all, S and IX cover IS, and each covers itself (this project)
abbrev pub mode_covers : Mode → Mode → Bool
mode_covers IS IS = true
mode_covers IX IS = true
mode_covers IX IX = true
mode_covers S IS = true
mode_covers S S = true
mode_covers X _ = true
mode_covers _ _ = false

-- the two name the same thing
abbrev pub same_name : LockName → LockName → Bool
same_name Plugins Plugins = true
same_name (Table a) (Table b) = bytes_eq a b
same_name (Key a v) (Key b w) = bytes_eq a b && same_value v w
same_name _ _ = false

-- requests of two owners on one name, in modes that conflict
unfoldable pub are_in_conflict : Request → Request → Bool
are_in_conflict a b = not (a.owner == b.owner) && same_name a.lock.name b.lock.name && modes_conflict a.lock.mode b.lock.mode

-- the first is of the same owner and on the same name, and its mode covers that of the second
unfoldable pub request_covers : Request → Request → Bool
request_covers a b = (a.owner == b.owner) && same_name a.lock.name b.lock.name && mode_covers a.lock.mode b.lock.mode
