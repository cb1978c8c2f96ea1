-- What comparing two values tells.
use Rattle.std.specs.Prelude.{Option, Some, None, Bool, true, false}
use Rattle.std.specs.declared.cmp.Ordering.{Ordering}
use Rattle.sql_value.specs.declared.value.Value.{Value}
use Rattle.sql_value.specs.declared.value.Value.TheVariants.{Null, Int, Text}
use Rattle.sql_value.specs.Values.{value_cmp}

-- how the two are ordered, and nothing where one of them is Null
-- (MySQL 5.7 Reference Manual, "Working with NULL Values"; that texts compare byte by byte is this project's)
abbrev pub compare : Value → Value → Option Ordering
compare Null _ = None
compare (Int a) Null = None
compare (Text s) Null = None
compare a b = Some (value_cmp a b)

-- one is Null, or both are of one type (this project)
abbrev pub are_comparable : Value → Value → Bool
are_comparable (Int a) (Text t) = false
are_comparable (Text s) (Int b) = false
are_comparable _ _ = true
