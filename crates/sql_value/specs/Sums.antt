-- Which whole numbers are values.
use Rattle.std.specs.Prelude.{ℤ, ◌^◌, ◌<◌, pos, negsuc}

-- from -2^63 to 2^63 - 1
-- (MySQL 5.7 Reference Manual, "Integer Types (Exact Value) - INTEGER, INT, SMALLINT, TINYINT, MEDIUMINT, BIGINT")
abbrev pub IsBigInt : ℤ → Type 0
IsBigInt (pos n) = n < 2 ^ 63
IsBigInt (negsuc n) = n < 2 ^ 63
