-- The order of values, and when two are the same. (This project.)
use Rattle.std.specs.Prelude.{Bool, true, false}
use Rattle.std.specs.declared.cmp.Ordering.{Ordering}
use Rattle.std.specs.declared.cmp.Ordering.TheVariants.{Less, Equal, Greater}
use Rattle.std.specs.Ordering.{int_cmp, int_eq, nat_cmp}
use Rattle.std.specs.Str.{bytes_eq}
use Rattle.std.specs.Cmp.Lexicographic.{slice_cmp}
use Rattle.sql_value.specs.declared.value.Value.{Value}
use Rattle.sql_value.specs.declared.value.Value.TheVariants.{Null, Int, Text}

-- Null, then numbers, then texts byte by byte: an order of all values, though a comparison asks for two of one type
abbrev pub value_cmp : Value → Value → Ordering
value_cmp Null Null = Equal
value_cmp Null _ = Less
value_cmp (Int a) Null = Greater
value_cmp (Int a) (Int b) = int_cmp a b
value_cmp (Int a) (Text t) = Less
value_cmp (Text s) (Text t) = slice_cmp nat_cmp s t
value_cmp (Text s) _ = Greater

-- the two are the same value, Null and Null too
abbrev pub same_value : Value → Value → Bool
same_value Null Null = true
same_value (Int a) (Int b) = int_eq a b
same_value (Text s) (Text t) = bytes_eq s t
same_value _ _ = false
