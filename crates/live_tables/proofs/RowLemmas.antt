-- Sums over the rows of a table with one row more.
use Rattle.std.proofs.Common.{◌≡◌, ℕ, ◌+◌, List, [], ◌∷◌, length, Option, Some, None, refl, ap, ◌∙◌, sum_by, arith}
use Rattle.std.proofs.lemmas.List.Sums.{sum_by_push, sum_by-insert, sum_by-cons}
use Rattle.sql_value.specs.declared.value.Value.{Value}
use Rattle.log_tables.specs.Keys.{place_above}
use Rattle.log_tables.proofs.PlainLemmas.{in_key_order-insert}
use Rattle.live_tables.proofs.NameLemmas.{placed}

pub sum_by-placed : (f : List Value → ℕ) (key : Option ℕ) (row : List Value) (rows : List (List Value)) → sum_by f (placed key row rows) ≡ sum_by f rows + f row
sum_by-placed f None row rows = sum_by_push f rows row
sum_by-placed f (Some column) row rows =
    ap (sum_by f) (in_key_order-insert column row rows) ∙ sum_by-insert f rows (place_above column row rows) row

-- each row counts one
abbrev pub one : List Value → ℕ
one row = 1

-- The number of rows is a sum.
pub length_sum : (rows : List (List Value)) → length rows ≡ sum_by one rows
length_sum [] = refl
length_sum (r ∷ rs) = let all = sum_by-cons one r rs in let rest = length_sum rs in omega (arith, all, rest)
