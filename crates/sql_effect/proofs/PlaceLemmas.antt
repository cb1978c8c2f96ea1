-- A key among two lists of rows.
use Rattle.std.proofs.Common.{◌≡◌, ◌++◌, ℕ, List, Option, Some, None, refl, ap, ◌∙◌, is_some}
use Rattle.std.specs.Prelude.{◌||◌}
use Rattle.std.specs.Option.{option_or}
use Rattle.std.proofs.lemmas.List.Folds.{find-append}
use Rattle.sql_value.specs.declared.value.Value.{Value}
use Rattle.log_tables.specs.Keys.{key_in, has_key, row_with}
use Rattle.engine_api.specs.Live.{is_key_taken}

either_some : {A : Type 0} (a b : Option A) → is_some (option_or a b) ≡ (is_some a || is_some b)
either_some None b = refl
either_some (Some x) b = refl

pub taken-append : (key : Option ℕ) (xs ys : List (List Value)) (row : List Value)
    → is_key_taken key (xs ++ ys) row ≡ (is_key_taken key xs row || is_key_taken key ys row)
taken-append None xs ys row = refl
taken-append (Some column) xs ys row =
    ap is_some (find-append (has_key column (key_in column row)) xs ys)
    ∙ either_some (row_with column (key_in column row) xs) (row_with column (key_in column row) ys)
