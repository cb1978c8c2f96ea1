-- What is selected of rows, one row more.
use Rattle.std.proofs.Common.{◌≡◌, ◌<◌, ◌+◌, ◌++◌, ℕ, List, [], ◌∷◌, length, take, Option, ap, sym, ◌∙◌, add-one, get_or}
use Rattle.std.specs.Prelude.{map}
use Rattle.std.proofs.Math.Seq.{take-suc}
use Rattle.std.proofs.lemmas.List.{map-append}
use Rattle.std.proofs.lemmas.List.Elements.{filter-append}
use Rattle.sql_value.specs.declared.value.Value.{Value}
use Rattle.row_format.specs.declared.schema.Column.{Column}
use Rattle.sql_text.specs.declared.statement.Cond.{Cond}
use Rattle.sql_effect.specs.Select.{is_chosen, picked, chosen, selected}

selected-append : (c : List Column) (names : Option (List (List ℕ))) (w : Option Cond) (xs ys : List (List Value))
    → selected c names w (xs ++ ys) ≡ selected c names w xs ++ selected c names w ys
selected-append c names w xs ys =
    ap (map (picked c names)) (filter-append (is_chosen c w) xs ys) ∙ map-append (picked c names) (chosen c w xs) (chosen c w ys)

pub selected_more : (c : List Column) (names : Option (List (List ℕ))) (w : Option Cond) (rows : List (List Value)) (i : ℕ) (row : List Value)
    → i < length rows → row ≡ get_or rows i row → selected c names w (take (i + 1) rows) ≡ selected c names w (take i rows) ++ selected c names w (row ∷ [])
selected_more c names w rows i row within at =
    ap (λ (n : ℕ). selected c names w (take n rows)) (add-one i)
    ∙ ap (selected c names w) (take-suc rows i row within)
    ∙ selected-append c names w (take i rows) (get_or rows i row ∷ [])
    ∙ ap (λ (it : List Value). selected c names w (take i rows) ++ selected c names w (it ∷ [])) (sym at)
