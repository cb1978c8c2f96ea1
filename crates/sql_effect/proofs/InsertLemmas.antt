-- The rows of an INSERT, one row more, and that their changes fit.
use Rattle.std.proofs.Common.{◌≡◌, ◌<◌, ◌+◌, ◌++◌, ℕ, suc, List, [], ◌∷◌, length, take, drop, All, Option, None, Bool, ap, sym, ◌∙◌, add-one, get_or, drop-cons, append_assoc, arith}
use Rattle.std.proofs.Math.Seq.{take-suc}
use Rattle.std.proofs.lemmas.List.Elements.{All-tail}
use Rattle.sql_value.specs.declared.refusal.Refusal.{Refusal}
use Rattle.sql_value.specs.declared.value.Value.{Value}
use Rattle.row_format.specs.declared.change.TableMap.{TableMap}
use Rattle.row_format.specs.declared.schema.Schema.{Schema}
use Rattle.row_format.specs.Changes.{IsMap, AreFitChanges}
use Rattle.row_format.specs.Rows.{IsRow, first_of_two}
use Rattle.sql_effect.specs.Insert.{insert_refusal, inserts_refusal, inserts}
use Rattle.sql_effect.specs.Sizes.{row_bytes}

-- the rows behind one more
rows_more : (there rows : List (List Value)) (i : ℕ) (row : List Value) → i < length rows → row ≡ get_or rows i row
    → (there ++ take i rows) ++ row ∷ [] ≡ there ++ take (i + 1) rows
rows_more there rows i row within at =
    append_assoc there (take i rows) (row ∷ [])
    ∙ ap (λ (it : List Value). there ++ (take i rows ++ it ∷ [])) at
    ∙ ap (λ (xs : List (List Value)). there ++ xs) (sym (take-suc rows i row within))
    ∙ ap (λ (n : ℕ). there ++ take n rows) (sym (add-one i))

-- one row is looked at
pub row_looked_at : (keeps : Bool) (schema : Schema) (live : ℕ) (there rows : List (List Value)) (i : ℕ) (row : List Value) → i < length rows → row ≡ get_or rows i row
    → inserts_refusal keeps schema live (there ++ take i rows) (drop i rows)
    ≡ first_of_two (insert_refusal keeps schema live (there ++ take i rows) row) (inserts_refusal keeps schema (live + row_bytes row) (there ++ take (i + 1) rows) (drop (i + 1) rows))
row_looked_at keeps schema live there rows i row within at =
    ap (inserts_refusal keeps schema live (there ++ take i rows)) (drop-cons rows i row within)
    ∙ ap (λ (it : List Value). inserts_refusal keeps schema live (there ++ take i rows) (it ∷ drop (suc i) rows)) (sym at)
    ∙ ap (λ (xs : List (List Value)). first_of_two (insert_refusal keeps schema live (there ++ take i rows) row) (inserts_refusal keeps schema (live + row_bytes row) xs (drop (suc i) rows)))
    (rows_more there rows i row within at)
    ∙ ap (λ (n : ℕ). first_of_two (insert_refusal keeps schema live (there ++ take i rows) row) (inserts_refusal keeps schema (live + row_bytes row) (there ++ take (i + 1) rows) (drop n rows)))
    (sym (add-one i))

-- one row is not refused
pub row_passed : (keeps : Bool) (schema : Schema) (live : ℕ) (there rows : List (List Value)) (i : ℕ) (row : List Value) → i < length rows → row ≡ get_or rows i row
    → insert_refusal keeps schema live (there ++ take i rows) row ≡ None
    → inserts_refusal keeps schema (live + row_bytes row) (there ++ take (i + 1) rows) (drop (i + 1) rows) ≡ inserts_refusal keeps schema live (there ++ take i rows) (drop i rows)
row_passed keeps schema live there rows i row within at none =
    sym (row_looked_at keeps schema live there rows i row within at
    ∙ ap (λ (it : Option Refusal). first_of_two it (inserts_refusal keeps schema (live + row_bytes row) (there ++ take (i + 1) rows) (drop (i + 1) rows))) none)

-- the changes of rows that go into the table fit
pub fit_inserts : (map : TableMap) (rows : List (List Value)) → IsMap map → All (IsRow map.schema) rows → AreFitChanges (inserts map rows)
fit_inserts map [] is all = tt
fit_inserts map (row ∷ rows) is all = ((is, all 0 row (omega arith)), fit_inserts map rows is (All-tail (IsRow map.schema) row rows all))
