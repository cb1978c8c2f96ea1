-- The values of a row were all looked at.
use Rattle.std.proofs.Common.{◌≡◌, ◌≤◌, ℕ, List, [], ◌∷◌, length, drop, None, refl, sym, ap, ◌∙◌}
use Rattle.std.proofs.lemmas.List.{drop_all}
use Rattle.row_format.specs.declared.schema.Column.{Column}
use Rattle.sql_text.specs.declared.statement.Literal.{Literal}
use Rattle.sql_plan.specs.Types.{values_refusal}

no_values : (columns : List Column) → values_refusal columns [] ≡ None
no_values [] = refl
no_values (column ∷ columns) = refl

pub past_columns : (columns : List Column) (values : List Literal) (i : ℕ) → length columns ≤ i → values_refusal (drop i columns) (drop i values) ≡ values_refusal columns values
    → None ≡ values_refusal columns values
past_columns columns values i past so_far = ap (λ (l : List Column). values_refusal l (drop i values)) (sym (drop_all i columns past)) ∙ so_far

pub past_values : (columns : List Column) (values : List Literal) (i : ℕ) → length values ≤ i → values_refusal (drop i columns) (drop i values) ≡ values_refusal columns values
    → None ≡ values_refusal columns values
past_values columns values i past so_far = sym (no_values (drop i columns)) ∙ ap (values_refusal (drop i columns)) (sym (drop_all i values past)) ∙ so_far
