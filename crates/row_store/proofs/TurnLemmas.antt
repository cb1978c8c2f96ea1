-- The slot at a place, where another row goes.
use Rattle.std.proofs.Common.{◌≡◌, ℕ, zero, suc, ◌<◌, List, [], ◌∷◌, length, get_or, Option, Some, true, sym, ◌∙◌, ap, refl, arith}
use Rattle.std.specs.Prelude.{insert, remove}
use Rattle.std.proofs.lemmas.List.Edits.{length-remove}
use Rattle.sql_value.specs.declared.value.Value.{Value}
use Rattle.row_store.specs.Slots.{rows_in}
use Rattle.row_store.specs.Rows.{Moves}
use Rattle.row_store.specs.Turns.{Turns}
use Rattle.row_store.proofs.KeyLemmas.{Slots}

-- a slot goes back where it was taken out
goes_back : (order : List ℕ) (i d : ℕ) → i < length order → insert (remove order i) i (get_or order i d) ≡ order
goes_back [] i d within = absurd (omega (arith, within))
goes_back (r ∷ rs) zero d within = refl
goes_back (r ∷ rs) (suc i) d within = ap (λ (l : List ℕ). r ∷ l) (goes_back rs i d (omega (arith, within)))

-- it stays
pub stayed : (key : Option ℕ) (slots : Slots) (i j : ℕ) (row : List Value) (order : List ℕ) → i < length order → j ≡ i → Moves key i row (rows_in slots order) (Some j) → Turns key slots i row order order true
stayed key slots i j row order lt same moves =
    let less = length-remove order i lt in
    (j, omega (arith, less, lt, same), sym (goes_back order i 0 lt) ∙ ap (λ (k : ℕ). insert (remove order i) k (get_or order i 0)) (sym same), moves)
