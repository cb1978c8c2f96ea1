-- The change of a row fits, where the row does.
use Rattle.std.proofs.Common.{◌<◌, ◌^◌, ◌++◌, ℕ, List, [], ◌∷◌, length, Option, Some, None, refl}
use Rattle.sql_value.specs.declared.value.Value.{Value}
use Rattle.row_format.specs.declared.change.Change.{Change}
use Rattle.row_format.specs.declared.change.TableMap.{TableMap}
use Rattle.row_format.specs.Changes.{IsMap, IsPlace, AreFitChanges}
use Rattle.row_format.specs.Rows.{IsRow}
use Rattle.sql_effect.specs.declared.rewrite.Made.{Made}
use Rattle.sql_effect.specs.declared.rewrite.Made.TheVariants.{Stays, Becomes, Goes}
use Rattle.sql_effect.specs.Rewrite.{place_told, made_changes, IsMadeFit}

pub fit_more : (xs ys : List Change) → AreFitChanges xs → AreFitChanges ys → AreFitChanges (xs ++ ys)
fit_more [] ys first others = others
fit_more (x ∷ xs) ys first others = (first.0, fit_more xs ys first.1 others)

pub place_fits : (key : Option ℕ) (done : List (List Value)) → length done < 2 ^ 32 → IsPlace key (place_told key done)
place_fits None done few = few
place_fits (Some column) done few = refl

pub fit_made : (map : TableMap) (place : ℕ) (row : List Value) (made : Made) → IsMap map → IsPlace map.schema.key place → IsRow map.schema row → IsMadeFit map.schema made
    → AreFitChanges (made_changes map place row made)
fit_made map place row Stays mapped placed suits fit = tt
fit_made map place row (Becomes after) mapped placed suits fit = ((record { mapped = mapped; placed = placed; suits = suits }, fit), tt)
fit_made map place row Goes mapped placed suits fit = (record { mapped = mapped; placed = placed; suits = suits }, tt)
