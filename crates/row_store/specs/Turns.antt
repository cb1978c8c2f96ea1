-- The order of the slots, where the row in one of them gives way to another. (This project.)
use Rattle.std.specs.Prelude.{◌≡◌, ◌≤◌, ℕ, List, length, Option, Some, None, Bool, true, false, insert, remove, get_or}
use Rattle.sql_value.specs.declared.value.Value.{Value}
use Rattle.row_store.specs.Slots.{rows_in}
use Rattle.row_store.specs.Rows.{Moves}

-- the slot at a place stands where the new row goes; or all is as it was, and another row has its key
abbrev pub Turns : Option ℕ → List (Option (List Value)) → ℕ → List Value → List ℕ → List ℕ → Bool → Type 0
Turns key slots i row old new true = (j : ℕ) × (j ≤ length (remove old i)) × (new ≡ insert (remove old i) j (get_or old i 0)) × Moves key i row (rows_in slots old) (Some j)
Turns key slots i row old new false = (new ≡ old) × Moves key i row (rows_in slots old) None
