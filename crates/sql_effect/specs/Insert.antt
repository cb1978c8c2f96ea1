-- Which rows an INSERT adds, and why it adds none. (MySQL 5.7 Reference Manual, "INSERT Statement", of which this is here.)
use Rattle.std.specs.Prelude.{ℕ, ◌+◌, List, [], ◌∷◌, ◌++◌, Option, None, Bool, cond, not, map}
use Rattle.sql_value.specs.declared.refusal.Refusal.{Refusal}
use Rattle.sql_value.specs.declared.refusal.Refusal.TheVariants.{DuplicateEntry}
use Rattle.sql_value.specs.declared.value.Value.{Value}
use Rattle.row_format.specs.declared.change.Change.{Change}
use Rattle.row_format.specs.declared.change.Change.TheVariants as change
use Rattle.row_format.specs.declared.change.TableMap.{TableMap}
use Rattle.row_format.specs.declared.schema.Schema.{Schema}
use Rattle.row_format.specs.Rows.{row_refusal, first_of_two}
use Rattle.engine_api.specs.Live.{is_key_taken}
use Rattle.sql_text.specs.declared.statement.Literals.{Literals}
use Rattle.sql_plan.specs.Plans.{unless}
use Rattle.sql_effect.specs.Sizes.{row_bytes, room_refusal}
use Rattle.sql_effect.specs.Values.{literal_value}

-- the rows that are written out
abbrev pub written : List Literals → List (List Value)
written rows = map (λ (it : Literals). map literal_value it.values) rows

-- Why a row may not come to these rows of a table, whose engine then has so many live bytes: its key is there, or there is no room.
abbrev pub place_refusal : Option ℕ → List (List Value) → List Value → ℕ → Option Refusal
place_refusal key rows row live = first_of_two (unless (not (is_key_taken key rows row)) DuplicateEntry) (room_refusal live)

-- why a row is not inserted; an engine that keeps no rows has a place for each that its schema takes
abbrev pub insert_refusal : Bool → Schema → ℕ → List (List Value) → List Value → Option Refusal
insert_refusal keeps schema live rows row = first_of_two (row_refusal schema row) (cond keeps (place_refusal schema.key rows row (live + row_bytes row)) None)

-- Why rows are not inserted: the first of them that is refused, where those before it were added to the rows that are there.
abbrev pub inserts_refusal : Bool → Schema → ℕ → List (List Value) → List (List Value) → Option Refusal
inserts_refusal keeps schema live rows [] = None
inserts_refusal keeps schema live rows (it ∷ rest) =
    first_of_two (insert_refusal keeps schema live rows it) (inserts_refusal keeps schema (live + row_bytes it) (rows ++ it ∷ []) rest)

-- the change for each row
abbrev pub inserts : TableMap → List (List Value) → List Change
inserts map_of rows = map (change.Insert map_of) rows
