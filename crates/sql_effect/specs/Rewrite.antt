-- What an UPDATE or a DELETE makes of the rows of a table. (MySQL 5.7 Reference Manual, "UPDATE Statement" and "DELETE Statement", of
-- which this is here.)
use Rattle.std.specs.Prelude.{ℕ, ◌+◌, ◌-◌, List, [], ◌∷◌, ◌++◌, length, set, Option, Some, None, cond, option_and_then, Result, Ok, Err}
use Rattle.std.specs.List.{position}
use Rattle.sql_value.specs.declared.refusal.Refusal.{Refusal}
use Rattle.sql_value.specs.declared.refusal.Refusal.TheVariants.{OutOfRange}
use Rattle.sql_value.specs.declared.truth.Truth.{Truth}
use Rattle.sql_value.specs.declared.truth.Truth.TheVariants.{Yes, No, Unknown}
use Rattle.sql_value.specs.declared.value.Value.{Value}
use Rattle.row_format.specs.declared.change.Change.{Change}
use Rattle.row_format.specs.declared.change.Change.TheVariants.{Update, Delete}
use Rattle.row_format.specs.declared.change.TableMap.{TableMap}
use Rattle.row_format.specs.declared.schema.Column.{Column}
use Rattle.row_format.specs.declared.schema.Schema.{Schema}
use Rattle.row_format.specs.Rows.{row_refusal, same_row, IsRow}
use Rattle.row_format.specs.Schemas.{is_called}
use Rattle.sql_text.specs.declared.statement.Assign.{Assign}
use Rattle.sql_text.specs.declared.statement.Cond.{Cond}
use Rattle.sql_text.specs.declared.statement.Statement.{Statement}
use Rattle.sql_text.specs.declared.statement.Statement.TheVariants as statement
use Rattle.sql_effect.specs.declared.rewrite.Made.{Made}
use Rattle.sql_effect.specs.declared.rewrite.Made.TheVariants.{Stays, Becomes, Goes}
use Rattle.sql_effect.specs.declared.rewrite.Progress.{Progress}
use Rattle.sql_effect.specs.Conditions.{cond_truth}
use Rattle.sql_effect.specs.Insert.{place_refusal}
use Rattle.sql_effect.specs.Sizes.{row_bytes}
use Rattle.sql_effect.specs.Values.{sum_value}

infixl 10 ◌>>=◌
-- what comes next, unless the statement is refused
abbrev pub ◌>>=◌ : {A B : Type 0} → Result A Refusal → (A → Result B Refusal) → Result B Refusal
(Ok x) >>= f = f x
(Err e) >>= f = Err e

-- the refusal, where there is one, or else the answer
abbrev pub refused_or : {A : Type 0} → Option Refusal → Result A Refusal → Result A Refusal
refused_or None answer = answer
refused_or (Some refusal) answer = Err refusal

-- what there is; where there is none, a sum was outside BIGINT
abbrev pub in_range : {A : Type 0} → Option A → Result A Refusal
in_range None = Err OutOfRange
in_range (Some it) = Ok it

-- the row with a value at this place
abbrev pub with_value : Option ℕ → Value → List Value → List Value
with_value None value row = row
with_value (Some place) value row = set row place value

-- The row with its assignments made from the left; each sees those before it. None where a sum goes outside BIGINT.
abbrev pub assigned : List Column → List Assign → List Value → Option (List Value)
assigned columns [] row = Some row
assigned columns (it ∷ rest) row =
    option_and_then (λ (value : Value). assigned columns rest (with_value (position (is_called it.column) columns) value row)) (sum_value columns row it.sum)

-- a row that stays equal is no change
abbrev pub made_between : List Value → List Value → Made
made_between before after = cond (same_row before after) Stays (Becomes after)

-- what the assignments make of a row
abbrev pub set_made : Schema → List Assign → List Value → Result Made Refusal
set_made schema sets row = do
  after ← in_range (assigned schema.columns sets row)
  refused_or (row_refusal schema after) (Ok (made_between row after))

-- a row that the condition does not choose stays
abbrev pub where_yes : Truth → Result Made Refusal → Result Made Refusal
where_yes Yes made = made
where_yes No made = Ok Stays
where_yes Unknown made = Ok Stays

-- what is made of a row, where the condition chooses it
abbrev pub chosen_made : Schema → Option Cond → List Value → Result Made Refusal → Result Made Refusal
chosen_made schema where_is row made = in_range (cond_truth schema.columns where_is row) >>= λ (truth : Truth). where_yes truth made

-- What an UPDATE or a DELETE makes of a row.
abbrev pub made_of : Schema → Statement → List Value → Result Made Refusal
made_of schema (statement.Update table sets where_is) row = chosen_made schema where_is row (set_made schema sets row)
made_of schema (statement.Delete table where_is) row = chosen_made schema where_is row (Ok Goes)
made_of schema _ row = Ok Stays

-- the live bytes of an engine where a row becomes another
abbrev pub live_after : ℕ → List Value → Made → ℕ
live_after live row Stays = live
live_after live row (Becomes after) = live + row_bytes after - row_bytes row
live_after live row Goes = live - row_bytes row

-- why a row may not become another: one of the others has its key, or there is no room
abbrev pub made_refusal : Option ℕ → List (List Value) → ℕ → Made → Option Refusal
made_refusal key others live (Becomes after) = place_refusal key others after live
made_refusal key others live _ = None

-- the rows behind a row
abbrev pub rows_behind : List (List Value) → List Value → Made → List (List Value)
rows_behind done row Stays = done ++ row ∷ []
rows_behind done row (Becomes after) = done ++ after ∷ []
rows_behind done row Goes = done

-- the place that a change tells: 0 in a table with a key, else how many rows stand before the row
abbrev pub place_told : Option ℕ → List (List Value) → ℕ
place_told None done = length done
place_told (Some column) done = 0

-- the change of a row, where it is one
abbrev pub made_changes : TableMap → ℕ → List Value → Made → List Change
made_changes map place row Stays = []
made_changes map place row (Becomes after) = Update map place row after ∷ []
made_changes map place row Goes = Delete map place row ∷ []

-- The changes that a statement makes, one row after the other. The rows that are done stand before the others, as they are then.
abbrev pub changes_from : TableMap → Statement → ℕ → List (List Value) → List (List Value) → Result (List Change) Refusal
changes_from map asks live done [] = Ok []
changes_from map asks live done (row ∷ rest) = do
  made ← made_of map.schema asks row
  granted ← refused_or (made_refusal map.schema.key (done ++ rest) (live_after live row made) made) (Ok made)
  others ← changes_from map asks (live_after live row granted) (rows_behind done row granted) rest
  Ok (made_changes map (place_told map.schema.key done) row granted ++ others)

-- changes before others, unless the statement is refused
abbrev pub prepended : List Change → Result (List Change) Refusal → Result (List Change) Refusal
prepended first (Ok others) = Ok (first ++ others)
prepended first (Err refusal) = Err refusal

-- What a statement comes to that has come so far, with these rows still to do.
abbrev pub comes_to : TableMap → Statement → Progress → List (List Value) → Result (List Change) Refusal
comes_to map asks progress rows = prepended progress.changes.items (changes_from map asks progress.live progress.done.items rows)

-- a row becomes one that goes into the table
abbrev pub IsMadeFit : Schema → Made → Type 0
IsMadeFit schema Stays = Unit {0}
IsMadeFit schema (Becomes after) = IsRow schema after
IsMadeFit schema Goes = Unit {0}
