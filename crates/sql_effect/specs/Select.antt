-- Which rows a condition chooses, and what a SELECT answers. (MySQL 5.7 Reference Manual, "SELECT Statement", of which this is here.)
use Rattle.std.specs.Prelude.{ℕ, List, Option, Some, None, Bool, true, false, map, filter, is_some}
use Rattle.std.specs.List.{list_all}
use Rattle.sql_value.specs.declared.refusal.Refusal.{Refusal}
use Rattle.sql_value.specs.declared.refusal.Refusal.TheVariants.{OutOfRange}
use Rattle.sql_value.specs.declared.truth.Truth.{Truth}
use Rattle.sql_value.specs.declared.truth.Truth.TheVariants.{Yes, No, Unknown}
use Rattle.sql_value.specs.declared.value.Value.{Value}
use Rattle.row_format.specs.declared.schema.Column.{Column}
use Rattle.sql_text.specs.declared.statement.Cond.{Cond}
use Rattle.sql_plan.specs.Plans.{unless}
use Rattle.sql_effect.specs.Conditions.{cond_truth}
use Rattle.sql_effect.specs.Values.{value_named}

-- it is known, and Yes
abbrev pub is_yes : Option Truth → Bool
is_yes (Some Yes) = true
is_yes (Some No) = false
is_yes (Some Unknown) = false
is_yes None = false

-- the condition chooses the row: where it is Yes, and not where it is No or Unknown
abbrev pub is_chosen : List Column → Option Cond → List Value → Bool
is_chosen columns where_is row = is_yes (cond_truth columns where_is row)

-- the rows that the condition chooses, in order
abbrev pub chosen : List Column → Option Cond → List (List Value) → List (List Value)
chosen columns where_is rows = filter (is_chosen columns where_is) rows

-- on this row each sum of the condition is a BIGINT
abbrev pub is_decided : List Column → Option Cond → List Value → Bool
is_decided columns where_is row = is_some (cond_truth columns where_is row)

-- why rows cannot be searched: a sum of the condition goes outside BIGINT on one of them
abbrev pub search_refusal : List Column → Option Cond → List (List Value) → Option Refusal
search_refusal columns where_is rows = unless (list_all (is_decided columns where_is) rows) OutOfRange

-- the columns of a row that are named, or all of it
abbrev pub picked : List Column → Option (List (List ℕ)) → List Value → List Value
picked columns None row = row
picked columns (Some names) row = map (λ (name : List ℕ). value_named columns name row) names

-- the rows that a SELECT answers: those that its condition chooses, in order, with the columns that it names
abbrev pub selected : List Column → Option (List (List ℕ)) → Option Cond → List (List Value) → List (List Value)
selected columns names where_is rows = map (picked columns names) (chosen columns where_is rows)
