-- Whether a condition holds on a row.
-- (MySQL 5.7 Reference Manual, "Logical Operators", "Comparison Functions and Operators" and "Working with NULL Values"; that each sum is
-- looked at, also where the others decide, is this project's.)
use Rattle.std.specs.Prelude.{◌≡◌, ℕ, ◌-◌, List, [], ◌∷◌, ◌++◌, length, take, drop, Option, Some, None, Bool, true, false, cond, not, option_map, option_and_then, flat_map}
use Rattle.std.specs.declared.cmp.Ordering.{Ordering}
use Rattle.std.specs.Ordering.{is_eq, is_ne, is_lt, is_le, is_gt, is_ge}
use Rattle.sql_value.specs.declared.truth.Truth.{Truth}
use Rattle.sql_value.specs.declared.truth.Truth.TheVariants.{Yes, No, Unknown}
use Rattle.sql_value.specs.declared.value.Value.{Value}
use Rattle.sql_value.specs.declared.value.Value.TheVariants.{Null}
use Rattle.sql_value.specs.Comparison.{compare}
use Rattle.sql_value.specs.Truth.{truth_and, truth_or, truth_not}
use Rattle.row_format.specs.declared.schema.Column.{Column}
use Rattle.sql_text.specs.declared.statement.Cond.{Cond}
use Rattle.sql_text.specs.declared.statement.Op.{Op}
use Rattle.sql_text.specs.declared.statement.Op.TheVariants.{Eq, Ne, Lt, Le, Gt, Ge}
use Rattle.sql_text.specs.declared.statement.Step.{Step}
use Rattle.sql_text.specs.declared.statement.Step.TheVariants as step
use Rattle.sql_text.specs.declared.statement.Sum.{Sum}
use Rattle.sql_effect.specs.Values.{sum_value}

-- the sign of a comparison holds of two values that stand so to each other
abbrev pub does_hold : Op → Ordering → Bool
does_hold Eq ordering = is_eq ordering
does_hold Ne ordering = is_ne ordering
does_hold Lt ordering = is_lt ordering
does_hold Le ordering = is_le ordering
does_hold Gt ordering = is_gt ordering
does_hold Ge ordering = is_ge ordering

-- Yes where it is so, else No
abbrev pub truth_if : Bool → Truth
truth_if true = Yes
truth_if false = No

-- what a comparison says of two values that stand so to each other; Unknown where one of them is NULL
abbrev pub compared : Op → Option Ordering → Truth
compared op None = Unknown
compared op (Some ordering) = truth_if (does_hold op ordering)

-- IS NULL, or IS NOT NULL, of a value
abbrev pub null_truth : Bool → Value → Truth
null_truth negated Null = truth_if (not negated)
null_truth negated _ = truth_if negated

-- a comparison of two sums on a row
abbrev pub comparison_truth : List Column → List Value → Sum → Op → Sum → Option Truth
comparison_truth columns row left op right =
    option_and_then (λ (a : Value). option_map (λ (b : Value). compared op (compare a b)) (sum_value columns row right)) (sum_value columns row left)

-- whether all of them hold
abbrev pub all_of : List Truth → Truth
all_of [] = Yes
all_of (it ∷ rest) = truth_and it (all_of rest)

-- whether one of them holds
abbrev pub one_of : List Truth → Truth
one_of [] = No
one_of (it ∷ rest) = truth_or it (one_of rest)

-- the truths with the last few of them put together into one
abbrev pub last_joined : ℕ → (List Truth → Truth) → List Truth → List Truth
last_joined members join truths = take (length truths - members) truths ++ join (drop (length truths - members) truths) ∷ []

-- the truths with one more
abbrev pub with_truth : List Truth → Truth → List Truth
with_truth truths it = truths ++ it ∷ []

-- The truths behind a step of a condition: a test adds its own, AND and OR put their members together, and NOT turns the last one round.
abbrev pub truths_after : List Column → List Value → Step → List Truth → Option (List Truth)
truths_after columns row (step.Or members) truths = Some (last_joined members one_of truths)
truths_after columns row (step.And members) truths = Some (last_joined members all_of truths)
truths_after columns row step.Not truths = Some (last_joined 1 (λ (it : List Truth). truth_not (all_of it)) truths)
truths_after columns row (step.Compare left op right) truths = option_map (with_truth truths) (comparison_truth columns row left op right)
truths_after columns row (step.IsNull sum negated) truths = option_map (λ (it : Value). with_truth truths (null_truth negated it)) (sum_value columns row sum)

-- the truths behind steps, one after the other
abbrev pub truths_behind : List Column → List Value → List Step → List Truth → Option (List Truth)
truths_behind columns row [] truths = Some truths
truths_behind columns row (it ∷ rest) truths = option_and_then (truths_behind columns row rest) (truths_after columns row it truths)

-- What a condition says of a row: the one truth that its steps leave. None where a sum of it goes outside BIGINT. With no condition, Yes.
abbrev pub cond_truth : List Column → Option Cond → List Value → Option Truth
cond_truth columns None row = Some Yes
cond_truth columns (Some cond) row = option_map all_of (truths_behind columns row cond.steps [])

-- Steps say this of a row: they leave this one truth more, whatever stood before.
abbrev pub Says : List Column → List Value → List Step → Truth → Type 0
Says columns row steps truth = (before : List Truth) → truths_behind columns row steps before ≡ Some (before ++ truth ∷ [])

-- each of these lists of steps says its truth
abbrev pub EachSays : List Column → List Value → List (List Step) → List Truth → Type 0
EachSays columns row [] [] = Unit {0}
EachSays columns row [] (truth ∷ truths) = ⊥
EachSays columns row (steps ∷ others) [] = ⊥
EachSays columns row (steps ∷ others) (truth ∷ truths) = Says columns row steps truth × EachSays columns row others truths

-- the steps of conditions, one behind the other
abbrev pub all_steps : List (List Step) → List Step
all_steps members = flat_map (λ (it : List Step). it) members
