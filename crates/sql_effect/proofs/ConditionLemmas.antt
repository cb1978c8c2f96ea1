-- What steps leave behind steps, and what the parts of a condition say together.
use Rattle.std.proofs.Common.{◌≡◌, ◌-◌, ℕ, suc, List, [], ◌∷◌, ◌++◌, Option, Some, None, refl, sym, ap, ◌∙◌, length, take, drop, append_assoc, arith}
use Rattle.std.specs.Prelude.{option_and_then, option_map}
use Rattle.std.proofs.Math.Seq.{take-append_seam, drop-append_seam}
use Rattle.std.proofs.lemmas.List.{length-append, append-nil}
use Rattle.sql_value.specs.declared.truth.Truth.{Truth}
use Rattle.sql_value.specs.declared.truth.Truth.TheVariants.{Yes, No, Unknown}
use Rattle.sql_value.specs.Truth.{truth_not}
use Rattle.sql_value.specs.declared.value.Value.{Value}
use Rattle.row_format.specs.declared.schema.Column.{Column}
use Rattle.sql_text.specs.declared.statement.Step.{Step}
use Rattle.sql_text.specs.declared.statement.Step.TheVariants as step
use Rattle.sql_effect.specs.Conditions.{all_steps, all_of, one_of, last_joined, truths_after, truths_behind, cond_truth, Says, EachSays}

-- what comes behind both parts of two
one_more : {A B C : Type 0} (both : A → Option C) (f : B → Option C) (g : A → Option B) → ((x : A) → both x ≡ option_and_then f (g x)) → (o : Option A)
    → option_and_then both o ≡ option_and_then f (option_and_then g o)
one_more both f g each None = refl
one_more both f g each (Some x) = each x

-- steps behind steps
pub behind-append : (c : List Column) (r : List Value) (xs ys : List Step) (ts : List Truth)
    → truths_behind c r (xs ++ ys) ts ≡ option_and_then (truths_behind c r ys) (truths_behind c r xs ts)
behind-append c r [] ys ts = refl
behind-append c r (x ∷ xs) ys ts = one_more (truths_behind c r (xs ++ ys)) (truths_behind c r ys) (truths_behind c r xs) (behind-append c r xs ys) (truths_after c r x ts)

-- the members of an AND or an OR leave their truths
pub each_leaves : (c : List Column) (r : List Value) (parts : List (List Step)) (truths before : List Truth) → EachSays c r parts truths
    → truths_behind c r (all_steps parts) before ≡ Some (before ++ truths)
each_leaves c r [] [] before each = ap Some (sym (append-nil before))
each_leaves c r [] (t ∷ ts) before each = absurd each
each_leaves c r (p ∷ ps) [] before each = absurd each
each_leaves c r (p ∷ ps) (t ∷ ts) before each =
    behind-append c r p (all_steps ps) before
    ∙ ap (option_and_then (truths_behind c r (all_steps ps))) (each.0 before)
    ∙ each_leaves c r ps ts (before ++ t ∷ []) each.1
    ∙ ap Some (append_assoc before (t ∷ []) ts)

-- there are as many members as truths
pub as_many : (c : List Column) (r : List Value) (parts : List (List Step)) (truths : List Truth) → EachSays c r parts truths → length parts ≡ length truths
as_many c r [] [] each = refl
as_many c r [] (t ∷ ts) each = absurd each
as_many c r (p ∷ ps) [] each = absurd each
as_many c r (p ∷ ps) (t ∷ ts) each = ap suc (as_many c r ps ts each.1)

-- the last of some truths, put together
pub joined_last : (join : List Truth → Truth) (before last : List Truth) → last_joined (length last) join (before ++ last) ≡ before ++ join last ∷ []
joined_last join before last =
    ap (λ (n : ℕ). take n (before ++ last) ++ join (drop n (before ++ last)) ∷ []) start
    ∙ ap (λ (xs : List Truth). xs ++ join (drop (length before) (before ++ last)) ∷ []) (take-append_seam before last)
    ∙ ap (λ (xs : List Truth). before ++ join xs ∷ []) (drop-append_seam before last)
  where
    start : length (before ++ last) - length last ≡ length before
    start = omega (arith, length-append before last)

-- one truth is left as it is
pub all_of_one : (t : Truth) → all_of (t ∷ []) ≡ t
all_of_one Yes = refl
all_of_one No = refl
all_of_one Unknown = refl

-- NOT
pub not_says : (c : List Column) (r : List Value) (steps : List Step) (t : Truth) → Says c r steps t → Says c r (steps ++ step.Not ∷ []) (truth_not t)
not_says c r steps t says before =
    behind-append c r steps (step.Not ∷ []) before
    ∙ ap (option_and_then (truths_behind c r (step.Not ∷ []))) (says before)
    ∙ ap Some (joined_last (λ (it : List Truth). truth_not (all_of it)) before (t ∷ []))
    ∙ ap (λ (it : Truth). Some (before ++ truth_not it ∷ [])) (all_of_one t)

-- AND
pub and_says : (c : List Column) (r : List Value) (parts : List (List Step)) (truths : List Truth) → EachSays c r parts truths
    → Says c r (all_steps parts ++ step.And (length parts) ∷ []) (all_of truths)
and_says c r parts truths each before =
    behind-append c r (all_steps parts) (step.And (length parts) ∷ []) before
    ∙ ap (option_and_then (truths_behind c r (step.And (length parts) ∷ []))) (each_leaves c r parts truths before each)
    ∙ ap (λ (n : ℕ). Some (last_joined n all_of (before ++ truths))) (as_many c r parts truths each)
    ∙ ap Some (joined_last all_of before truths)

-- OR
pub or_says : (c : List Column) (r : List Value) (parts : List (List Step)) (truths : List Truth) → EachSays c r parts truths
    → Says c r (all_steps parts ++ step.Or (length parts) ∷ []) (one_of truths)
or_says c r parts truths each before =
    behind-append c r (all_steps parts) (step.Or (length parts) ∷ []) before
    ∙ ap (option_and_then (truths_behind c r (step.Or (length parts) ∷ []))) (each_leaves c r parts truths before each)
    ∙ ap (λ (n : ℕ). Some (last_joined n one_of (before ++ truths))) (as_many c r parts truths each)
    ∙ ap Some (joined_last one_of before truths)

-- the whole
pub cond_says : (c : List Column) (r : List Value) (steps : List Step) (t : Truth) → Says c r steps t → cond_truth c (Some (record { steps = steps })) r ≡ Some t
cond_says c r steps t says = ap (option_map all_of) (says []) ∙ ap Some (all_of_one t)
