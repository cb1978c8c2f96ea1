-- A condition that compares the key with a value chooses the row with that key, if there is one.
use Rattle.std.proofs.Common.{◌≡◌, ◌+◌, ℕ, zero, suc, List, [], ◌∷◌, length, Option, Some, None, Bool, true, false, cond, not, refl, sym, ap, subst, ◌∙◌, IsTrue, arith, ℤ}
use Rattle.std.specs.Prelude.{◌&&◌, ◌||◌, find, filter, slice_get, unwrap_or, option_and_then, option_map, nat_le, nat_lt}
use Rattle.std.specs.List.{list_all, list_any, position, position_or_len}
use Rattle.std.specs.Ordering.{is_eq}
use Rattle.std.specs.Str.{bytes_eq}
use Rattle.std.proofs.lemmas.Bool.{lt-ltb}
use Rattle.std.proofs.lemmas.List.Folds.{find_at}
use Rattle.std.proofs.lemmas.Option.{slice_get_within}
use Rattle.std.proofs.lemmas.Slice.Eq.{bytes_eq-Decides}
use Rattle.sql_value.specs.declared.refusal.Refusal.{Refusal}
use Rattle.sql_value.specs.declared.refusal.Refusal.TheVariants.{OutOfRange, WrongType}
use Rattle.sql_value.specs.declared.value.Value.{Value}
use Rattle.sql_value.specs.declared.value.Value.TheVariants as value
use Rattle.sql_value.specs.Comparison.{compare}
use Rattle.sql_value.specs.Values.{value_cmp, same_value}
use Rattle.sql_value.proofs.SameLemmas.{same_value-true, same_value_refl, same_value-is_eq}
use Rattle.row_format.specs.declared.schema.Kind.{Kind}
use Rattle.row_format.specs.declared.schema.Kind.TheVariants.{BigInt, VarChar}
use Rattle.row_format.specs.declared.schema.Column.{Column}
use Rattle.row_format.specs.declared.schema.Schema.{Schema}
use Rattle.row_format.specs.Rows.{first_of_two}
use Rattle.row_format.specs.Schemas.{is_called, are_distinct, has_room, is_key, is_required, is_well_made, greatest_image, IsSchema}
use Rattle.log_tables.specs.Keys.{key_in, has_key, row_with, IsBelow, IsInKeyOrder, IsOrdered}
use Rattle.log_tables.proofs.OrderLemmas.{below_free}
use Rattle.engine_api.specs.Live.{row_at, is_of_type, is_of_column, is_of_key, is_key_of}
use Rattle.sql_text.specs.declared.statement.Cond.{Cond}
use Rattle.sql_text.specs.declared.statement.Literal.{Literal}
use Rattle.sql_text.specs.declared.statement.Literal.TheVariants as literal
use Rattle.sql_text.specs.declared.statement.Op.TheVariants as op
use Rattle.sql_text.specs.declared.statement.Operand.{Operand}
use Rattle.sql_text.specs.declared.statement.Operand.TheVariants as operand
use Rattle.sql_text.specs.declared.statement.Step.{Step}
use Rattle.sql_text.specs.declared.statement.Step.TheVariants as step
use Rattle.sql_text.specs.declared.statement.Term.{Term}
use Rattle.sql_plan.specs.declared.shape.Path.TheVariants as path
use Rattle.sql_plan.specs.Plans.{value_of, key_literal, key_of_sums, key_in_step, key_in_steps, key_in_cond, key_of_schema, by_value, by_cond, unless}
use Rattle.sql_plan.specs.declared.types.ValueType.{ValueType}
use Rattle.sql_plan.specs.Types.{type_of_kind, type_of_literal, type_named, may_stand, range_refusal, sum_refusal, step_refusal, steps_refusal, cond_refusal, is_big_int}
use Rattle.sql_effect.specs.Conditions.{compared, truth_if, all_of}
use Rattle.sql_effect.specs.Select.{is_yes, is_chosen, is_decided, chosen, search_refusal}
use Rattle.sql_effect.specs.Values.{literal_value, value_named}
use Rattle.sql_exec.specs.Found.{listed}

-- an equal value is chosen, and no other

yes_if : (b : Bool) → is_yes (Some (all_of (truth_if b ∷ []))) ≡ b
yes_if true = refl
yes_if false = refl

equal_yes : (a b : Value) → is_yes (Some (all_of (compared op.Eq (Some (value_cmp a b)) ∷ []))) ≡ same_value a b
equal_yes a b = yes_if (is_eq (value_cmp a b)) ∙ sym (same_value-is_eq a b)

same_turned : (a b : Value) → same_value a b ≡ same_value b a
same_turned a b = either_way (same_value a b) (same_value b a) (turn a b) (turn b a)
  where
    turn : (x y : Value) → same_value x y ≡ true → same_value y x ≡ true
    turn x y is = subst (λ (v : Value). same_value v x ≡ true) (same_value-true x y is) (same_value_refl x)

    either_way : (p q : Bool) → (p ≡ true → q ≡ true) → (q ≡ true → p ≡ true) → p ≡ q
    either_way true q h k = sym (h refl)
    either_way false true h k = k refl
    either_way false false h k = refl

-- the value is not NULL
abbrev IsSet : Value → Type 0
IsSet value.Null = ⊥
IsSet (value.Int n) = Unit {0}
IsSet (value.Text t) = Unit {0}

yes_right : (a key : Value) → IsSet key → is_yes (Some (all_of (compared op.Eq (compare a key) ∷ []))) ≡ same_value a key
yes_right a value.Null set = absurd set
yes_right value.Null (value.Int n) set = refl
yes_right value.Null (value.Text t) set = refl
yes_right (value.Int m) (value.Int n) set = equal_yes (value.Int m) (value.Int n)
yes_right (value.Int m) (value.Text t) set = refl
yes_right (value.Text s) (value.Int n) set = refl
yes_right (value.Text s) (value.Text t) set = equal_yes (value.Text s) (value.Text t)

yes_left : (a key : Value) → IsSet key → is_yes (Some (all_of (compared op.Eq (compare key a) ∷ []))) ≡ same_value a key
yes_left a value.Null set = absurd set
yes_left value.Null (value.Int n) set = refl
yes_left value.Null (value.Text t) set = refl
yes_left (value.Int m) (value.Int n) set = equal_yes (value.Int n) (value.Int m) ∙ same_turned (value.Int n) (value.Int m)
yes_left (value.Int m) (value.Text t) set = refl
yes_left (value.Text s) (value.Int n) set = refl
yes_left (value.Text s) (value.Text t) set = equal_yes (value.Text t) (value.Text s) ∙ same_turned (value.Text t) (value.Text s)

no_null : (l : Literal) → value_of l ≡ Some value.Null → ⊥
no_null literal.Null is = cc
no_null (literal.Int n) is = either _ is
  where
    either : (b : Bool) → cond b (Some (value.Int n)) None ≡ Some value.Null → ⊥
    either true e = cc
    either false e = cc
no_null (literal.Text t) is = cc

is_set : (l : Literal) (key : Value) → value_of l ≡ Some key → IsSet key
is_set l value.Null is = absurd (no_null l is)
is_set l (value.Int n) is = tt
is_set l (value.Text t) is = tt

-- the condition is decided on each row, and chooses it where it has the key
abbrev AsksKey : List Column → ℕ → Value → Option Cond → Type 0
AsksKey c place key w = (row : List Value) → (is_chosen c w row ≡ has_key place key row) × (is_decided c w row ≡ true)

guarded : {A B : Type 0} (b : Bool) (it : A) (f : A → Option B) (out : B) → option_and_then f (cond b (Some it) None) ≡ Some out → (b ≡ true) × (f it ≡ Some out)
guarded true it f out is = (refl, is)
guarded false it f out is = cc

-- what a row has in the key column, by the name that a condition gives
named_key : (c : List Column) (name n : List ℕ) (place : ℕ) (row : List Value) → position (is_called name) c ≡ Some place → bytes_eq name n ≡ true
    → value_named c n row ≡ key_in place row
named_key c name n place row at same =
    ap (λ (m : List ℕ). value_named c m row) (sym ((bytes_eq-Decides name n).0 same))
    ∙ ap (λ (o : Option ℕ). unwrap_or (option_and_then (slice_get row) o) value.Null) at

literal_key : (l : Literal) (key : Value) → value_of l ≡ Some key → literal_value l ≡ key
literal_key l key is = ap (λ (o : Option Value). unwrap_or o value.Null) is

operands_ask : (c : List Column) (name : List ℕ) (place : ℕ) (key : Value) (left right : Operand) → position (is_called name) c ≡ Some place
    → option_and_then value_of (key_literal name left right) ≡ Some key
    → AsksKey c place key (Some (record { steps = step.Compare (record { first = left; rest = [] }) op.Eq (record { first = right; rest = [] }) ∷ [] }))
operands_ask c name place key (operand.Column n) (operand.Literal l) at is row =
    let g = guarded (bytes_eq name n) l value_of key is in (
      ap (λ (a : Value). is_yes (Some (all_of (compared op.Eq (compare a (literal_value l)) ∷ [])))) (named_key c name n place row at g.0)
          ∙ ap (λ (b : Value). is_yes (Some (all_of (compared op.Eq (compare (key_in place row) b) ∷ [])))) (literal_key l key g.1)
          ∙ yes_right (key_in place row) key (is_set l key g.1),
      refl,
    )
operands_ask c name place key (operand.Literal l) (operand.Column n) at is row =
    let g = guarded (bytes_eq name n) l value_of key is in (
      ap (λ (a : Value). is_yes (Some (all_of (compared op.Eq (compare (literal_value l) a) ∷ [])))) (named_key c name n place row at g.0)
          ∙ ap (λ (b : Value). is_yes (Some (all_of (compared op.Eq (compare b (key_in place row)) ∷ [])))) (literal_key l key g.1)
          ∙ yes_left (key_in place row) key (is_set l key g.1),
      refl,
    )
operands_ask c name place key (operand.Column n) (operand.Column m) at is row = cc
operands_ask c name place key (operand.Literal l) (operand.Literal m) at is row = cc

parts_ask : (c : List Column) (name : List ℕ) (place : ℕ) (key : Value) (left right : Operand) (more others : List Term) → position (is_called name) c ≡ Some place
    → option_and_then value_of (key_of_sums name (record { first = left; rest = more }) (record { first = right; rest = others })) ≡ Some key
    → AsksKey c place key (Some (record { steps = step.Compare (record { first = left; rest = more }) op.Eq (record { first = right; rest = others }) ∷ [] }))
parts_ask c name place key left right [] [] at is = operands_ask c name place key left right at is
parts_ask c name place key left right (x ∷ xs) others at is = cc
parts_ask c name place key left right [] (x ∷ xs) at is = cc

step_asks : (c : List Column) (name : List ℕ) (place : ℕ) (key : Value) (it : Step) → position (is_called name) c ≡ Some place
    → option_and_then value_of (key_in_step name it) ≡ Some key → AsksKey c place key (Some (record { steps = it ∷ [] }))
step_asks c name place key (step.Compare left op.Eq right) at is = parts_ask c name place key left.first right.first left.rest right.rest at is
step_asks c name place key (step.Compare left op.Ne right) at is = cc
step_asks c name place key (step.Compare left op.Lt right) at is = cc
step_asks c name place key (step.Compare left op.Le right) at is = cc
step_asks c name place key (step.Compare left op.Gt right) at is = cc
step_asks c name place key (step.Compare left op.Ge right) at is = cc
step_asks c name place key (step.Or members) at is = cc
step_asks c name place key (step.And members) at is = cc
step_asks c name place key step.Not at is = cc
step_asks c name place key (step.IsNull sum negated) at is = cc

steps_ask : (c : List Column) (name : List ℕ) (place : ℕ) (key : Value) (steps : List Step) → position (is_called name) c ≡ Some place
    → option_and_then value_of (key_in_steps name steps) ≡ Some key → AsksKey c place key (Some (record { steps = steps }))
steps_ask c name place key [] at is = cc
steps_ask c name place key (it ∷ []) at is = step_asks c name place key it at is
steps_ask c name place key (it ∷ other ∷ rest) at is = cc

cond_asks : (c : List Column) (name : List ℕ) (place : ℕ) (key : Value) (w : Option Cond) → position (is_called name) c ≡ Some place
    → key_in_cond name w ≡ Some key → AsksKey c place key w
cond_asks c name place key None at is = cc
cond_asks c name place key (Some it) at is = steps_ask c name place key it.steps at is

-- a column is found by its name

or_first : (a b : Bool) → (a || b) ≡ false → a ≡ false
or_first true b is = cc
or_first false b is = refl

or_second : (a b : Bool) → (a || b) ≡ false → b ≡ false
or_second true b is = cc
or_second false b is = is

and_first : (a b : Bool) → (a && b) ≡ true → a ≡ true
and_first true b is = refl
and_first false b is = cc

and_second : (a b : Bool) → (a && b) ≡ true → b ≡ true
and_second true b is = is
and_second false b is = cc

not_so : (a : Bool) → not a ≡ true → a ≡ false
not_so true is = cc
not_so false is = refl

none_called : (name : List ℕ) (columns : List Column) (place : ℕ) (column : Column) → list_any (is_called name) columns ≡ false → slice_get columns place ≡ Some column
    → is_called name column ≡ false
none_called name [] place column none at = cc
none_called name (x ∷ xs) zero column none at =
    subst (λ (o : Option Column). is_called name (unwrap_or o x) ≡ false) at (or_first (is_called name x) (list_any (is_called name) xs) none)
none_called name (x ∷ xs) (suc place) column none at = none_called name xs place column (or_second (is_called name x) (list_any (is_called name) xs) none) at

other_way : (a b : List ℕ) → bytes_eq a b ≡ false → bytes_eq b a ≡ false
other_way a b is = go (bytes_eq b a) refl
  where
    go : (t : Bool) → bytes_eq b a ≡ t → t ≡ false
    go false e = refl
    go true e = absurd (differ (sym is ∙ (bytes_eq-Decides a b).1 (sym ((bytes_eq-Decides b a).0 e))))
      where
        differ : false ≡ true → ⊥
        differ x = cc

stands_at : (columns : List Column) (place : ℕ) (column : Column) → are_distinct columns ≡ true → slice_get columns place ≡ Some column
    → position_or_len (is_called column.name) columns ≡ place
stands_at [] place column distinct at = cc
stands_at (x ∷ xs) zero column distinct at =
    ap (λ (b : Bool). cond (not b) (1 + position_or_len (is_called column.name) xs) 0)
    (subst (λ (o : Option Column). bytes_eq column.name (unwrap_or o x).name ≡ true) (sym at) ((bytes_eq-Decides column.name column.name).1 refl))
stands_at (x ∷ xs) (suc place) column distinct at =
    let free = not_so (list_any (is_called x.name) xs) (and_first (not (list_any (is_called x.name) xs)) (are_distinct xs) distinct) in
    let rest = stands_at xs place column (and_second (not (list_any (is_called x.name) xs)) (are_distinct xs) distinct) at in
    ap (λ (b : Bool). cond (not b) (1 + position_or_len (is_called column.name) xs) 0) (other_way x.name column.name (none_called x.name xs place column free at))
    ∙ omega (arith, rest)

column_position : (columns : List Column) (place : ℕ) (column : Column) → are_distinct columns ≡ true → slice_get columns place ≡ Some column
    → position (is_called column.name) columns ≡ Some place
column_position columns place column distinct at =
    ap (λ (n : ℕ). cond (nat_lt n (length columns)) (Some n) None) (stands_at columns place column distinct at)
    ∙ ap (λ (b : Bool). cond b (Some place) None) (lt-ltb place (length columns) (slice_get_within columns place column at))

pub column_found : (columns : List Column) (place : ℕ) (column : Column) → are_distinct columns ≡ true → slice_get columns place ≡ Some column
    → find (is_called column.name) columns ≡ Some column
column_found columns place column distinct at =
    find_at (is_called column.name) columns ∙ ap (slice_get columns) (stands_at columns place column distinct at) ∙ at

-- at most one row has a key

one_with_key : (place : ℕ) (key : Value) (rows : List (List Value)) → IsInKeyOrder place rows → filter (has_key place key) rows ≡ listed (row_with place key rows)
one_with_key place key [] ordered = refl
one_with_key place key (r ∷ rs) ordered = by (has_key place key r) refl (one_with_key place key rs ordered.1)
  where
    none_left : (xs : List (List Value)) → row_with place key xs ≡ None → filter (has_key place key) xs ≡ []
    none_left [] none = refl
    none_left (x ∷ xs) none = step (has_key place key x) none (none_left xs)
      where
        step : (b : Bool) → cond b (Some x) (row_with place key xs) ≡ None → (row_with place key xs ≡ None → filter (has_key place key) xs ≡ [])
            → cond b (x ∷ filter (has_key place key) xs) (filter (has_key place key) xs) ≡ []
        step true is rest = cc
        step false is rest = rest is

    by : (b : Bool) → has_key place key r ≡ b → filter (has_key place key) rs ≡ listed (row_with place key rs) → cond b (r ∷ filter (has_key place key) rs) (filter (has_key place key) rs) ≡ listed (cond b (Some r) (row_with place key rs))
    by true is rest = ap (λ (xs : List (List Value)). r ∷ xs)
        (none_left rs (below_free place key rs (subst (λ (v : Value). IsBelow place v rs) (same_value-true (key_in place r) key is) ordered.0)))
    by false is rest = rest

filter_same : {A : Type 0} (p q : A → Bool) → ((x : A) → p x ≡ q x) → (xs : List A) → filter p xs ≡ filter q xs
filter_same {A = A} p q same [] = refl
filter_same {A = A} p q same (x ∷ xs) = ap (λ (b : Bool). cond b (x ∷ filter p xs) (filter p xs)) (same x)
    ∙ ap (λ (ys : List A). cond (q x) (x ∷ ys) ys) (filter_same p q same xs)

all_decided : (c : List Column) (w : Option Cond) → ((row : List Value) → is_decided c w row ≡ true) → (rows : List (List Value)) → list_all (is_decided c w) rows ≡ true
all_decided c w each [] = refl
all_decided c w each (r ∷ rs) = ap (λ (b : Bool). b && list_all (is_decided c w) rs) (each r) ∙ all_decided c w each rs

-- the key column that a condition asks for

third : (a b c d : Bool) → IsTrue (a && b && c && d) → c ≡ true
third a b true d is = refl
third true true false d is = cc
third true false false d is = cc
third false b false d is = cc

well_made : (schema : Schema) → IsSchema schema → is_well_made schema.columns schema.key ≡ true
well_made schema is =
    third (nat_le 1 (length schema.columns)) (nat_le (length schema.columns) 16) (is_well_made schema.columns schema.key) (nat_le (greatest_image schema.columns) 2000) is.allowed

parts : (a b c : Bool) → (a && b && c) ≡ true → (a ≡ true) × (c ≡ true)
parts true true true is = (refl, refl)
parts true true false is = cc
parts true false c is = cc
parts false b c is = cc

-- where the key column stands, and what the condition compares it with
pub record AsksAt (schema : Schema) (w : Option Cond) (key : Value) (place : ℕ) (column : Column) : Type 0 where
  pub at : schema.key ≡ Some place
  pub column_at : slice_get schema.columns place ≡ Some column
  pub distinct : are_distinct schema.columns ≡ true
  pub keyed : key_in_cond column.name w ≡ Some key

by_value_key : (o : Option Value) (key : Value) → by_value o ≡ path.Key key → o ≡ Some key
by_value_key None key is = cc
by_value_key (Some k) key is = cc

asks_at : (schema : Schema) (w : Option Cond) (key : Value) → IsSchema schema → by_cond (key_of_schema schema) w ≡ path.Key key
    → (place : ℕ) × (column : Column) × AsksAt schema w key place column
asks_at schema w key is by = on_key schema.key refl
  where
    made : (are_distinct schema.columns ≡ true) × (is_key schema.columns schema.key ≡ true)
    made = parts (are_distinct schema.columns) (list_all has_room schema.columns) (is_key schema.columns schema.key) (well_made schema is)

    on_column : (place : ℕ) → schema.key ≡ Some place → (o : Option Column) → slice_get schema.columns place ≡ o → is_required o ≡ true
        → (place : ℕ) × (column : Column) × AsksAt schema w key place column
    on_column place at None column_at required = absurd (differ required)
      where
        differ : false ≡ true → ⊥
        differ x = cc
    on_column place at (Some column) column_at required = (
      place,
      column,
      record {
        at = at;
        column_at = column_at;
        distinct = made.0;
        keyed = by_value_key (key_in_cond column.name w) key (rw (sym (named place column at column_at)) by);
      },
    )
      where
        named : (p : ℕ) (it : Column) → schema.key ≡ Some p → slice_get schema.columns p ≡ Some it → by_cond (key_of_schema schema) w ≡ by_cond (Some it.name) w
        named p it k c = rw (k, c) refl

    on_key : (k : Option ℕ) → schema.key ≡ k → (place : ℕ) × (column : Column) × AsksAt schema w key place column
    on_key None at = absurd (scan (rw at at by))
      where
        scan : by_cond None w ≡ path.Key key → ⊥
        scan x = cc
    on_key (Some place) at =
        on_column place at (slice_get schema.columns place) refl (subst (λ (k : Option ℕ). is_key schema.columns k ≡ true) at made.1)

-- A condition that compares the key with a value chooses the row with that key, if there is one, and is decided on all rows.
pub chosen_by_key : (schema : Schema) (w : Option Cond) (key : Value) (rows : List (List Value)) → IsSchema schema → IsOrdered schema.key rows
    → by_cond (key_of_schema schema) w ≡ path.Key key
    → (chosen schema.columns w rows ≡ listed (row_at schema.key rows key)) × (search_refusal schema.columns w rows ≡ None)
chosen_by_key schema w key rows is ordered by =
    let it = asks_at schema w key is by in
    let a = it.2 in
    let asks = cond_asks schema.columns it.1.name it.0 key w (column_position schema.columns it.0 it.1 a.distinct a.column_at) a.keyed in (
      filter_same (is_chosen schema.columns w) (has_key it.0 key) (λ row. (asks row).0) rows
          ∙ one_with_key it.0 key rows (subst (λ (k : Option ℕ). IsOrdered k rows) a.at ordered)
          ∙ ap (λ (k : Option ℕ). listed (row_at k rows key)) (sym a.at),
      ap (λ (b : Bool). unless b OutOfRange) (all_decided schema.columns w (λ row. (asks row).1) rows),
    )

-- the value is one of the key's type, where planning did not refuse the condition

granted_first : (a b : Option Refusal) → first_of_two a b ≡ None → a ≡ None
granted_first None b is = refl
granted_first (Some r) b is = cc

granted_second : (a b : Option Refusal) → first_of_two a b ≡ None → b ≡ None
granted_second None b is = is
granted_second (Some r) b is = cc

no_text : (b : Bool) (n : ℤ) (t : List ℕ) → cond b (Some (value.Int n)) None ≡ Some (value.Text t) → ⊥
no_text true n t is = cc
no_text false n t is = cc

fits_right : (kind : Kind) (l : Literal) (key : Value) → value_of l ≡ Some key
    → first_of_two (cond (may_stand false (Some (type_of_kind kind)) (type_of_literal l)) (range_refusal l) (Some WrongType)) None ≡ None → is_of_type kind key ≡ true
fits_right kind l value.Null is granted = absurd (no_null l is)
fits_right BigInt l (value.Int n) is granted = refl
fits_right (VarChar m) l (value.Text t) is granted = refl
fits_right BigInt literal.Null (value.Text t) is granted = cc
fits_right BigInt (literal.Int n) (value.Text t) is granted = absurd (no_text (is_big_int n) n t is)
fits_right BigInt (literal.Text s) (value.Text t) is granted = cc
fits_right (VarChar m) literal.Null (value.Int n) is granted = cc
fits_right (VarChar m) (literal.Int n) (value.Int k) is granted = cc
fits_right (VarChar m) (literal.Text s) (value.Int n) is granted = cc

fits_left : (kind : Kind) (l : Literal) (key : Value) → value_of l ≡ Some key
    → first_of_two (cond (may_stand false (type_of_literal l) (Some (type_of_kind kind))) None (Some WrongType)) None ≡ None → is_of_type kind key ≡ true
fits_left kind l value.Null is granted = absurd (no_null l is)
fits_left BigInt l (value.Int n) is granted = refl
fits_left (VarChar m) l (value.Text t) is granted = refl
fits_left BigInt literal.Null (value.Text t) is granted = cc
fits_left BigInt (literal.Int n) (value.Text t) is granted = absurd (no_text (is_big_int n) n t is)
fits_left BigInt (literal.Text s) (value.Text t) is granted = cc
fits_left (VarChar m) literal.Null (value.Int n) is granted = cc
fits_left (VarChar m) (literal.Int n) (value.Int k) is granted = cc
fits_left (VarChar m) (literal.Text s) (value.Int n) is granted = cc

type_at : (c : List Column) (name n : List ℕ) (column : Column) → find (is_called name) c ≡ Some column → bytes_eq name n ≡ true
    → type_named c n ≡ Some (type_of_kind column.kind)
type_at c name n column found same =
    ap (λ (m : List ℕ). type_named c m) (sym ((bytes_eq-Decides name n).0 same))
    ∙ ap (option_map (λ (it : Column). type_of_kind it.kind)) found

operands_fit : (c : List Column) (name : List ℕ) (column : Column) (key : Value) (left right : Operand) → find (is_called name) c ≡ Some column
    → option_and_then value_of (key_literal name left right) ≡ Some key
    → step_refusal c (step.Compare (record { first = left; rest = [] }) op.Eq (record { first = right; rest = [] })) ≡ None → is_of_type column.kind key ≡ true
operands_fit c name column key (operand.Column n) (operand.Literal l) found is granted =
    let g = guarded (bytes_eq name n) l value_of key is in
    fits_right column.kind l key g.1
    (subst (λ (o : Option ValueType). first_of_two (cond (may_stand false o (type_of_literal l)) (range_refusal l) (Some WrongType)) None ≡ None)
    (type_at c name n column found g.0) (granted_second (sum_refusal c None (record { first = operand.Column n; rest = [] })) _ granted))
operands_fit c name column key (operand.Literal l) (operand.Column n) found is granted =
    let g = guarded (bytes_eq name n) l value_of key is in
    fits_left column.kind l key g.1
    (subst (λ (o : Option ValueType). first_of_two (cond (may_stand false (type_of_literal l) o) None (Some WrongType)) None ≡ None)
    (type_at c name n column found g.0) (granted_second (sum_refusal c None (record { first = operand.Literal l; rest = [] })) _ granted))
operands_fit c name column key (operand.Column n) (operand.Column m) found is granted = cc
operands_fit c name column key (operand.Literal l) (operand.Literal m) found is granted = cc

parts_fit : (c : List Column) (name : List ℕ) (column : Column) (key : Value) (left right : Operand) (more others : List Term) → find (is_called name) c ≡ Some column
    → option_and_then value_of (key_of_sums name (record { first = left; rest = more }) (record { first = right; rest = others })) ≡ Some key
    → step_refusal c (step.Compare (record { first = left; rest = more }) op.Eq (record { first = right; rest = others })) ≡ None → is_of_type column.kind key ≡ true
parts_fit c name column key left right [] [] found is granted = operands_fit c name column key left right found is granted
parts_fit c name column key left right (x ∷ xs) others found is granted = cc
parts_fit c name column key left right [] (x ∷ xs) found is granted = cc

step_fits : (c : List Column) (name : List ℕ) (column : Column) (key : Value) (it : Step) → find (is_called name) c ≡ Some column
    → option_and_then value_of (key_in_step name it) ≡ Some key → step_refusal c it ≡ None → is_of_type column.kind key ≡ true
step_fits c name column key (step.Compare left op.Eq right) found is granted = parts_fit c name column key left.first right.first left.rest right.rest found is granted
step_fits c name column key (step.Compare left op.Ne right) found is granted = cc
step_fits c name column key (step.Compare left op.Lt right) found is granted = cc
step_fits c name column key (step.Compare left op.Le right) found is granted = cc
step_fits c name column key (step.Compare left op.Gt right) found is granted = cc
step_fits c name column key (step.Compare left op.Ge right) found is granted = cc
step_fits c name column key (step.Or members) found is granted = cc
step_fits c name column key (step.And members) found is granted = cc
step_fits c name column key step.Not found is granted = cc
step_fits c name column key (step.IsNull sum negated) found is granted = cc

steps_fit : (c : List Column) (name : List ℕ) (column : Column) (key : Value) (steps : List Step) → find (is_called name) c ≡ Some column
    → option_and_then value_of (key_in_steps name steps) ≡ Some key → steps_refusal c steps ≡ None → is_of_type column.kind key ≡ true
steps_fit c name column key [] found is granted = cc
steps_fit c name column key (it ∷ []) found is granted = step_fits c name column key it found is (granted_first (step_refusal c it) None granted)
steps_fit c name column key (it ∷ other ∷ rest) found is granted = cc

cond_fits : (c : List Column) (name : List ℕ) (column : Column) (key : Value) (w : Option Cond) → find (is_called name) c ≡ Some column
    → key_in_cond name w ≡ Some key → cond_refusal c w ≡ None → is_of_type column.kind key ≡ true
cond_fits c name column key None found is granted = cc
cond_fits c name column key (Some it) found is granted = steps_fit c name column key it.steps found is granted

-- The value that the key is compared with can be a key of the table.
pub key_fits : (schema : Schema) (w : Option Cond) (key : Value) → IsSchema schema → by_cond (key_of_schema schema) w ≡ path.Key key → cond_refusal schema.columns w ≡ None
    → IsTrue (is_key_of schema key)
key_fits schema w key is by granted =
    let it = asks_at schema w key is by in
    let a = it.2 in
    subst (λ (k : Option ℕ). IsTrue (is_of_key schema.columns k key)) (sym a.at)
    (subst (λ (o : Option Column). IsTrue (is_of_column o key)) (sym a.column_at)
    (subst IsTrue (sym (cond_fits schema.columns it.1.name it.1 key w (column_found schema.columns it.0 it.1 a.distinct a.column_at) a.keyed granted)) refl))
