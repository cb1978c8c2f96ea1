-- The schema of a CREATE is one, and a table that was found is one of the tables.
use Rattle.std.proofs.Common.{◌≡◌, ℕ, List, [], ◌∷◌, Option, Some, None, Bool, true, false, All, refl, subst, cond, arith}
use Rattle.std.specs.Prelude.{◌&&◌, find}
use Rattle.std.specs.List.{list_any, filter_map}
use Rattle.std.proofs.lemmas.List.Elements.{All-tail}
use Rattle.row_format.specs.declared.schema.Column.{Column}
use Rattle.row_format.specs.declared.schema.Schema.{Schema}
use Rattle.row_format.specs.Schemas.{is_allowed}
use Rattle.engine_api.specs.declared.flags.Flags.{Flags}
use Rattle.engine_api.specs.Live.{allows}
use Rattle.sql_text.specs.declared.statement.Item.{Item}
use Rattle.sql_text.specs.declared.statement.Statement.{Statement}
use Rattle.sql_text.specs.declared.statement.Statement.TheVariants as statement
use Rattle.sql_plan.specs.Plans.{schema_of}
use Rattle.sql_plan.specs.Tables.{keys_named, is_torn, column_of, key_place, schema_if, schema_of_columns, schema_with, schema_for}

-- a choice that gives something
given : {A : Type 0} (b : Bool) (x y : A) → cond b (Some x) None ≡ Some y → b ≡ true
given true x y is = refl
given false x y is = absurd cc

-- and what it gives
gives : {A : Type 0} (b : Bool) (x y : A) → cond b (Some x) None ≡ Some y → x ≡ y
gives true x y is = cc
gives false x y is = absurd cc

first_so : (a b : Bool) → (a && b) ≡ true → a ≡ true
first_so true b is = refl
first_so false b is = absurd cc

second_so : (a b : Bool) → (a && b) ≡ true → b ≡ true
second_so true b is = is
second_so false b is = absurd cc

-- the schema is one, and the flags allow it
abbrev is_granted : Flags → Schema → Bool
is_granted flags s = is_allowed s.columns s.key && allows flags s

by_place : (flags : Flags) (columns : List Column) (key : Option (Option ℕ)) (s : Schema) → schema_if flags columns key ≡ Some s → is_granted flags s ≡ true
by_place flags columns None s is = absurd cc
by_place flags columns (Some key) s is =
    let made : Schema = record { columns = columns; key = key } in
    subst (λ (it : Schema). is_granted flags it ≡ true) (gives (is_granted flags made) made s is) (given (is_granted flags made) made s is)

by_items : (b : Bool) (made : Option Schema) (s : Schema) → cond b None made ≡ Some s → made ≡ Some s
by_items true made s is = absurd cc
by_items false made s is = is

by_key : (flags : Flags) (items : List Item) (key : Option (List ℕ)) (s : Schema) → schema_with flags items key ≡ Some s → is_granted flags s ≡ true
by_key flags items key s is =
    by_place flags (filter_map (column_of key) items) (key_place key (filter_map (column_of key) items)) s
    (by_items (list_any (is_torn key) items) (schema_of_columns flags (filter_map (column_of key) items) key) s is)

by_keys : (flags : Flags) (items : List Item) (keys : List (List ℕ)) (s : Schema) → schema_for flags items keys ≡ Some s → is_granted flags s ≡ true
by_keys flags items [] s is = by_key flags items None s is
by_keys flags items (key ∷ []) s is = by_key flags items (Some key) s is
by_keys flags items (key ∷ other ∷ keys) s is = absurd cc

schema_granted : (asks : Statement) (flags : Flags) (s : Schema) → schema_of asks None flags ≡ Some s → is_granted flags s ≡ true
schema_granted (statement.Create table items engine) flags s is = by_keys flags items (keys_named items) s is
schema_granted _ flags s is = absurd cc

-- the schema that a CREATE makes
pub schema_allowed : (asks : Statement) (flags : Flags) (s : Schema) → schema_of asks None flags ≡ Some s → is_allowed s.columns s.key ≡ true
schema_allowed asks flags s is = first_so (is_allowed s.columns s.key) (allows flags s) (schema_granted asks flags s is)

-- and the engine allows it
pub schema_suits : (asks : Statement) (flags : Flags) (s : Schema) → schema_of asks None flags ≡ Some s → allows flags s ≡ true
schema_suits asks flags s is = second_so (is_allowed s.columns s.key) (allows flags s) (schema_granted asks flags s is)

one_is : {X : Type 0} (P : X → Type 0) (y x : X) → P y → Some y ≡ Some x → P x
one_is P y x p e = subst P same p
  where
    same : y ≡ x
    same = cc

found_next : {X : Type 0} (P : X → Type 0) (b : Bool) (y x : X) (rest : Option X) → P y → (rest ≡ Some x → P x) → cond b (Some y) rest ≡ Some x → P x
found_next P true y x rest p others e = one_is P y x p e
found_next P false y x rest p others e = others e

-- what is found is one of those that were looked through
pub all_found : {X : Type 0} (P : X → Type 0) (p : X → Bool) (xs : List X) (x : X) → All P xs → find p xs ≡ Some x → P x
all_found P p [] x all is = absurd cc
all_found P p (y ∷ ys) x all is = found_next P (p y) y x (find p ys) (all 0 y (omega arith)) (all_found P p ys x (All-tail P y ys all)) is
