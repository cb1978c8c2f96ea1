-- Whether two changes meet does not hang on their order.
use Rattle.std.proofs.Common.{◌≡◌, ℕ, List, [], ◌∷◌, Option, Some, None, Bool, true, false, ◌&&◌, ◌||◌, refl, sym, ap, ◌∙◌, inl, inr, ◌⊎◌}
use Rattle.std.specs.List.{list_any}
use Rattle.std.specs.Str.{bytes_eq}
use Rattle.std.proofs.lemmas.Slice.Eq.{bytes_eq-Decides}
use Rattle.sql_value.specs.declared.value.Value.{Value}
use Rattle.sql_value.specs.Values.{same_value}
use Rattle.sql_value.proofs.SameLemmas.{same_value-true, same_value_refl}
use Rattle.row_format.specs.declared.change.Change.{Change}
use Rattle.engine_api.specs.Live.{meets, meets_any, table_of, keys_of, same_found, has_value, keys_meet}
use Rattle.log_tables.proofs.PartLemmas.{cases}
use Rattle.live_tables.specs.Folds.{Apart}
use Rattle.live_tables.proofs.NameLemmas.{no}

-- two tests that hold together are one
both_ways : (a b : Bool) → (a ≡ true → b ≡ true) → (b ≡ true → a ≡ true) → a ≡ b
both_ways true b f g = sym (f refl)
both_ways false true f g = g refl
both_ways false false f g = refl

pub same_value_sym : (a b : Value) → same_value a b ≡ same_value b a
same_value_sym a b = both_ways (same_value a b) (same_value b a) (turn a b) (turn b a)
  where
    turn : (a b : Value) → same_value a b ≡ true → same_value b a ≡ true
    turn a b h = ap (λ x. same_value b x) (same_value-true a b h) ∙ same_value_refl b

pub bytes_eq_sym : (a b : List ℕ) → bytes_eq a b ≡ bytes_eq b a
bytes_eq_sym a b = both_ways (bytes_eq a b) (bytes_eq b a) (turn a b) (turn b a)
  where
    turn : (a b : List ℕ) → bytes_eq a b ≡ true → bytes_eq b a ≡ true
    turn a b h = (bytes_eq-Decides b a).1 (sym ((bytes_eq-Decides a b).0 h))

same_found_sym : (a b : Option (List ℕ)) → same_found a b ≡ same_found b a
same_found_sym None None = refl
same_found_sym None (Some b) = refl
same_found_sym (Some a) None = refl
same_found_sym (Some a) (Some b) = bytes_eq_sym a b

or_parts : (a b c d : Bool) → ((a || b) || (c || d)) ≡ ((a || c) || (b || d))
or_parts true b c d = refl
or_parts false true true d = refl
or_parts false true false d = refl
or_parts false false c d = refl

-- one key more meets the others where it is one of them, or the rest meet them
one_more : (x : Value) (xs ys : List Value) → list_any (has_value (x ∷ xs)) ys ≡ (has_value ys x || list_any (has_value xs) ys)
one_more x xs [] = refl
one_more x xs (y ∷ ys) =
    ap (λ b. (same_value y x || has_value xs y) || b) (one_more x xs ys)
    ∙ or_parts (same_value y x) (has_value xs y) (has_value ys x) (list_any (has_value xs) ys)
    ∙ ap (λ b. (b || has_value ys x) || (has_value xs y || list_any (has_value xs) ys)) (same_value_sym y x)

any_sym : (xs ys : List Value) → list_any (has_value ys) xs ≡ list_any (has_value xs) ys
any_sym [] ys = sym (none ys)
  where
    none : (ys : List Value) → list_any (has_value []) ys ≡ false
    none [] = refl
    none (y ∷ ys) = none ys
any_sym (x ∷ xs) ys = ap (λ b. has_value ys x || b) (any_sym xs ys) ∙ sym (one_more x xs ys)

keys_meet_sym : (xs ys : List Value) → keys_meet xs ys ≡ keys_meet ys xs
keys_meet_sym [] [] = refl
keys_meet_sym [] (y ∷ ys) = refl
keys_meet_sym (x ∷ xs) [] = refl
keys_meet_sym (x ∷ xs) (y ∷ ys) = any_sym (x ∷ xs) (y ∷ ys)

-- Two changes meet in either order.
pub meets_sym : (a b : Change) → meets a b ≡ meets b a
meets_sym a b =
    ap (λ x. x && keys_meet (keys_of a) (keys_of b)) (same_found_sym (table_of a) (table_of b))
    ∙ ap (λ x. same_found (table_of b) (table_of a) && x) (keys_meet_sym (keys_of a) (keys_of b))

-- a change that names no key meets all on its table
pub keys_none : (xs : List Value) → keys_meet xs [] ≡ true
keys_none [] = refl
keys_none (x ∷ xs) = refl

-- keys that do not meet are there, and none is one of the others
meets_lists : (ys xs : List Value) → keys_meet ys xs ≡ false → list_any (has_value xs) ys ≡ false
meets_lists [] xs h = absurd (no (sym h))
meets_lists (y ∷ ys) [] h = absurd (no (sym h))
meets_lists (y ∷ ys) (x ∷ xs) h = h

pub or_false : (a b : Bool) → (a || b) ≡ false → (a ≡ false) × (b ≡ false)
or_false true b h = absurd (no (sym h))
or_false false b h = (refl, h)

-- one of the keys is this one
abbrev pub holds : Value → List Value → Bool
holds key keys = list_any (λ it. same_value it key) keys

holds_is : (key : Value) (keys : List Value) → holds key keys ≡ has_value keys key
holds_is key [] = refl
holds_is key (x ∷ xs) = ap (λ b. b || holds key xs) (same_value_sym x key) ∙ ap (λ b. same_value key x || b) (holds_is key xs)

yes_false : (b : Bool) → b ≡ true → b ≡ false → ⊥
yes_false b p q = no (sym q ∙ p)

apart_lists : (key : Value) (ys xs : List Value) → list_any (has_value xs) ys ≡ false → holds key xs ≡ true → holds key ys ≡ false
apart_lists key [] xs h there = refl
apart_lists key (y ∷ ys) xs h there =
    let parts = or_false (has_value xs y) (list_any (has_value xs) ys) h in
    first (same_value y key) refl parts.0 ∙ apart_lists key ys xs parts.1 there
  where
    first : (b : Bool) → same_value y key ≡ b → has_value xs y ≡ false → (same_value y key || holds key ys) ≡ holds key ys
    first false e free = ap (λ b. b || holds key ys) e
    first true e free =
        let at : y ≡ key = same_value-true y key e in
        absurd (yes_false (has_value xs y) (sym (holds_is y xs) ∙ ap (λ k. holds k xs) at ∙ there) free)

-- No key stands in two lists that do not meet.
pub keys_apart : (ys xs : List Value) → keys_meet ys xs ≡ false → (key : Value) → (holds key xs ≡ false) ⊎ (holds key ys ≡ false)
keys_apart ys xs h key = elim (cases (holds key xs)) [
  | inl there ↦ inr (apart_lists key ys xs (meets_lists ys xs h) there)
  | inr free ↦ inl free
]

-- One change more at the head of the others.
apart_head : (cs : List Change) (d : Change) (ds : List Change) → meets_any d cs ≡ false → Apart cs ds → Apart cs (d ∷ ds)
apart_head [] d ds h apart = tt
apart_head (c ∷ cs) d ds h apart =
    let parts = or_false (meets d c) (meets_any d cs) h in
    (ap (λ b. b || meets_any c ds) (meets_sym c d ∙ parts.0) ∙ apart.0, apart_head cs d ds parts.1 apart.1)

-- no change meets one of none
apart_nothing : (cs : List Change) → Apart cs []
apart_nothing [] = tt
apart_nothing (c ∷ cs) = (refl, apart_nothing cs)

-- Two lists are apart in either order.
pub apart_sym : (cs ds : List Change) → Apart cs ds → Apart ds cs
apart_sym [] ds apart = apart_nothing ds
apart_sym (c ∷ cs) ds apart = apart_head ds c cs apart.0 (apart_sym cs ds apart.1)
