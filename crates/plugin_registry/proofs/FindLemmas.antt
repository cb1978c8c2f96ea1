-- A name finds its live or dying slot.
use Rattle.std.proofs.Common.{◌≡◌, ℕ, zero, suc, ◌+◌, ◌<◌, ◌≤◌, List, [], ◌∷◌, Bool, true, false, Option, Some, None, refl, sym, ap, subst, ◌∙◌, inl, inr, arith, length, get_or}
use Rattle.std.specs.Prelude.{cond, not, count_by, slice_get, option_and_then, nat_lt, ◌&&◌, if◌then◌else◌}
use Rattle.std.specs.Option.{option_or, option_map_or}
use Rattle.std.specs.List.{position_or_len, list_any}
use Rattle.std.specs.Str.{bytes_eq}
use Rattle.std.proofs.lemmas.Bool.{cases_Bool, cond-true, cond-false, ltb-false, lt-ltb}
use Rattle.std.proofs.lemmas.Slice.Eq.{bytes_eq-Decides}
use Rattle.std.proofs.lemmas.List.Sums.{sum_by-cons, get_or-le-sum_by}
use Rattle.std.proofs.lemmas.List.Quantifiers.{position-Some}
use Rattle.std.proofs.lemmas.Option.{get_or_from_slice_get, slice_get_within}
use Rattle.plugin_registry.specs.declared.slot.Phase.{Phase}
use Rattle.plugin_registry.specs.declared.slot.Phase.TheVariants.{Gone}
use Rattle.plugin_registry.specs.declared.holder.Holder.{Holder}
use Rattle.plugin_registry.specs.Holders.{refers}
use Rattle.plugin_registry.specs.Registry.{Slot, is_current, is_named, is_of, slot_of, phase_at, holders_at, phase_of, has_slot_of, IsRegistry}
use Rattle.plugin_registry.proofs.SlotLemmas.{phase_at-there, holders_at-there}

-- The slot at the place that a name finds is within, and of the name.
pub found : (name : List ℕ) (slots : List Slot) (i : ℕ) (slot : Slot) → slot_of name slots ≡ Some i → slot ≡ get_or slots i slot → (i < length slots) × (is_of name slot ≡ true)
found name slots i slot is at =
    let there = position-Some (is_of name) slots i slot is in
    (there.0, ap (is_of name) at ∙ there.1)

-- A name has the phase of the slot that it finds.
pub phase_of-found : (name : List ℕ) (slots : List Slot) (i : ℕ) (slot : Slot) → slot_of name slots ≡ Some i → slot ≡ get_or slots i slot → phase_of name slots ≡ Some slot.phase
phase_of-found name slots i slot is at =
    let used : Option Phase = if list_any (is_named name) slots then Some Gone else None in
    ap (λ o. option_or (option_and_then (λ n. phase_at n slots) o) used) is
    ∙ ap (λ o. option_or o used) (phase_at-there slots i slot (found name slots i slot is at).0 at)

-- A holder has the slot that a name finds where it refers to it.
pub has_slot_of-found : (name : List ℕ) (holder : Holder) (slots : List Slot) (i : ℕ) (slot : Slot) → slot_of name slots ≡ Some i → slot ≡ get_or slots i slot
    → has_slot_of name holder slots ≡ refers holder slot.holders
has_slot_of-found name holder slots i slot is at =
    ap (λ o. option_map_or (λ n. refers holder (holders_at n slots)) o false) is
    ∙ ap (refers holder) (holders_at-there slots i slot (found name slots i slot is at).0 at)

-- a slot that passes stands nowhere in a list that counts none
counted : (p : Slot → Bool) (xs : List Slot) (n : ℕ) (x : Slot) → n < length xs → x ≡ get_or xs n x → p x ≡ true → 1 ≤ count_by p xs
counted p xs n x within at passes =
    let f : Slot → ℕ = λ s. cond (p s) 1 0 in
    let one : f (get_or xs n x) ≡ 1 = cond-true (p (get_or xs n x)) 1 0 (ap p (sym at) ∙ passes) in
    subst (λ k. k ≤ count_by p xs) one (get_or-le-sum_by f xs n x within)

-- where one slot passes at most, one that does is the first
first_place : (p : Slot → Bool) (xs : List Slot) (n : ℕ) (x : Slot) → count_by p xs ≤ 1 → n < length xs → x ≡ get_or xs n x → p x ≡ true → position_or_len p xs ≡ n
first_place p [] n x one within at passes = absurd (omega arith)
first_place p (y ∷ ys) zero x one within at passes = cond-false (not (p y)) (1 + position_or_len p ys) 0 (ap not (ap p (sym at) ∙ passes))
first_place p (y ∷ ys) (suc n) x one within at passes = elim (cases_Bool (p y)) [
  | inl too ↦
      let more = sum_by-cons (λ s. cond (p s) 1 0) y ys ∙ ap (λ k. k + count_by p ys) (cond-true (p y) 1 0 too) in
      absurd (two (count_by p (y ∷ ys)) (count_by p ys) one more (counted p ys n x (omega arith) at passes))
  | inr other ↦
      let fewer : count_by p ys ≤ 1 = less (count_by p (y ∷ ys)) (count_by p ys) (cond (p y) 1 0) one (sum_by-cons (λ s. cond (p s) 1 0) y ys) in
      cond-true (not (p y)) (1 + position_or_len p ys) 0 (ap not other)
      ∙ next (position_or_len p ys) n (first_place p ys n x fewer (omega arith) at passes)
]
  where
    two : (a b : ℕ) → a ≤ 1 → a ≡ 1 + b → 1 ≤ b → ⊥
    two a b h e k = omega arith

    less : (a b c : ℕ) → a ≤ 1 → a ≡ c + b → b ≤ 1
    less a b c h e = omega arith

    next : (a b : ℕ) → a ≡ b → 1 + a ≡ suc b
    next a b e = omega arith

-- where the first that passes is past the end, none is counted
none_counted : (p : Slot → Bool) (xs : List Slot) → length xs ≤ position_or_len p xs → count_by p xs ≡ 0
none_counted p [] past = refl
none_counted p (y ∷ ys) past = elim (cases_Bool (p y)) [
  | inl passes ↦ absurd (none (length ys) (subst (λ k. suc (length ys) ≤ k) (cond-false (not (p y)) (1 + position_or_len p ys) 0 (ap not passes)) past))
  | inr other ↦
      let behind = subst (λ k. suc (length ys) ≤ k) (cond-true (not (p y)) (1 + position_or_len p ys) 0 (ap not other)) past in
      let rest : length ys ≤ position_or_len p ys = less (length ys) (position_or_len p ys) behind in
      sum_by-cons (λ s. cond (p s) 1 0) y ys ∙ ap (λ k. k + count_by p ys) (cond-false (p y) 1 0 other) ∙ zero_more (count_by p ys) (none_counted p ys rest)
]
  where
    none : (k : ℕ) → suc k ≤ 0 → ⊥
    none k h = omega arith

    less : (j k : ℕ) → suc j ≤ 1 + k → j ≤ k
    less j k h = omega arith

    zero_more : (k : ℕ) → k ≡ 0 → 0 + k ≡ 0
    zero_more k e = omega arith

no_place : {X : Type 0} (b : Bool) (x : X) → cond b (Some x) None ≡ None → b ≡ false
no_place true x e = cc
no_place false x e = refl

-- A name that finds no slot has no live or dying one.
pub none_of : (name : List ℕ) (slots : List Slot) → slot_of name slots ≡ None → count_by (is_of name) slots ≡ 0
none_of name slots is = none_counted (is_of name) slots (ltb-false (position_or_len (is_of name) slots) (length slots) (no_place _ (position_or_len (is_of name) slots) is))

-- A live or dying slot is the one that its name finds.
pub slot_of-current : (slots : List Slot) (n : ℕ) (slot : Slot) → IsRegistry slots → slice_get slots n ≡ Some slot → is_current slot.phase ≡ true → slot_of slot.name slots ≡ Some n
slot_of-current slots n slot registry there current =
    let p : Slot → Bool = is_of slot.name in
    let within : n < length slots = slice_get_within slots n slot there in
    let passes : p slot ≡ true = ap (λ b. b && bytes_eq slot.name slot.name) current ∙ (bytes_eq-Decides slot.name slot.name).1 refl in
    let is : position_or_len p slots ≡ n = first_place p slots n slot (registry.one slot.name) within (sym (get_or_from_slice_get slots n slot slot there)) passes in
    cond-true (nat_lt (position_or_len p slots) (length slots)) (Some (position_or_len p slots)) None (lt-ltb _ _ (subst (λ k. k < length slots) (sym is) within)) ∙ ap (λ (k : ℕ). Some k) is

-- The slot that a name finds is live or dying.
pub current-found : (name : List ℕ) (slots : List Slot) (i : ℕ) (slot : Slot) → slot_of name slots ≡ Some i → slot ≡ get_or slots i slot → is_current slot.phase ≡ true
current-found name slots i slot is at = first (is_current slot.phase) (bytes_eq slot.name name) (found name slots i slot is at).1
  where
    first : (a b : Bool) → a && b ≡ true → a ≡ true
    first true b h = refl
    first false b h = h
