-- What each call keeps of a registry.
use Rattle.std.proofs.Common.{◌≡◌, ℕ, ◌+◌, ◌<◌, ◌≤◌, List, [], Bool, true, false, None, refl, sym, ap, subst, ◌∙◌, inl, inr, arith, length, get_or, set}
use Rattle.std.specs.Prelude.{cond, count_by, ◌&&◌}
use Rattle.std.specs.List.{IsDistinct}
use Rattle.std.specs.Str.{bytes_eq}
use Rattle.std.proofs.lemmas.Bool.{cases_Bool, cond-false}
use Rattle.std.proofs.lemmas.List.{length-set, length_push}
use Rattle.std.proofs.lemmas.List.Sums.{sum_by-set, sum_by_push}
use Rattle.std.proofs.lemmas.List.Elements.{All-set, All-push}
use Rattle.std.proofs.lemmas.Slice.Eq.{bytes_eq-Decides}
use Rattle.plugin_registry.specs.declared.slot.Phase.{Phase}
use Rattle.plugin_registry.specs.declared.slot.Phase.TheVariants.{Live, Dying, Gone}
use Rattle.plugin_registry.specs.declared.holder.Holder.{Holder}
use Rattle.plugin_registry.specs.Holders.{same_holder, without_holder}
use Rattle.plugin_registry.specs.Registry.{Slot, slot_limit, is_current, is_of, slot_of, IsRegistry}
use Rattle.plugin_registry.specs.Calls.{got_by, left_by, in_phase, after_install}
use Rattle.plugin_registry.proofs.HolderLemmas.{distinct-with, distinct-without, distinct-nobody}
use Rattle.plugin_registry.proofs.FindLemmas.{none_of}

-- the slot may become this one: it keeps its name, is not live or dying again, and its holders are as they must be
pub record MayBecome (old new : Slot) : Type 0 where
  pub name : new.name ≡ old.name
  pub current : is_current new.phase ≡ true → is_current old.phase ≡ true
  pub gone : new.phase ≡ Gone → new.holders ≡ []
  pub distinct : IsDistinct same_holder new.holders

no_more : (a b : Bool) → (a ≡ true → b ≡ true) → cond a 1 0 ≤ cond b 1 0
no_more true true h = omega arith
no_more true false h = absurd (apart (h refl))
  where
    apart : false ≡ true → ⊥
    apart e = cc
no_more false true h = omega arith
no_more false false h = omega arith

both : (a b c : Bool) → (a ≡ true → b ≡ true) → a && c ≡ true → b && c ≡ true
both true b c h e = subst (λ x. x && c ≡ true) (sym (h refl)) e
both false b c h e = cc

-- A slot that becomes what it may leaves a registry.
pub registry-set : (slots : List Slot) (i : ℕ) (old new : Slot) → IsRegistry slots → i < length slots → old ≡ get_or slots i old → MayBecome old new → IsRegistry (set slots i new)
registry-set slots i old new registry within at becomes = record {
  few = subst (λ n. n ≤ slot_limit) (sym (length-set slots i new)) registry.few;
  one = λ name.
      let f : Slot → ℕ = λ s. cond (is_of name s) 1 0 in
      let was : f (get_or slots i old) ≡ f old = ap f (sym at) in
      let same : is_of name new ≡ (is_current new.phase && bytes_eq old.name name) = ap (λ n. is_current new.phase && bytes_eq n name) becomes.name in
      let less : f new ≤ f old = no_more (is_of name new) (is_of name old) (λ h. both (is_current new.phase) (is_current old.phase) (bytes_eq old.name name) becomes.current (sym same ∙ h)) in
      fewer (count_by (is_of name) slots) (count_by (is_of name) (set slots i new)) (f (get_or slots i old)) (f old) (f new) (sum_by-set f slots i new old within) was less (registry.one name);
  gone = All-set (λ (s : Slot). s.phase ≡ Gone → s.holders ≡ []) slots i new becomes.gone registry.gone;
  distinct = All-set (λ (s : Slot). IsDistinct same_holder s.holders) slots i new becomes.distinct registry.distinct;
}
  where
    fewer : (count next there was now : ℕ) → next + there ≡ count + now → there ≡ was → now ≤ was → count ≤ 1 → next ≤ 1
    fewer count next there was now e k h l = omega arith

-- A name that finds no slot may be installed.
pub registry-install : (name : List ℕ) (slots next : List Slot) → IsRegistry slots → length slots < slot_limit → slot_of name slots ≡ None → next ≡ after_install name slots → IsRegistry next
registry-install name slots next registry room free is = subst IsRegistry (sym is) (record {
  few = subst (λ n. n ≤ slot_limit) (sym (length_push slots new)) (omega arith);
  one = λ other.
      let f : Slot → ℕ = λ s. cond (is_of other s) 1 0 in
      subst (λ n. n ≤ 1) (sym (sum_by_push f slots new)) (elim (cases_Bool (bytes_eq name other)) [
        | inl same ↦
            let is : name ≡ other = (bytes_eq-Decides name other).0 same in
            only (count_by (is_of other) slots) (f new) (subst (λ (n : List ℕ). count_by (is_of n) slots ≡ 0) is (none_of name slots free)) (at_most (is_of other new))
        | inr apart ↦ still (count_by (is_of other) slots) (f new) (registry.one other) (cond-false (is_of other new) 1 0 apart)
      ]);
  gone = All-push (λ (s : Slot). s.phase ≡ Gone → s.holders ≡ []) slots new registry.gone (λ _. refl);
  distinct = All-push (λ (s : Slot). IsDistinct same_holder s.holders) slots new registry.distinct distinct-nobody;
})
  where
    new : Slot
    new = record { name = name; phase = Live; holders = [] }

    only : (count more : ℕ) → count ≡ 0 → more ≤ 1 → count + more ≤ 1
    only count more e h = omega arith

    still : (count more : ℕ) → count ≤ 1 → more ≡ 0 → count + more ≤ 1
    still count more h e = omega arith

    at_most : (b : Bool) → cond b 1 0 ≤ 1
    at_most true = omega arith
    at_most false = omega arith

-- what holds of each slot of a registry
record IsSlot (slot : Slot) : Type 0 where
  pub gone : slot.phase ≡ Gone → slot.holders ≡ []
  pub distinct : IsDistinct same_holder slot.holders

is_slot : (slots : List Slot) (i : ℕ) (slot : Slot) → IsRegistry slots → i < length slots → slot ≡ get_or slots i slot → IsSlot slot
is_slot slots i slot registry within at = record {
  gone = subst (λ (s : Slot). s.phase ≡ Gone → s.holders ≡ []) (sym at) (registry.gone i slot within);
  distinct = subst (λ (s : Slot). IsDistinct same_holder s.holders) (sym at) (registry.distinct i slot within);
}

-- A holder gets a live or dying slot.
pub registry-get : (holder : Holder) (slots : List Slot) (i : ℕ) (old new : Slot) → IsRegistry slots → i < length slots → old ≡ get_or slots i old
    → new ≡ got_by holder old → is_current old.phase ≡ true → IsRegistry (set slots i new)
registry-get holder slots i old new registry within at is current =
    registry-set slots i old new registry within at (subst (MayBecome old) (sym is) (record {
      name = refl;
      current = λ h. h;
      gone = λ h. absurd (not_gone old.phase h current);
      distinct = distinct-with holder old.holders (is_slot slots i old registry within at).distinct;
    }))
  where
    not_gone : (phase : Phase) → phase ≡ Gone → is_current phase ≡ true → ⊥
    not_gone Live e h = cc
    not_gone Dying e h = cc
    not_gone Gone e h = cc

-- A holder leaves a slot.
pub registry-leave : (holder : Holder) (slots : List Slot) (i : ℕ) (old new : Slot) → IsRegistry slots → i < length slots → old ≡ get_or slots i old
    → new ≡ left_by holder old → IsRegistry (set slots i new)
registry-leave holder slots i old new registry within at is =
    let slot = is_slot slots i old registry within at in
    registry-set slots i old new registry within at (subst (MayBecome old) (sym is) (record {
      name = refl;
      current = λ h. h;
      gone = λ h. ap (without_holder holder) (slot.gone h);
      distinct = distinct-without holder old.holders slot.distinct;
    }))

-- A live or dying slot comes to be dying.
pub registry-uninstall : (slots : List Slot) (i : ℕ) (old : Slot) → IsRegistry slots → i < length slots → old ≡ get_or slots i old
    → is_current old.phase ≡ true → IsRegistry (set slots i (in_phase Dying old))
registry-uninstall slots i old registry within at current =
    registry-set slots i old (in_phase Dying old) registry within at (record {
      name = refl;
      current = λ h. current;
      gone = λ h. cc;
      distinct = (is_slot slots i old registry within at).distinct;
    })

-- A slot to which nobody refers comes to be gone.
pub registry-reap : (slots : List Slot) (i : ℕ) (old : Slot) → IsRegistry slots → i < length slots → old ≡ get_or slots i old → old.holders ≡ [] → IsRegistry (set slots i (in_phase Gone old))
registry-reap slots i old registry within at nobody =
    registry-set slots i old (in_phase Gone old) registry within at (record {
      name = refl;
      current = λ h. cc;
      gone = λ h. nobody;
      distinct = (is_slot slots i old registry within at).distinct;
    })
