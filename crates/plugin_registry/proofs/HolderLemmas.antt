-- Holders are told apart, and none comes to stand twice.
use Rattle.std.proofs.Common.{◌≡◌, List, [], ◌∷◌, ◌++◌, Bool, true, false, refl, sym, subst, inl, inr}
use Rattle.std.specs.Prelude.{not, filter}
use Rattle.std.specs.List.{IsDistinct, AllByRecursion}
use Rattle.std.specs.Cmp.{IsEquivalence}
use Rattle.std.proofs.lemmas.Bool.{cases_Bool, cond-true, cond-false}
use Rattle.std.proofs.lemmas.Cmp.{nat_eq_equiv, nat_list_eq_equiv}
use Rattle.std.proofs.lemmas.Map.Keys.{IsDistinct-head, IsDistinct-tail, IsDistinct-cons, IsDistinct-push}
use Rattle.plugin_registry.specs.declared.holder.Holder.{Holder}
use Rattle.plugin_registry.specs.declared.holder.Holder.TheVariants.{Session, Idle}
use Rattle.plugin_registry.specs.Holders.{same_holder, refers, with_holder, without_holder}

reflexive : (x : Holder) → same_holder x x ≡ true
reflexive (Session n) = nat_eq_equiv.refl n
reflexive (Idle t) = nat_list_eq_equiv.refl t

symmetric : (x y : Holder) → same_holder x y ≡ same_holder y x
symmetric (Session m) (Session n) = nat_eq_equiv.symm m n
symmetric (Session m) (Idle t) = refl
symmetric (Idle s) (Session n) = refl
symmetric (Idle s) (Idle t) = nat_list_eq_equiv.symm s t

alike : (x y z : Holder) → same_holder x y ≡ true → same_holder x z ≡ same_holder y z
alike (Session l) (Session m) (Session n) h = nat_eq_equiv.congr l m n h
alike (Session l) (Session m) (Idle t) h = refl
alike (Session l) (Idle s) z h = cc
alike (Idle r) (Session m) z h = cc
alike (Idle r) (Idle s) (Session n) h = refl
alike (Idle r) (Idle s) (Idle t) h = nat_list_eq_equiv.congr r s t h

pub same_holder_equiv : IsEquivalence same_holder
same_holder_equiv = record { refl = reflexive; symm = symmetric; congr = alike }

-- what holds of each holder holds of each that a filter keeps
each-filter : (P : Holder → Type 0) (p : Holder → Bool) (xs : List Holder) → AllByRecursion P xs → AllByRecursion P (filter p xs)
each-filter P p [] h = tt
each-filter P p (x ∷ xs) h = elim (cases_Bool (p x)) [
  | inl passes ↦ subst (AllByRecursion P) (sym (cond-true (p x) (x ∷ filter p xs) (filter p xs) passes)) (h.0, each-filter P p xs h.1)
  | inr fails ↦ subst (AllByRecursion P) (sym (cond-false (p x) (x ∷ filter p xs) (filter p xs) fails)) (each-filter P p xs h.1)
]

distinct-filter : (p : Holder → Bool) (xs : List Holder) → IsDistinct same_holder xs → IsDistinct same_holder (filter p xs)
distinct-filter p [] h = h
distinct-filter p (x ∷ xs) h =
    let rest = distinct-filter p xs (IsDistinct-tail same_holder x xs h) in
    elim (cases_Bool (p x)) [
      | inl passes ↦
          subst (IsDistinct same_holder) (sym (cond-true (p x) (x ∷ filter p xs) (filter p xs) passes))
          (IsDistinct-cons same_holder x (filter p xs) (each-filter (λ y. same_holder x y ≡ false) p xs (IsDistinct-head same_holder x xs h)) rest)
      | inr fails ↦ subst (IsDistinct same_holder) (sym (cond-false (p x) (x ∷ filter p xs) (filter p xs) fails)) rest
    ]

-- A holder that leaves does not make another one stand twice.
pub distinct-without : (holder : Holder) (xs : List Holder) → IsDistinct same_holder xs → IsDistinct same_holder (without_holder holder xs)
distinct-without holder xs h = distinct-filter (λ it. not (same_holder holder it)) xs h

-- A holder that comes does not stand twice.
pub distinct-with : (holder : Holder) (xs : List Holder) → IsDistinct same_holder xs → IsDistinct same_holder (with_holder holder xs)
distinct-with holder xs h = elim (cases_Bool (refers holder xs)) [
  | inl passes ↦ subst (IsDistinct same_holder) (sym (cond-true (refers holder xs) xs (xs ++ holder ∷ []) passes)) h
  | inr fails ↦ subst (IsDistinct same_holder) (sym (cond-false (refers holder xs) xs (xs ++ holder ∷ []) fails)) (IsDistinct-push same_holder_equiv xs holder h fails)
]

-- Nobody stands twice among nobody.
pub distinct-nobody : IsDistinct same_holder []
unfolding IsDistinct
distinct-nobody = tt
