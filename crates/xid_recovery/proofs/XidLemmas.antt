-- Sets of xids, and which xids are prepared.
use Rattle.std.proofs.Common.{◌≡◌, inl, inr, ℕ, zero, suc, ◌+◌, ◌<◌, ◌≤◌, List, [], ◌∷◌, Option, Some, Bool, true, false, cond, refl, sym, ap, ◌∙◌, arith, map, take, length, get_or}
use Rattle.std.specs.Prelude.{◌≢◌, ◌==◌, ◌||◌, ◌&&◌, not, is_some}
use Rattle.std.specs.BTreeSet.{BTreeSet, contains}
use Rattle.std.specs.BTreeMap.{is_at}
use Rattle.std.specs.List.{list_any}
use Rattle.std.specs.Ordering.{nat_cmp}
use Rattle.std.proofs.lemmas.Bool.{ne_eqb}
use Rattle.std.proofs.lemmas.Bool.Decides.{eqb_tells}
use Rattle.log_tables.specs.declared.gist.Prepared.{Prepared}
use Rattle.log_tables.specs.Gists.{prepared_with, is_prepared, without_xid}
use Rattle.log_tables.proofs.PartLemmas.{cond_true, cond_false}
use Rattle.xid_recovery.specs.Pairs.{has}
use Rattle.xid_recovery.specs.Running.{IsWithout}

-- numbers

pub eqb_same : (a : ℕ) → (a == a) ≡ true
eqb_same a = elim (eqb_tells a a) [ inl y ↦ y.0 | inr n ↦ absurd (n.1 refl) ]

pub eqb_flip : (a b : ℕ) → (a == b) ≡ (b == a)
eqb_flip a b = elim (eqb_tells a b) [
  | inl y ↦ y.0 ∙ sym (ap (λ x. b == x) y.1 ∙ eqb_same b)
  | inr n ↦ n.0 ∙ elim (eqb_tells b a) as (λ _. false ≡ (b == a)) [ inl y ↦ absurd (n.1 (sym y.1)) | inr m ↦ sym m.0 ]
]

pub at_is : (k q : ℕ) → is_at (nat_cmp k) q ≡ (q == k)
at_is k q = grind arith

-- lists of xids

pub has-next : (x : ℕ) (xs : List ℕ) (n d : ℕ) → n < length xs → has x (take (suc n) xs) ≡ ((get_or xs n d == x) || has x (take n xs))
has-next x [] n d h = absurd (omega (arith, h))
has-next x (y ∷ xs) zero d h = refl
has-next x (y ∷ xs) (suc n) d h = ap (λ b. (y == x) || b) (has-next x xs n d (omega (arith, h))) ∙ turn (y == x) (get_or xs n d == x) (has x (take n xs))
  where
    turn : (a b c : Bool) → (a || (b || c)) ≡ (b || (a || c))
    turn true true c = refl
    turn true false c = refl
    turn false b c = refl

-- what is prepared

some_or : {X : Type 0} (b : Bool) (x : X) (o : Option X) → is_some (cond b (Some x) o) ≡ (b || is_some o)
some_or true x o = refl
some_or false x o = refl

pub is_prepared-first : (x : ℕ) (p : Prepared) (ps : List Prepared) → is_prepared x (p ∷ ps) ≡ ((p.xid == x) || is_prepared x ps)
is_prepared-first x p ps = some_or (p.xid == x) p (prepared_with x ps)

pub is_prepared-has : (x : ℕ) (ps : List Prepared) → is_prepared x ps ≡ has x (map (λ p. p.xid) ps)
is_prepared-has x [] = refl
is_prepared-has x (p ∷ ps) = is_prepared-first x p ps ∙ ap (λ b. (p.xid == x) || b) (is_prepared-has x ps)

pub is_prepared-without : (x xid : ℕ) (ps : List Prepared) → is_prepared x (without_xid xid ps) ≡ (not (x == xid) && is_prepared x ps)
is_prepared-without x xid [] = none (x == xid)
  where
    none : (b : Bool) → false ≡ (not b && false)
    none true = refl
    none false = refl
is_prepared-without x xid (p ∷ ps) = elim (eqb_tells p.xid xid) [
  | inl same ↦
      ap (is_prepared x) (cond_false (not (p.xid == xid)) (p ∷ without_xid xid ps) (without_xid xid ps) (ap not same.0))
      ∙ is_prepared-without x xid ps
      ∙ gone (x == xid) (p.xid == x) (is_prepared x ps) (λ e. ap (λ y. y == x) same.1 ∙ eqb_flip xid x ∙ e)
      ∙ ap (λ b. not (x == xid) && b) (sym (is_prepared-first x p ps))
  | inr other ↦
      ap (is_prepared x) (cond_true (not (p.xid == xid)) (p ∷ without_xid xid ps) (without_xid xid ps) (ap not other.0))
      ∙ is_prepared-first x p (without_xid xid ps)
      ∙ ap (λ b. (p.xid == x) || b) (is_prepared-without x xid ps)
      ∙ stays (x == xid) (p.xid == x) (is_prepared x ps) (apart other.1)
      ∙ ap (λ b. not (x == xid) && b) (sym (is_prepared-first x p ps))
]
  where
    gone : (a b c : Bool) → (a ≡ false → b ≡ false) → (not a && c) ≡ (not a && (b || c))
    gone true b c h = refl
    gone false b c h = ap (λ y. y || c) (sym (h refl))

    stays : (a b c : Bool) → (a ≡ true → b ≡ false) → (b || (not a && c)) ≡ (not a && (b || c))
    stays true b c h = ap (λ y. y || false) (h refl)
    stays false b c h = refl

    apart : p.xid ≢ xid → (x == xid) ≡ true → (p.xid == x) ≡ false
    apart other e = elim (eqb_tells x xid) [
      | inl y ↦ ne_eqb p.xid x (λ q. other (q ∙ y.1))
      | inr n ↦ absurd (let m = n.0 in let z = e in cc)
    ]

take_all : {X : Type 0} (xs : List X) (n : ℕ) → length xs ≤ n → take n xs ≡ xs
take_all [] zero h = refl
take_all [] (suc n) h = refl
take_all (x ∷ xs) zero h = absurd (omega (arith, h))
take_all (x ∷ xs) (suc n) h = ap (λ ys. x ∷ ys) (take_all xs n (omega (arith, h)))

pub has-whole : (x : ℕ) (xs : List ℕ) (n : ℕ) → length xs ≤ n → has x (take n xs) ≡ has x xs
has-whole x xs n h = ap (has x) (take_all xs n h)

pub pairs-whole : (pairs : List (ℕ × ℕ)) (n : ℕ) → length pairs ≤ n → take n pairs ≡ pairs
pairs-whole pairs n h = take_all pairs n h

or_is : (b c : Bool) → cond b true c ≡ (b || c)
or_is true c = refl
or_is false c = refl

and_is : (b c : Bool) → cond b false c ≡ (not b && c)
and_is true c = refl
and_is false c = refl

-- One xid more of a list is in the set.
pub inserted : (left new : BTreeSet ℕ) (xs : List ℕ) (n key : ℕ) → key ≡ get_or xs n 0 → n < length xs → ((x : ℕ) → contains nat_cmp left x ≡ has x (take n xs))
    → ((q : ℕ) → contains nat_cmp new q ≡ cond (is_at (nat_cmp key) q) true (contains nat_cmp left q)) → (x : ℕ) → contains nat_cmp new x ≡ has x (take (n + 1) xs)
inserted left new xs n key is lt so_far goes x =
    let one : suc n ≡ n + 1 = omega arith in
    goes x ∙ ap (λ b. cond b true (contains nat_cmp left x)) (at_is key x ∙ eqb_flip x key) ∙ or_is (key == x) (contains nat_cmp left x)
    ∙ ap (λ b. (key == x) || b) (so_far x) ∙ ap (λ k. (k == x) || has x (take n xs)) is ∙ sym (has-next x xs n 0 lt) ∙ ap (λ k. has x (take k xs)) one

-- One xid was taken out of the set.
pub removed : (left new : BTreeSet ℕ) (key : ℕ) → ((q : ℕ) → contains nat_cmp new q ≡ cond (is_at (nat_cmp key) q) false (contains nat_cmp left q)) → IsWithout key left new
removed left new key goes x = goes x ∙ ap (λ b. cond b false (contains nat_cmp left x)) (at_is key x) ∙ and_is (x == key) (contains nat_cmp left x)

pub empty-has : (set : BTreeSet ℕ) (xs : List ℕ) → set.keys ≡ [] → (x : ℕ) → contains nat_cmp set x ≡ has x (take 0 xs)
empty-has set xs none x = ap (list_any (is_at (nat_cmp x))) none
