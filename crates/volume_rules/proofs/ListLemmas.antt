-- Lists that lie between two, and what is on a list of one or two.
use Rattle.std.proofs.Common.{◌≡◌, ◌⊎◌, inl, inr, ◌+◌, ℕ, zero, suc, ◌<◌, ◌≤◌, List, [], ◌∷◌, ◌++◌, length, Some, refl, sym, ◌∙◌, ap, subst, arith, append_assoc, length-append}
use Rattle.std.specs.Prelude.{Contains, All, slice_get}
use Rattle.std.proofs.lemmas.List.{append-nil}
use Rattle.std.proofs.lemmas.List.Elements.{All-cons, All-nil, All-contains}
use Rattle.framed_file.specs.Framed.{IsPrefix}

-- of all of a list of one
pub of_one : {X : Type 0} (P : X → Type 0) (x : X) → P x → All P (x ∷ [])
of_one P x p = All-cons P x [] p (All-nil P)

-- what is on a list of one
pub only_one : {X : Type 0} (x y : X) → Contains (x ∷ []) y → y ≡ x
only_one {X} x y h = All-contains (λ (z : X). z ≡ x) (x ∷ []) y (of_one (λ (z : X). z ≡ x) x refl) h

-- what is on a list of two
pub one_of_two : {X : Type 0} (a b y : X) → Contains (a ∷ b ∷ []) y → (y ≡ a) ⊎ (y ≡ b)
one_of_two {X} a b y h =
    let P = λ (z : X). (z ≡ a) ⊎ (z ≡ b) in
    All-contains P (a ∷ b ∷ []) y (All-cons P a (b ∷ []) (inl refl) (of_one P b (inr refl))) h

-- nothing is on an empty list
pub not_on_none : {X : Type 0} (x : X) → Contains [] x → ⊥
not_on_none x h = omega (arith, h.1)

-- nothing behind itself is nothing
none_behind : {X : Type 0} (xs ys : List X) → xs ≡ xs ++ ys → ys ≡ []
none_behind [] ys is = sym is
none_behind (x ∷ xs) ys is = none_behind xs ys (cc)

-- what begins with a list and begins it is that list
pub same_both : {X : Type 0} (xs ys : List X) → IsPrefix xs ys → IsPrefix ys xs → ys ≡ xs
same_both {X} xs ys more less = more.1 ∙ ap (λ (l : List X). xs ++ l) none ∙ append-nil xs
  where
    all : xs ≡ xs ++ (more.0 ++ less.0)
    all = less.1 ∙ ap (λ (l : List X). l ++ less.0) more.1 ∙ append_assoc xs more.0 less.0

    first : (l m : List X) → l ++ m ≡ [] → l ≡ []
    first [] m is = refl
    first (y ∷ l) m is = cc

    none : more.0 ≡ []
    none = first more.0 less.0 (none_behind xs (more.0 ++ less.0) all)

-- what lies between a list and the same with one more is the one or the other
pub one_or_more : {X : Type 0} (xs : List X) (x : X) (ys : List X) → IsPrefix xs ys → IsPrefix ys (xs ++ x ∷ []) → (ys ≡ xs) ⊎ (ys ≡ xs ++ x ∷ [])
one_or_more [] x [] more less = inl refl
one_or_more [] x (y ∷ []) more less = inr (ap (λ l. l ++ []) (first less.1))
  where
    first : x ∷ [] ≡ (y ∷ []) ++ less.0 → y ∷ [] ≡ x ∷ []
    first is = cc
one_or_more [] x (y ∷ z ∷ ys) more less = absurd (long less.1)
  where
    long : x ∷ [] ≡ (y ∷ z ∷ ys) ++ less.0 → ⊥
    long is = omega (arith, ap length is, length-append ys less.0)
one_or_more (a ∷ xs) x [] more less = absurd (long more.1)
  where
    long : [] ≡ (a ∷ xs) ++ more.0 → ⊥
    long is = cc
one_or_more {X} (a ∷ xs) x (y ∷ ys) more less =
    elim (one_or_more xs x ys (more.0, tails more.0 more.1) (less.0, behind less.0 less.1)) [
      | inl q ↦ inl (heads more.0 more.1 q)
      | inr q ↦ inr (heads_more q)
    ]
  where
    tails : (l : List X) → y ∷ ys ≡ (a ∷ xs) ++ l → ys ≡ xs ++ l
    tails l is = cc

    behind : (l : List X) → (a ∷ xs) ++ x ∷ [] ≡ (y ∷ ys) ++ l → xs ++ x ∷ [] ≡ ys ++ l
    behind l is = cc

    heads : (l : List X) → y ∷ ys ≡ (a ∷ xs) ++ l → ys ≡ xs → y ∷ ys ≡ a ∷ xs
    heads l is q = cc

    heads_more : ys ≡ xs ++ x ∷ [] → y ∷ ys ≡ (a ∷ xs) ++ x ∷ []
    heads_more q = let same : y ≡ a = head more.0 more.1 in cc
      where
        head : (l : List X) → y ∷ ys ≡ (a ∷ xs) ++ l → y ≡ a
        head l is = cc

-- where a list's last one stands
pub at_end : {X : Type 0} (xs : List X) (x : X) → slice_get (xs ++ x ∷ []) (length xs) ≡ Some x
at_end [] x = refl
at_end (y ∷ xs) x = at_end xs x
