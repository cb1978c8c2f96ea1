-- First parts of lists.
use Rattle.std.proofs.Common.{◌≡◌, ◌⊎◌, inl, inr, ⊎_elim, ℕ, ◌≤◌, List, [], ◌∷◌, ◌++◌, length, refl, sym, ◌∙◌, ap, arith, append_assoc, length-append}
use Rattle.std.proofs.lemmas.Bool.{cases_eq}
use Rattle.std.proofs.lemmas.List.{append-nil}
use Rattle.framed_file.specs.Framed.{IsPrefix}

pub prefix_refl : {A : Type 0} (xs : List A) → IsPrefix xs xs
prefix_refl xs = ([], sym (append-nil xs))

pub prefix_nil : {A : Type 0} (xs : List A) → IsPrefix [] xs
prefix_nil xs = (xs, refl)

pub prefix_push : {A : Type 0} (xs : List A) (x : A) → IsPrefix xs (xs ++ x ∷ [])
prefix_push xs x = (x ∷ [], refl)

pub prefix_trans : {A : Type 0} (xs ys zs : List A) → IsPrefix xs ys → IsPrefix ys zs → IsPrefix xs zs
prefix_trans {A} xs ys zs first second =
    (first.0 ++ second.0, second.1 ∙ ap (λ (l : List A). l ++ second.0) first.1 ∙ append_assoc xs first.0 second.0)

pub prefix-length : {A : Type 0} (xs ys : List A) → IsPrefix xs ys → length xs ≤ length ys
prefix-length xs ys is = omega (arith, ap length is.1, length-append xs is.0)

-- of two first parts of one list one is a first part of the other
pub prefixes_meet : {A : Type 0} (xs ys zs : List A) → IsPrefix xs zs → IsPrefix ys zs → IsPrefix xs ys ⊎ IsPrefix ys xs
prefixes_meet [] ys zs first second = inl (ys, refl)
prefixes_meet (x ∷ xs) [] zs first second = inr (x ∷ xs, refl)
prefixes_meet (x ∷ xs) (y ∷ ys) [] first second = let e = first.1 in cc
prefixes_meet {A} (x ∷ xs) (y ∷ ys) (z ∷ zs) first second =
    let e = first.1 in
    let f = second.1 in
    let same : x ≡ y = cc in
    let more_x : zs ≡ xs ++ first.0 = cc in
    let more_y : zs ≡ ys ++ second.0 = cc in
    ⊎_elim
    (λ is. inl (is.0, ap (λ (l : List A). y ∷ l) is.1 ∙ ap (λ (a : A). a ∷ (xs ++ is.0)) (sym same)))
    (λ is. inr (is.0, ap (λ (l : List A). x ∷ l) is.1 ∙ ap (λ (a : A). a ∷ (ys ++ is.0)) same))
    (prefixes_meet xs ys zs (first.0, more_x) (second.0, more_y))

-- whether bytes begin with some bytes can be told
pub starts_or_not : (xs ys : List ℕ) → IsPrefix xs ys ⊎ (IsPrefix xs ys → ⊥)
starts_or_not [] ys = inl (ys, refl)
starts_or_not (x ∷ xs) [] = inr (λ is. let e = is.1 in cc)
starts_or_not (x ∷ xs) (y ∷ ys) = ⊎_elim
    (λ same. ⊎_elim
    (λ is. inl (is.0, ap (λ (l : List ℕ). y ∷ l) is.1 ∙ ap (λ (a : ℕ). a ∷ (xs ++ is.0)) (sym same)))
    (λ not. inr (λ is. let e = is.1 in let more : ys ≡ xs ++ is.0 = cc in not (is.0, more)))
    (starts_or_not xs ys))
    (λ differ. inr (λ is. let e = is.1 in let same : x ≡ y = cc in differ same))
    (cases_eq x y)
