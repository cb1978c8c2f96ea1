-- The first space of a text.
use Rattle.std.proofs.Common.{◌≡◌, ◌≢◌, ◌≤◌, ◌<◌, ◌+◌, ◌-◌, ◌^◌, ℕ, suc, List, [], ◌∷◌, ◌++◌, get_or, length, take, drop, Bool}
use Rattle.std.proofs.Common.{true, false, not, nat_eq, nat_lt, cond, Option, None, Some, refl, sym, ap, subst, ◌∙◌, arith, length-drop}
use Rattle.std.specs.Prelude.{position}
use Rattle.std.specs.List.{position_or_len}
use Rattle.std.specs.Fmt.{decimal}
use Rattle.std.specs.Str.Parse.{AllDigits}
use Rattle.std.proofs.lemmas.Bool.Decides.{nat_tests}
use Rattle.std.proofs.lemmas.Option.{cond_some}
use Rattle.std.proofs.lemmas.List.{take_all}
use Rattle.std.proofs.lemmas.List.Sums.{passes_at_first, split_at_first}
use Rattle.std.proofs.lemmas.Str.Parse.{digit_from_value}
use Rattle.std.proofs.lemmas.Fmt.{digits_decimal}
use Rattle.schedule_text.specs.Inside.{HasNoSpace}
use Rattle.schedule_text.proofs.NumberLemmas.{own}

-- digits have no space
no_space_digits : (ds : List ℕ) → AllDigits 10 ds → HasNoSpace ds
no_space_digits [] all = tt
no_space_digits (c ∷ cs) all = ((λ is. let range = digit_from_value c all.0 in omega (arith, range)), no_space_digits cs all.1)

-- nor has a printed number
pub no_space_printed : (number : ℕ) → number < 2 ^ 32 → HasNoSpace (decimal number)
no_space_printed number small = no_space_digits (decimal number) (digits_decimal own number (omega (arith, small)))

-- the first spaces of two equal texts stand at one place
pub space_apart : (a c b d : List ℕ) → HasNoSpace a → HasNoSpace b → a ++ 32 ∷ c ≡ b ++ 32 ∷ d → (a ≡ b) × (c ≡ d)
space_apart [] c [] d na nb e = (refl, cc)
space_apart [] c (y ∷ b) d na nb e = absurd (nb.0 (cc))
space_apart (x ∷ a) c [] d na nb e = absurd (na.0 (cc))
space_apart (x ∷ a) c (y ∷ b) d na nb e =
    let tails : a ++ 32 ∷ c ≡ b ++ 32 ∷ d = cc in
    let rest : (a ≡ b) × (c ≡ d) = space_apart a c b d na.1 nb.1 tails in
    let heads : x ≡ y = cc in
    (cc, rest.1)

-- no space stands in a text that has none
pub no_space_here : (bs a c : List ℕ) → HasNoSpace bs → bs ≢ a ++ 32 ∷ c
no_space_here [] [] c none e = cc
no_space_here [] (x ∷ a) c none e = cc
no_space_here (b ∷ bs) [] c none e = none.0 (cc)
no_space_here (b ∷ bs) (x ∷ a) c none e = let tails : bs ≡ a ++ 32 ∷ c = cc in no_space_here bs a c none.1 tails

-- one byte more
no_space_step : (x : ℕ) (xs : List ℕ) (b : Bool) → nat_eq x 32 ≡ b → HasNoSpace (take (position_or_len (λ b. nat_eq b 32) xs) xs)
    → HasNoSpace (take (cond (not b) (1 + position_or_len (λ b. nat_eq b 32) xs) 0) (x ∷ xs))
no_space_step x xs true e rest = tt
no_space_step x xs false e rest =
    let one : suc (position_or_len (λ b. nat_eq b 32) xs) ≡ 1 + position_or_len (λ b. nat_eq b 32) xs = omega arith in
    subst (λ (k : ℕ). HasNoSpace (take k (x ∷ xs))) one ((λ is. let both : nat_eq x 32 ≡ true = grind (arith, nat_tests) in cc), rest)

-- what stands before the first space has none
no_space_before : (xs : List ℕ) → HasNoSpace (take (position_or_len (λ b. nat_eq b 32) xs) xs)
no_space_before [] = tt
no_space_before (x ∷ xs) = no_space_step x xs (nat_eq x 32) refl (no_space_before xs)

none_past : (n len : ℕ) → cond (nat_lt n len) (Some n) None ≡ None → len ≤ n
none_past n len is = grind (arith, nat_tests)

-- where no space is found there is none
pub none_found : (bs : List ℕ) (r : Option ℕ) → r ≡ position (λ b. nat_eq b 32) bs → r ≡ None → HasNoSpace bs
none_found bs r is none =
    let past : length bs ≤ position_or_len (λ b. nat_eq b 32) bs = none_past _ _ (sym is ∙ none) in
    subst (λ (l : List ℕ). HasNoSpace l) (take_all _ bs past) (no_space_before bs)

lt_true : (n m : ℕ) → nat_lt n m ≡ true → n < m
lt_true n m is = grind (arith, nat_tests)

eq_true : (n m : ℕ) → nat_eq n m ≡ true → n ≡ m
eq_true n m is = grind (arith, nat_tests)

-- the parts at the first space
pub parts_found : (bs : List ℕ) (r : Option ℕ) (at : ℕ) → r ≡ position (λ b. nat_eq b 32) bs → r ≡ Some at
    → HasNoSpace (take at bs) × (bs ≡ take at bs ++ 32 ∷ take (length bs - (at + 1)) (drop (at + 1) bs))
parts_found bs r at is some =
    let found = cond_some _ _ _ (sym is ∙ some) in
    let place : position_or_len (λ b. nat_eq b 32) bs ≡ at = found.1 in
    let within : position_or_len (λ b. nat_eq b 32) bs < length bs = lt_true _ _ found.0 in
    let space : get_or bs (position_or_len (λ b. nat_eq b 32) bs) 0 ≡ 32 = eq_true _ _ (passes_at_first (λ b. nat_eq b 32) bs 0 within) in
    let whole : bs ≡ take (position_or_len (λ b. nat_eq b 32) bs) bs ++ 32 ∷ drop (position_or_len (λ b. nat_eq b 32) bs + 1) bs =
    split_at_first (λ b. nat_eq b 32) bs 0 within
    ∙ ap (λ (d : ℕ). take (position_or_len (λ b. nat_eq b 32) bs) bs ++ d ∷ drop (position_or_len (λ b. nat_eq b 32) bs + 1) bs) space in
    let moved : bs ≡ take at bs ++ 32 ∷ drop (at + 1) bs = subst (λ (k : ℕ). bs ≡ take k bs ++ 32 ∷ drop (k + 1) bs) place whole in
    let all : take (length bs - (at + 1)) (drop (at + 1) bs) ≡ drop (at + 1) bs = take_all _ _ (omega (arith, length-drop (at + 1) bs)) in (
      subst (λ (k : ℕ). HasNoSpace (take k bs)) place (no_space_before bs),
      moved ∙ ap (λ (l : List ℕ). take at bs ++ 32 ∷ l) (sym all),
    )
