-- The digits of a number, written from the last to the first.
use Rattle.std.proofs.Common.{◌≡◌, ◌≤◌, ◌<◌, ◌+◌, ◌/◌, ◌%◌, ◌^◌, ℕ, List, [], ◌∷◌, ◌++◌, length, sym, ap, ◌∙◌, arith, append_assoc, length-append}
use Rattle.std.specs.Fmt.{decimal}
use Rattle.std.proofs.lemmas.Fmt.{decimal_step, decimal_digit, decimal_nonempty, length-decimal-le}

-- the last digit stands before what is written
pub digit_put_is : (rest : ℕ) (tail new : List ℕ) → new ≡ (48 + rest % 10) ∷ tail → 10 ≤ rest → rest < 2 ^ 64 → decimal (rest / 10) ++ new ≡ decimal rest ++ tail
digit_put_is rest tail new is two fits =
    ap (λ (l : List ℕ). decimal (rest / 10) ++ l) is ∙ sym (append_assoc (decimal (rest / 10)) ((48 + rest % 10) ∷ []) tail)
    ∙ ap (λ (l : List ℕ). l ++ tail) (sym (decimal_step rest two fits))

-- the one digit that is left
pub last_put : (rest : ℕ) (tail : List ℕ) → rest < 10 → (48 + rest) ∷ tail ≡ decimal rest ++ tail
last_put rest tail one = ap (λ (l : List ℕ). l ++ tail) (sym (decimal_digit rest one))

-- there is room for one more while digits are left
pub room_left : (rest number : ℕ) (tail start : List ℕ) → rest < 2 ^ 64 → number < 2 ^ 64 → decimal rest ++ tail ≡ decimal number ++ start → 20 + length start ≤ 37 → length tail < 37
room_left rest number tail start fits small same room =
    let one : 0 < length (decimal rest) = decimal_nonempty rest fits in
    let most : length (decimal number) ≤ 20 = length-decimal-le 20 number (omega arith) (omega arith) small in
    let all : length (decimal rest ++ tail) ≡ length (decimal number ++ start) = ap length same in
    omega (arith, one, most, all, length-append (decimal rest) tail, length-append (decimal number) start)

-- there is room for the front
pub room_before : (front : List ℕ) (number : ℕ) (none feed digits : List ℕ) → number < 2 ^ 64 → length front ≤ 16 → none ≡ [] → feed ≡ 10 ∷ none → digits ≡ decimal number ++ feed → length front + length digits ≤ 37
room_before front number none feed digits small short a b e =
    let most : length (decimal number) ≤ 20 = length-decimal-le 20 number (omega arith) (omega arith) small in
    omega (arith, short, most, ap length a, ap length b, ap length e, length-append (decimal number) feed)
