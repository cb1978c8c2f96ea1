-- How a number from 1 on is printed and read.
use Rattle.std.proofs.Common.{◌≡◌, ◌≢◌, ◌≤◌, ◌<◌, ◌^◌, ℕ, zero, suc, List, get_or, Bool, true, false, Option, Result, Ok, Err, None, Some}
use Rattle.std.proofs.Common.{MatchOption, sym, ap, subst, ◌∙◌, arith}
use Rattle.std.specs.Prelude.{MatchResult}
use Rattle.std.specs.Fmt.{decimal}
use Rattle.std.specs.Str.{IsUtf8}
use Rattle.std.specs.Str.Parse.{AllDigits, digits_value, ParsesUnsigned}
use Rattle.std.specs.Result.{result_ok}
use Rattle.std.proofs.lemmas.Str.{IsUtf8-from_ascii}
use Rattle.std.proofs.lemmas.Str.Parse.{IsNumeralModel, numerals_by_value, tells_digits, parse_plain}
use Rattle.std.proofs.lemmas.Fmt.{decimal_digit, first_decimal, decimal-digits_value, decimal_injective, parse-decimal, IsAscii-decimal}
use Rattle.schedule_text.specs.Lines.{IsUpTo}

-- std's words for digits and their value
pub own : IsNumeralModel (AllDigits 10) (digits_value 10)
own = numerals_by_value (AllDigits 10) tells_digits

-- an answer that is None has what is said of None
pub none_has : {T : Type 0} (P : Type 0) (Q : T → Type 0) (r : Option T) → r ≡ None → P → MatchOption r P Q
none_has {T} P Q r is p = subst (λ (o : Option T). MatchOption o P Q) (sym is) p

-- what begins with no digit above zero is no number from 1 on
pub not_printed : (b : Bool) (bs : List ℕ) → b ≡ false → (48 < get_or bs 0 0 → b ≡ true) → (number : ℕ) → IsUpTo 4294967295 number
    → bs ≢ decimal number
not_printed b bs no_ starts number up is =
    let first : 48 < get_or (decimal number) 0 0 = first_decimal number (omega (arith, up.0)) (omega (arith, up.1)) in
    let here : 48 < get_or bs 0 0 = subst (λ (l : List ℕ). 48 < get_or l 0 0) (sym is) first in
    let both : b ≡ true = starts here in
    cc

-- what begins with a digit above zero is printed of no zero
above_zero : (number : ℕ) (bs : List ℕ) → bs ≡ decimal number → 48 < get_or bs 0 0 → 1 ≤ number
above_zero zero bs is starts =
    let first : get_or bs 0 0 ≡ 48 = ap (λ (l : List ℕ). get_or l 0 0) (is ∙ decimal_digit 0 (omega arith)) in
    absurd (omega arith)
above_zero (suc n) bs is starts = omega arith

-- what is read of a text that begins with a digit above zero
abbrev pub Reads : {E : Type 0} → List ℕ → Result ℕ E → Type 0
Reads bs r = MatchResult r (λ number. IsUpTo 4294967295 number × (bs ≡ decimal number))
    (λ _. (number : ℕ) → IsUpTo 4294967295 number → bs ≢ decimal number)

-- such a text is read just where it is printed of a number
pub number_read : {E : Type 0} (bs : List ℕ) (r : Result ℕ E) → 48 < get_or bs 0 0 → ParsesUnsigned 32 10 bs r → Reads bs r
number_read bs (Err e) starts h =
    λ number up is. let got = parse-decimal 32 number bs (Err e) (omega (arith, up.1)) (omega (arith, up.1)) is h in cc
number_read {E} bs (Ok number) starts h =
    let p = parse_plain own {E = E} 32 bs (Ok number) h (λ e. omega arith) in
    let printed : decimal (digits_value 10 bs) ≡ bs =
    decimal-digits_value own bs p.0.0 p.0.1 (λ is. absurd (omega arith)) (omega (arith, p.0.2)) in
    let whole : bs ≡ decimal number = sym printed ∙ ap decimal (sym p.1) in
    ((above_zero number bs whole starts, omega (arith, p.0.2, p.1)), whole)

-- the same of the value in an Ok
pub number_ok : {E : Type 0} (bs digits : List ℕ) (r : Result ℕ E) (o : Option ℕ) → o ≡ result_ok r → bs ≡ digits → Reads bs r
    → MatchOption o ((number : ℕ) → IsUpTo 4294967295 number → digits ≢ decimal number)
    (λ number. IsUpTo 4294967295 number × (digits ≡ decimal number))
number_ok bs digits (Ok n) None is same h = cc
number_ok bs digits (Ok n) (Some m) is same h =
    let one : m ≡ n = cc in
    subst (λ (k : ℕ). IsUpTo 4294967295 k × (digits ≡ decimal k)) (sym one) (h.0, sym same ∙ h.1)
number_ok bs digits (Err e) None is same h = λ number up e. h number up (same ∙ e)
number_ok bs digits (Err e) (Some m) is same h = cc

-- bytes that are no text are no printed number
pub no_text : {T E U : Type 0} (A : T → Type 0) (B : E → Type 0) (r : Result T E) (o : Option T) → o ≡ result_ok r → o ≡ None
    → MatchResult r A (λ e. (U → ⊥) × B e) → U → ⊥
no_text A B (Ok x) o is none h u = cc
no_text A B (Err e) o is none h u = h.0 u

-- what is said of the value in an Ok
pub ok_has : {T E : Type 0} (A : T → Type 0) (B : E → Type 0) (r : Result T E) (o : Option T) (x : T) → o ≡ result_ok r → o ≡ Some x
    → MatchResult r A B → A x
ok_has {T} A B (Ok y) o x is some h = let one : y ≡ x = cc in subst (λ (z : T). A z) one h
ok_has A B (Err e) o x is some h = cc

-- a printed number is a text
pub printed_text : (bs : List ℕ) (number : ℕ) → number < 2 ^ 32 → bs ≡ decimal number → IsUtf8 bs
printed_text bs number small is = subst (λ (l : List ℕ). IsUtf8 l) (sym is)
    (IsUtf8-from_ascii (decimal number) (IsAscii-decimal number (omega (arith, small))))

-- a number that is printed so is the one that was read, so it is none up to a lesser one
pub past_most : (bs : List ℕ) (most read : ℕ) → IsUpTo 4294967295 read × (bs ≡ decimal read) → most < read → (number : ℕ)
    → IsUpTo most number → bs ≢ decimal number
past_most bs most read is past number up e =
    let same : read ≡ number = decimal_injective read number (omega (arith, is.0.1)) (omega (arith, up.1, past, is.0.1)) (sym is.1 ∙ e) in
    omega (arith, up.1, same)
