-- The tokens of a text, one by one.
use Rattle.std.proofs.Common.{◌<◌, take, slice_index, length-take, ◌≡◌, ℕ, zero, suc, ◌+◌, ◌-◌, ◌≤◌, List, [], ◌∷◌, length, drop, true, false, refl, sym, ap, ◌∙◌, arith, add-zero}
use Rattle.std.specs.List.{prefix_len}
use Rattle.std.proofs.lemmas.List.Sums.{prefix_len_passes}
use Rattle.std.proofs.lemmas.List.{get_or-take}
use Rattle.sql_text.specs.Numbers.{AreDigits}
use Rattle.sql_text.specs.declared.lexeme.Class.TheVariants.{Blank, Digit}
use Rattle.sql_text.specs.declared.lexeme.Lexeme.{Lexeme}
use Rattle.sql_text.specs.Lexemes.{is_in, lexeme_at, is_last}
use Rattle.sql_text.specs.Tokens.{token, tokens_from}
use Rattle.sql_text.proofs.QuotedLemmas.{drop-cons}

tokens_from-drop : (e : Lexeme) (n at : ℕ) (bs : List ℕ) → n ≤ length bs → tokens_from e n at bs ≡ tokens_from e 0 (at + n) (drop n bs)
tokens_from-drop e zero at bs h = ap (λ a. tokens_from e 0 a bs) (sym (add-zero at))
tokens_from-drop e (suc n) at [] h = absurd (omega arith)
tokens_from-drop e (suc n) at (b ∷ bs) h =
    let same : at + 1 + n ≡ at + suc n = omega arith in
    tokens_from-drop e n (at + 1) bs (omega arith) ∙ ap (λ a. tokens_from e 0 a (drop n bs)) same

pub tokens_blank : (e : Lexeme) (at : ℕ) (rest : List ℕ) → 1 ≤ length rest → is_in Blank (slice_index rest 0) ≡ true → tokens_from e 0 at rest ≡ tokens_from e 0 (at + 1) (drop 1 rest)
tokens_blank e at [] some blank = absurd (omega arith)
tokens_blank e at (b ∷ bs) some blank = rw blank refl

pub tokens_none : (e : Lexeme) (at : ℕ) (rest : List ℕ) → length rest < 1 → tokens_from e 0 at rest ≡ token at e ∷ []
tokens_none e at [] none = refl
tokens_none e at (b ∷ bs) none = absurd (omega arith)

pub tokens_last : (e : Lexeme) (at : ℕ) (rest : List ℕ) (l : Lexeme) (n : ℕ) → 1 ≤ length rest → is_in Blank (slice_index rest 0) ≡ false → lexeme_at at rest ≡ (l, n) → is_last l ≡ true → tokens_from e 0 at rest ≡ token at l ∷ []
tokens_last e at [] l n some word is last = absurd (omega arith)
tokens_last e at (b ∷ bs) l n some word is last = rw (word, is, last) refl

pub tokens_more : (e : Lexeme) (at : ℕ) (rest : List ℕ) (l : Lexeme) (n : ℕ) → 1 ≤ length rest → is_in Blank (slice_index rest 0) ≡ false → lexeme_at at rest ≡ (l, n) → is_last l ≡ false → 1 ≤ n → n ≤ length rest → tokens_from e 0 at rest ≡ token at l ∷ tokens_from e 0 (at + n) (drop n rest)
tokens_more e at [] l n some word is more moves within = absurd (omega arith)
tokens_more e at (b ∷ bs) l n some word is more moves within =
    let same : at + 1 + (n - 1) ≡ at + n = omega arith in
    let behind = tokens_from-drop e (n - 1) (at + 1) bs (omega arith) in
    let moved = behind ∙ ap (λ a. tokens_from e 0 a (drop (n - 1) bs)) same ∙ ap (tokens_from e 0 (at + n)) (drop-cons n b bs moves) in
    rw (word, is, more) (ap (λ ts. token at l ∷ ts) moved)

-- each byte of a run of digits is a digit
pub run_of_digits : (bytes : List ℕ) (n : ℕ) → n ≡ prefix_len (is_in Digit) bytes → AreDigits (take n bytes)
run_of_digits bytes n is k within =
    let below : k < n = omega (arith, length-take n bytes) in
    rw (get_or-take n bytes k 0 below) (prefix_len_passes (is_in Digit) bytes k 0 (omega arith))
