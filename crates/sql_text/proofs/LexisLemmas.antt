-- The lexeme at the front of bytes is the one that the lexical grammar has there.
use Rattle.std.proofs.Common.{◌≡◌, ◌⊎◌, ◌≤◌, ◌<◌, ◌||◌, ◌==◌, nat_le, ℕ, ◌+◌, Bool, true, false, List, [], ◌∷◌, ◌++◌, length, length-append, Option, Some, None, refl, sym, ap, ◌∙◌, subst, inl, inr, arith, append_assoc}
use Rattle.std.proofs.Math.Seq.{take-append_seam}
use Rattle.std.proofs.lemmas.Bool.{and_parts, eqb-true, leb-true}
use Rattle.std.proofs.lemmas.List.{append-nil}
use Rattle.std.specs.Int.{is_in_range}
use Rattle.std.specs.List.{prefix_len}
use Rattle.sql_text.specs.declared.lexeme.Class.{Class}
use Rattle.sql_text.specs.declared.lexeme.Class.TheVariants.{Digit, Letter, Word}
use Rattle.sql_text.specs.declared.lexeme.Lexeme.{Lexeme}
use Rattle.sql_text.specs.declared.lexeme.Lexeme.TheVariants.{Text, Minus, BadText}
use Rattle.sql_text.specs.declared.quoted.Piece.TheVariants.{Byte, End, Fault}
use Rattle.sql_text.specs.declared.quoted.Quoted.{Quoted}
use Rattle.sql_text.specs.declared.quoted.Quoted.TheVariants.{Closed, Faulty}
use Rattle.sql_text.specs.Lexemes.{is_in, is_last, is_tight, lexeme_at, number_lexeme, quoted_lexeme, sign_lexeme, word_lexeme}
use Rattle.sql_text.specs.Lexis.{AreIn, BeginsNoEscape, BeginsNoQuote, BeginsOther, IsFaulty, IsLexeme, IsWritten}
use Rattle.sql_text.specs.Lexis.IsLexeme.{word as a_word, number as a_number, text as a_text, faulty as a_fault, minus as a_minus, sign as a_sign}
use Rattle.sql_text.specs.Lexis.IsWritten.{nothing, plain, doubled, escaped}
use Rattle.sql_text.specs.Quoted.{escape_of, escaped_piece, piece_at, quoted_at, quoted_from, with_byte}
use Rattle.sql_text.proofs.QuotedLemmas.{quoted_byte, quoted_end, quoted_fault}

-- ---- texts

plain_piece : (b : ℕ) (bs : List ℕ) → (b == 39) ≡ false → (b == 92) ≡ false → piece_at (b ∷ bs) ≡ Byte b 1
plain_piece b [] no_quote no_backslash = rw (no_quote, no_backslash) refl
plain_piece b (c ∷ bs) no_quote no_backslash = rw (no_quote, no_backslash) refl

end_piece : (behind : List ℕ) → BeginsNoQuote behind → piece_at (39 ∷ behind) ≡ End
end_piece [] other = refl
end_piece (c ∷ cs) other = rw other refl

no_escape : (bs : List ℕ) → BeginsNoEscape bs → piece_at (92 ∷ bs) ≡ Fault
no_escape [] none = refl
no_escape (c ∷ cs) none = ap escaped_piece none

faulty_piece : (fault : List ℕ) → IsFaulty fault → piece_at fault ≡ Fault
faulty_piece [] is = refl
faulty_piece (b ∷ bs) (backslash, none) = ap (λ c. piece_at (c ∷ bs)) backslash ∙ no_escape bs none

-- what stands behind a byte of the text, with it
abbrev with_bytes : ℕ → ℕ → Quoted → Quoted
with_bytes b n q = with_byte b n q

closed_text : (written text behind : List ℕ) → IsWritten written text → BeginsNoQuote behind → quoted_from 0 (written ++ 39 ∷ behind) ≡ Closed text (length written + 1)
closed_text written text behind nothing other = quoted_end (39 ∷ behind) (end_piece behind other)
closed_text written text behind (plain b bs rest no_quote no_backslash is) other =
    let count : 1 + (length bs + 1) ≡ length (b ∷ bs) + 1 = omega arith in
    quoted_byte (b ∷ (bs ++ 39 ∷ behind)) b 1 (plain_piece b (bs ++ 39 ∷ behind) no_quote no_backslash) (omega arith)
    ∙ ap (with_byte b 1) (closed_text bs rest behind is other) ∙ ap (Closed (b ∷ rest)) count
closed_text written text behind (doubled bs rest is) other =
    let count : 2 + (length bs + 1) ≡ length (39 ∷ 39 ∷ bs) + 1 = omega arith in
    quoted_byte (39 ∷ 39 ∷ (bs ++ 39 ∷ behind)) 39 2 refl (omega arith)
    ∙ ap (with_byte 39 2) (closed_text bs rest behind is other) ∙ ap (Closed (39 ∷ rest)) count
closed_text written text behind (escaped letter b bs rest stands is) other =
    let count : 2 + (length bs + 1) ≡ length (92 ∷ letter ∷ bs) + 1 = omega arith in
    quoted_byte (92 ∷ letter ∷ (bs ++ 39 ∷ behind)) b 2 (ap escaped_piece stands) (omega arith)
    ∙ ap (with_byte b 2) (closed_text bs rest behind is other) ∙ ap (Closed (b ∷ rest)) count

faulty_text : (written text fault : List ℕ) → IsWritten written text → IsFaulty fault → quoted_from 0 (written ++ fault) ≡ Faulty (length written)
faulty_text written text fault nothing ends = quoted_fault fault (faulty_piece fault ends)
faulty_text written text fault (plain b bs rest no_quote no_backslash is) ends =
    let count : 1 + length bs ≡ length (b ∷ bs) = omega arith in
    quoted_byte (b ∷ (bs ++ fault)) b 1 (plain_piece b (bs ++ fault) no_quote no_backslash) (omega arith)
    ∙ ap (with_byte b 1) (faulty_text bs rest fault is ends) ∙ ap Faulty count
faulty_text written text fault (doubled bs rest is) ends =
    let count : 2 + length bs ≡ length (39 ∷ 39 ∷ bs) = omega arith in
    quoted_byte (39 ∷ 39 ∷ (bs ++ fault)) 39 2 refl (omega arith)
    ∙ ap (with_byte 39 2) (faulty_text bs rest fault is ends) ∙ ap Faulty count
faulty_text written text fault (escaped letter b bs rest stands is) ends =
    let count : 2 + length bs ≡ length (92 ∷ letter ∷ bs) = omega arith in
    quoted_byte (92 ∷ letter ∷ (bs ++ fault)) b 2 (ap escaped_piece stands) (omega arith)
    ∙ ap (with_byte b 2) (faulty_text bs rest fault is ends) ∙ ap Faulty count

-- what stands behind an opening quote: a text that is closed, or one with a fault
pub data Texts : List ℕ → Type 0 where
  closed : (written text behind : List ℕ) → IsWritten written text → BeginsNoQuote behind → Texts (written ++ 39 ∷ behind)
  open_text : (written text fault : List ℕ) → IsWritten written text → IsFaulty fault → Texts (written ++ fault)

with_plain : (b : ℕ) (bs : List ℕ) → (b == 39) ≡ false → (b == 92) ≡ false → Texts bs → Texts (b ∷ bs)
with_plain b bs no_quote no_backslash (closed written text behind is other) = closed (b ∷ written) (b ∷ text) behind (plain b written text no_quote no_backslash is) other
with_plain b bs no_quote no_backslash (open_text written text fault is ends) = open_text (b ∷ written) (b ∷ text) fault (plain b written text no_quote no_backslash is) ends

with_doubled : (bs : List ℕ) → Texts bs → Texts (39 ∷ 39 ∷ bs)
with_doubled bs (closed written text behind is other) = closed (39 ∷ 39 ∷ written) (39 ∷ text) behind (doubled written text is) other
with_doubled bs (open_text written text fault is ends) = open_text (39 ∷ 39 ∷ written) (39 ∷ text) fault (doubled written text is) ends

with_escaped : (letter b : ℕ) (bs : List ℕ) → escape_of letter ≡ Some b → Texts bs → Texts (92 ∷ letter ∷ bs)
with_escaped letter b bs stands (closed written text behind is other) = closed (92 ∷ letter ∷ written) (b ∷ text) behind (escaped letter b written text stands is) other
with_escaped letter b bs stands (open_text written text fault is ends) = open_text (92 ∷ letter ∷ written) (b ∷ text) fault (escaped letter b written text stands is) ends

one_text : (b : ℕ) (quote backslash : Bool) → (b == 39) ≡ quote → (b == 92) ≡ backslash → Texts (b ∷ [])
one_text b true backslash is is_not = subst (λ c. Texts (c ∷ [])) (sym (eqb-true b 39 is)) (closed [] [] [] nothing tt)
one_text b false true is is_not = open_text [] [] (b ∷ []) nothing (eqb-true b 92 is_not, tt)
one_text b false false is is_not = with_plain b [] is is_not (open_text [] [] [] nothing tt)

behind_quote : (c : ℕ) (bs : List ℕ) (quote : Bool) → (c == 39) ≡ quote → Texts bs → Texts (39 ∷ c ∷ bs)
behind_quote c bs true is rest = subst (λ d. Texts (39 ∷ d ∷ bs)) (sym (eqb-true c 39 is)) (with_doubled bs rest)
behind_quote c bs false is rest = closed [] [] (c ∷ bs) nothing is

behind_backslash : (c : ℕ) (bs : List ℕ) (o : Option ℕ) → escape_of c ≡ o → Texts bs → Texts (92 ∷ c ∷ bs)
behind_backslash c bs (Some b) stands rest = with_escaped c b bs stands rest
behind_backslash c bs None none rest = open_text [] [] (92 ∷ c ∷ bs) nothing (refl, none)

two_texts : (b c : ℕ) (bs : List ℕ) (quote backslash : Bool) → (b == 39) ≡ quote → (b == 92) ≡ backslash → Texts (c ∷ bs) → Texts bs → Texts (b ∷ c ∷ bs)
two_texts b c bs true backslash is is_not one two = subst (λ d. Texts (d ∷ c ∷ bs)) (sym (eqb-true b 39 is)) (behind_quote c bs (c == 39) refl two)
two_texts b c bs false true is is_not one two = subst (λ d. Texts (d ∷ c ∷ bs)) (sym (eqb-true b 92 is_not)) (behind_backslash c bs (escape_of c) refl two)
two_texts b c bs false false is is_not one two = with_plain b (c ∷ bs) is is_not one

pub texts : (bs : List ℕ) → Texts bs
texts [] = open_text [] [] [] nothing tt
texts (b ∷ []) = one_text b (b == 39) (b == 92) refl refl
texts (b ∷ c ∷ bs) = two_texts b c bs (b == 39) (b == 92) refl refl (texts (c ∷ bs)) (texts bs)

-- ---- runs

run_length : (class : Class) (bs behind : List ℕ) → AreIn class bs → BeginsOther class behind → prefix_len (is_in class) (bs ++ behind) ≡ length bs
run_length class [] [] are other = refl
run_length class [] (c ∷ cs) are other = rw other refl
run_length class (b ∷ bs) behind are other =
    let count : 1 + length bs ≡ length (b ∷ bs) = omega arith in
    rw are.0 (ap (λ n. 1 + n) (run_length class bs behind are.1 other) ∙ count)

-- as many bytes of the class as there are, and the rest
pub data Runs (class : Class) : List ℕ → Type 0 where
  run : (front behind : List ℕ) → AreIn class front → BeginsOther class behind → Runs class (front ++ behind)

longer : (class : Class) (b : ℕ) (bs : List ℕ) (is_one : Bool) → is_in class b ≡ is_one → Runs class bs → Runs class (b ∷ bs)
longer class b bs true is (run front behind are other) = run (b ∷ front) behind (is, are) other
longer class b bs false is rest = run [] (b ∷ bs) tt is

runs : (class : Class) (bs : List ℕ) → Runs class bs
runs class [] = run [] [] tt tt
runs class (b ∷ bs) = longer class b bs (is_in class b) refl (runs class bs)

letter_word : (d u l e : Bool) → ((u || l) || e) ≡ true → (((d || u) || l) || e) ≡ true
letter_word true u l e is = refl
letter_word false u l e is = is

is_false : (b : Bool) → (b ≡ true → ⊥) → b ≡ false
is_false true h = absurd (h refl)
is_false false h = refl

below_range : (lo hi b : ℕ) → b < lo → is_in_range lo hi b ≡ false
below_range lo hi b below = is_false (is_in_range lo hi b) (λ is. let parts = and_parts (nat_le lo b) (nat_le b hi) is in let least = leb-true lo b parts.0 in omega arith)

digit_below : (b : ℕ) → is_in Digit b ≡ true → b ≤ 57
digit_below b is = leb-true b 57 (and_parts (nat_le 48 b) (nat_le b 57) is).1

digit_no_letter : (b : ℕ) → is_in Digit b ≡ true → is_in Letter b ≡ false
digit_no_letter b is =
    let below = digit_below b is in
    let other : (b == 95) ≡ false = is_false (b == 95) (λ same. let e = eqb-true b 95 same in omega arith) in
    rw (below_range 65 90 b (omega arith), below_range 97 122 b (omega arith), other) refl

-- ---- the lexeme

-- the lexeme at the front, and how many bytes it takes where tokens stand behind it
abbrev pub Read : ℕ → List ℕ → List ℕ → Lexeme → Type 0
Read at word behind l = (n : ℕ) × (lexeme_at at (word ++ behind) ≡ (l, n)) × (is_last l ≡ false → n ≡ length word)

text_read : (at : ℕ) (written bytes behind : List ℕ) → IsWritten written bytes → BeginsNoQuote behind
    → lexeme_at at ((39 ∷ (written ++ 39 ∷ [])) ++ behind) ≡ (Text bytes, length (39 ∷ (written ++ 39 ∷ [])))
unfolding lexeme_at quoted_at
text_read at written bytes behind is other =
    let same = ap (quoted_from 0) (append_assoc written (39 ∷ []) behind) ∙ closed_text written bytes behind is other in
    let count : (length written + 1) + 1 ≡ length (39 ∷ (written ++ 39 ∷ [])) = omega (arith, length-append written (39 ∷ [])) in
    ap (quoted_lexeme at) same ∙ ap (λ n. (Text bytes, n)) count

fault_read : (at : ℕ) (written bytes fault : List ℕ) → IsWritten written bytes → IsFaulty fault
    → lexeme_at at ((39 ∷ (written ++ fault)) ++ []) ≡ (BadText (at + 1 + length written), length written + 1)
unfolding lexeme_at quoted_at
fault_read at written bytes fault is ends =
    ap (λ bs. quoted_lexeme at (quoted_from 0 bs)) (append-nil (written ++ fault)) ∙ ap (quoted_lexeme at) (faulty_text written bytes fault is ends)

pub lexed : (at : ℕ) (word behind : List ℕ) (l : Lexeme) → IsLexeme at word behind l → Read at word behind l
unfolding lexeme_at
lexed at word behind l (a_word b bs rest letter are other) =
    let count = run_length Word (b ∷ bs) rest are other in
    (length (b ∷ bs), rw (letter, count) (ap (λ xs. (word_lexeme xs, length (b ∷ bs))) (take-append_seam (b ∷ bs) rest)), λ goes. refl)
lexed at word behind l (a_number b bs rest are other) =
    let count = run_length Digit (b ∷ bs) rest are other in
    (length (b ∷ bs), rw (digit_no_letter b are.0, count, are.0) (ap (λ xs. (number_lexeme xs, length (b ∷ bs))) (take-append_seam (b ∷ bs) rest)), λ goes. refl)
lexed at word behind l (a_text written bytes rest is other) = (length (39 ∷ (written ++ 39 ∷ [])), text_read at written bytes rest is other, λ goes. refl)
lexed at word behind l (a_fault written bytes fault is ends) = (length written + 1, fault_read at written bytes fault is ends, λ goes. absurd cc)
lexed at word behind l (a_minus rest) = (1, refl, λ goes. refl)
lexed at word behind l (a_sign b bs rest lexeme no_letter no_digit no_quote no_minus read) =
    (length (b ∷ bs), rw (no_letter, no_digit, no_quote, no_minus) read, λ goes. refl)

-- some lexeme stands at the front
abbrev pub HasLexeme : ℕ → ℕ → List ℕ → Type 0
HasLexeme at b bs = (word : List ℕ) × (behind : List ℕ) × (l : Lexeme) × (b ∷ bs ≡ (b ∷ word) ++ behind) × IsLexeme at (b ∷ word) behind l

has_word : (at b : ℕ) (bs : List ℕ) → is_in Letter b ≡ true → Runs Word bs → HasLexeme at b bs
has_word at b bs is (run front behind are other) =
    let word = letter_word (is_in_range 48 57 b) (is_in_range 65 90 b) (is_in_range 97 122 b) (b == 95) is in
    (front, behind, word_lexeme (b ∷ front), refl, a_word b front behind is (word, are) other)

has_number : (at b : ℕ) (bs : List ℕ) → is_in Digit b ≡ true → Runs Digit bs → HasLexeme at b bs
has_number at b bs is (run front behind are other) = (front, behind, number_lexeme (b ∷ front), refl, a_number b front behind (is, are) other)

has_text : (at : ℕ) (bs : List ℕ) → Texts bs → HasLexeme at 39 bs
has_text at bs (closed written text behind is other) =
    (written ++ 39 ∷ [], behind, Text text, ap (λ xs. 39 ∷ xs) (sym (append_assoc written (39 ∷ []) behind)), a_text written text behind is other)
has_text at bs (open_text written text fault is ends) =
    (written ++ fault, [], BadText (at + 1 + length written), ap (λ xs. 39 ∷ xs) (sym (append-nil (written ++ fault))), a_fault written text fault is ends)

one_byte : (b : ℕ) (less more other : Bool) → (b == 60) ≡ less → (b == 62) ≡ more → (b == 33) ≡ other → (sign_lexeme b 0).1 ≡ 1
one_byte b true more other is_less is_more is_other = rw is_less refl
one_byte b false true other is_less is_more is_other = rw (is_less, is_more) refl
one_byte b false false true is_less is_more is_other = rw (is_less, is_more, is_other) refl
one_byte b false false false is_less is_more is_other = rw (is_less, is_more, is_other) refl

few_bytes : (b c : ℕ) (less more other equal greater : Bool) → (b == 60) ≡ less → (b == 62) ≡ more → (b == 33) ≡ other → (c == 61) ≡ equal → (c == 62) ≡ greater
    → ((sign_lexeme b c).1 ≡ 1) ⊎ ((sign_lexeme b c).1 ≡ 2)
few_bytes b c true more other true greater is_less is_more is_other is_equal is_greater = inr (rw (is_less, is_equal) refl)
few_bytes b c true more other false true is_less is_more is_other is_equal is_greater = inr (rw (is_less, is_equal, is_greater) refl)
few_bytes b c true more other false false is_less is_more is_other is_equal is_greater = inl (rw (is_less, is_equal, is_greater) refl)
few_bytes b c false true other true greater is_less is_more is_other is_equal is_greater = inr (rw (is_less, is_more, is_equal) refl)
few_bytes b c false true other false greater is_less is_more is_other is_equal is_greater = inl (rw (is_less, is_more, is_equal) refl)
few_bytes b c false false true true greater is_less is_more is_other is_equal is_greater = inr (rw (is_less, is_more, is_other, is_equal) refl)
few_bytes b c false false true false greater is_less is_more is_other is_equal is_greater = inl (rw (is_less, is_more, is_other, is_equal) refl)
few_bytes b c false false false equal greater is_less is_more is_other is_equal is_greater = inl (rw (is_less, is_more, is_other) refl)

has_sign : (at b : ℕ) (bs : List ℕ) → is_in Letter b ≡ false → is_in Digit b ≡ false → (b == 39) ≡ false → (b == 45) ≡ false → HasLexeme at b bs
has_sign at b [] no_letter no_digit no_quote no_minus =
    let read : sign_lexeme b 0 ≡ ((sign_lexeme b 0).0, 1) = ap (λ n. ((sign_lexeme b 0).0, n)) (one_byte b (b == 60) (b == 62) (b == 33) refl refl refl) in
    ([], [], (sign_lexeme b 0).0, refl, a_sign b [] [] (sign_lexeme b 0).0 no_letter no_digit no_quote no_minus read)
has_sign at b (c ∷ cs) no_letter no_digit no_quote no_minus = by_length (few_bytes b c (b == 60) (b == 62) (b == 33) (c == 61) (c == 62) refl refl refl refl refl)
  where
    by_length : ((sign_lexeme b c).1 ≡ 1) ⊎ ((sign_lexeme b c).1 ≡ 2) → HasLexeme at b (c ∷ cs)
    by_length (inl one) =
        ([], c ∷ cs, (sign_lexeme b c).0, refl, a_sign b [] (c ∷ cs) (sign_lexeme b c).0 no_letter no_digit no_quote no_minus (ap (λ n. ((sign_lexeme b c).0, n)) one))
    by_length (inr two) =
        (c ∷ [], cs, (sign_lexeme b c).0, refl, a_sign b (c ∷ []) cs (sign_lexeme b c).0 no_letter no_digit no_quote no_minus (ap (λ n. ((sign_lexeme b c).0, n)) two))

by_class : (at b : ℕ) (bs : List ℕ) (letter digit quote minus : Bool) → is_in Letter b ≡ letter → is_in Digit b ≡ digit → (b == 39) ≡ quote → (b == 45) ≡ minus → HasLexeme at b bs
by_class at b bs true digit quote minus is_letter is_digit is_quote is_minus = has_word at b bs is_letter (runs Word bs)
by_class at b bs false true quote minus is_letter is_digit is_quote is_minus = has_number at b bs is_digit (runs Digit bs)
by_class at b bs false false true minus is_letter is_digit is_quote is_minus = subst (λ c. HasLexeme at c bs) (sym (eqb-true b 39 is_quote)) (has_text at bs (texts bs))
by_class at b bs false false false true is_letter is_digit is_quote is_minus =
    subst (λ c. HasLexeme at c bs) (sym (eqb-true b 45 is_minus)) ([], bs, Minus (is_tight bs), refl, a_minus bs)
by_class at b bs false false false false is_letter is_digit is_quote is_minus = has_sign at b bs is_letter is_digit is_quote is_minus

pub has_lexeme : (at b : ℕ) (bs : List ℕ) → HasLexeme at b bs
has_lexeme at b bs = by_class at b bs (is_in Letter b) (is_in Digit b) (b == 39) (b == 45) refl refl refl refl
