-- What reading the tokens says of the text.
use Rattle.std.proofs.Common.{◌≡◌, ◌⊎◌, ◌≤◌, ℕ, zero, suc, ◌+◌, ◌-◌, ◌==◌, take, List, [], ◌∷◌, length, Bool, true, false, cond, Result, Ok, Err, refl, sym, ap, ◌∙◌, inl, inr, subst}
use Rattle.std.specs.Str.Lossy.{utf8_valid_len}
use Rattle.sql_value.specs.declared.refusal.Refusal.{Refusal}
use Rattle.sql_text.specs.declared.lexeme.Class.TheVariants.{Blank}
use Rattle.sql_text.specs.declared.lexeme.Lexeme.{Lexeme}
use Rattle.sql_text.specs.declared.parser.ParseFault.{ParseFault}
use Rattle.sql_text.specs.declared.parser.ParseFault.TheVariants as fault
use Rattle.sql_text.specs.declared.reading.Reading.TheVariants.{Start, Done}
use Rattle.sql_text.specs.declared.statement.Statement.{Statement}
use Rattle.sql_text.specs.declared.token.Token.{Token}
use Rattle.sql_text.specs.Lexemes.{is_in, is_last, lexeme_at}
use Rattle.sql_text.specs.Statements.{lexemes_of, Parses, Spells}
use Rattle.sql_text.specs.Run.{run, ends_last, ReadsAs}
use Rattle.sql_text.proofs.FormLemmas.{form_spelt}
use Rattle.sql_text.proofs.GrammarLemmas.{spelt_form}
use Rattle.sql_text.proofs.TextLemmas.{are_tokens, same_tokens}
use Rattle.sql_text.specs.Forms.{IsStatement}
use Rattle.sql_text.specs.Tokens.{token, tokens_from, tokens_of, ending}
use Rattle.sql_text.proofs.FaultLemmas.{spelt, is_read, has_place, faults}

either_ends : (p : Bool) (xs ys : List Token) → ends_last xs ≡ true → ends_last ys ≡ true → ends_last (cond p xs ys) ≡ true
either_ends true xs ys a b = a
either_ends false xs ys a b = b

token_ends : (t : Token) (last : Bool) (rest : List Token) → is_last t.lexeme ≡ last → ends_last rest ≡ true → ends_last (t ∷ cond last [] rest) ≡ true
token_ends t true rest is h = rw is refl
token_ends t false rest is h = rw is h

tokens_end : (e : Lexeme) → is_last e ≡ true → (n at : ℕ) (bs : List ℕ) → ends_last (tokens_from e n at bs) ≡ true
tokens_end e last n at [] = rw last refl
tokens_end e last (suc n) at (b ∷ bs) = tokens_end e last n (at + 1) bs
tokens_end e last zero at (b ∷ bs) =
    let found = lexeme_at at (b ∷ bs) in
    either_ends (is_in Blank b) (tokens_from e 0 (at + 1) bs) (token at found.0 ∷ cond (is_last found.0) [] (tokens_from e (found.1 - 1) (at + 1) bs))
    (tokens_end e last 0 (at + 1) bs)
    (token_ends (token at found.0) (is_last found.0) (tokens_from e (found.1 - 1) (at + 1) bs) refl (tokens_end e last (found.1 - 1) (at + 1) bs))

ending_last : (whole : Bool) → is_last (ending whole) ≡ true
ending_last true = refl
ending_last false = refl

-- the tokens of a text end as such tokens do
pub text_ends : (bytes : List ℕ) → ends_last (tokens_of bytes) ≡ true
unfolding tokens_of
text_ends bytes =
    let sound = utf8_valid_len bytes in
    tokens_end (ending (sound == length bytes)) (ending_last (sound == length bytes)) 0 0 (take sound bytes)

refused : (bytes : List ℕ) (x : Refusal) → length bytes ≤ 65536 → run Start (tokens_of bytes) ≡ Err (fault.Refused x) → Parses bytes (Err (fault.Refused x))
refused bytes x short ran =
    let p = has_place Start (tokens_of bytes) x ran in
    inr (p.0, p.1, short, (tokens_of bytes, are_tokens bytes, faults Start [] (tokens_of bytes) p.0 refl (ran ∙ ap (λ y. Err (fault.Refused y)) p.1)))

-- what is read is spelt, and what is refused has its fault there
pub parses : (bytes : List ℕ) (r : Result Statement ParseFault) → length bytes ≤ 65536 → ReadsAs r (run Start (tokens_of bytes)) → Parses bytes r
parses bytes (Ok s) short ran = (short, (tokens_of bytes, are_tokens bytes, spelt_form (lexemes_of (tokens_of bytes)) s (spelt Start (tokens_of bytes) s ran)))
parses bytes (Err fault.Memory) short ran = tt
parses bytes (Err (fault.Refused x)) short ran = refused bytes x short ran

read_or_none : (r : Result Statement ParseFault) (s : Statement) → ReadsAs r (Ok s) → (r ≡ Ok s) ⊎ (r ≡ Err fault.Memory)
read_or_none (Ok q) s same = inl (sym same)
read_or_none (Err fault.Memory) s same = inr refl
read_or_none (Err (fault.Refused x)) s same = absurd cc

-- what is spelt is read
pub reads : (bytes : List ℕ) (r : Result Statement ParseFault) (s : Statement) → ReadsAs r (run Start (tokens_of bytes)) → Spells bytes s
    → (r ≡ Ok s) ⊎ (r ≡ Err fault.Memory)
reads bytes r s ran (tokens, are, is) =
    let form = subst (λ ts. IsStatement (lexemes_of ts) s) (same_tokens bytes tokens are) is in
    let read = is_read Start (tokens_of bytes) s (form_spelt (lexemes_of (tokens_of bytes)) s form) in
    read_or_none r s (subst (ReadsAs r) read ran)

-- a text spells one statement at most
pub one : (bytes : List ℕ) (a b : Statement) → Spells bytes a → Spells bytes b → a ≡ b
one bytes a b (ts, are, is) (us, also, has) =
    let same = same_tokens bytes us also ∙ sym (same_tokens bytes ts are) in
    let first = form_spelt (lexemes_of ts) a is in
    let second = form_spelt (lexemes_of ts) b (subst (λ xs. IsStatement (lexemes_of xs) b) same has) in
    let done : Ok (Done a) ≡ Ok (Done b) = sym first ∙ second in
    cc
