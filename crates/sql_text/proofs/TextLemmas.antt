-- The tokens of a text are those that the lexical grammar has, and no others.
use Rattle.std.proofs.Common.{◌≡◌, ◌≤◌, ℕ, zero, suc, ◌+◌, ◌==◌, Bool, true, false, List, [], ◌∷◌, ◌++◌, length, take, length-append, refl, sym, ap, ◌∙◌, subst, arith}
use Rattle.std.proofs.Math.Seq.{drop-append_seam}
use Rattle.std.specs.Str.Lossy.{utf8_valid_len}
use Rattle.sql_text.specs.declared.lexeme.Class.TheVariants.{Blank}
use Rattle.sql_text.specs.declared.lexeme.Lexeme.{Lexeme}
use Rattle.sql_text.specs.declared.token.Token.{Token}
use Rattle.sql_text.specs.Lexemes.{is_in, is_last}
use Rattle.sql_text.specs.Lexis.{AreTokens, HasTokens, IsLexeme}
use Rattle.sql_text.specs.Lexis.HasTokens.{ends, blank, more, last}
use Rattle.sql_text.specs.Tokens.{ending, token, tokens_from, tokens_of}
use Rattle.sql_text.proofs.LexisLemmas.{Read, has_lexeme, lexed}
use Rattle.sql_text.proofs.TokenLemmas.{tokens_blank, tokens_last, tokens_more}

-- ---- no others

more_tokens : (e : Lexeme) (at b : ℕ) (bs behind : List ℕ) (l : Lexeme) (ts : List Token) → is_in Blank b ≡ false → Read at (b ∷ bs) behind l → is_last l ≡ false
    → ts ≡ tokens_from e 0 (at + length (b ∷ bs)) behind → token at l ∷ ts ≡ tokens_from e 0 at ((b ∷ bs) ++ behind)
more_tokens e at b bs behind l ts no_blank (n, read, count) goes same =
    let word = b ∷ bs in
    let some : 1 ≤ length (word ++ behind) = omega (arith, length-append word behind) in
    let within : length word ≤ length (word ++ behind) = omega (arith, length-append word behind) in
    let found = tokens_more e at (word ++ behind) l (length word) some no_blank (read ∙ ap (λ k. (l, k)) (count goes)) goes (omega arith) within in
    ap (λ zs. token at l ∷ zs) (same ∙ ap (tokens_from e 0 (at + length word)) (sym (drop-append_seam word behind))) ∙ sym found

last_token : (e : Lexeme) (at b : ℕ) (bs behind : List ℕ) (l : Lexeme) → is_in Blank b ≡ false → Read at (b ∷ bs) behind l → is_last l ≡ true
    → token at l ∷ [] ≡ tokens_from e 0 at ((b ∷ bs) ++ behind)
last_token e at b bs behind l no_blank (n, read, count) stops =
    sym (tokens_last e at ((b ∷ bs) ++ behind) l n (omega (arith, length-append (b ∷ bs) behind)) no_blank read stops)

only_tokens : (e : Lexeme) (at : ℕ) (bytes : List ℕ) (ts : List Token) → HasTokens e at bytes ts → ts ≡ tokens_from e 0 at bytes
only_tokens e at bytes ts (ends here) = refl
only_tokens e at bytes ts (blank here b bs rest is are) = only_tokens e (here + 1) bs rest are ∙ sym (tokens_blank e here (b ∷ bs) (omega arith) is)
only_tokens e at bytes ts (more here b bs behind l rest no_blank is goes are) =
    more_tokens e here b bs behind l rest no_blank (lexed here (b ∷ bs) behind l is) goes (only_tokens e (here + length (b ∷ bs)) behind rest are)
only_tokens e at bytes ts (last here b bs behind l no_blank is stops) = last_token e here b bs behind l no_blank (lexed here (b ∷ bs) behind l is) stops

-- ---- these

-- with so much room, some tokens
abbrev Cut : ℕ → Type 0
Cut room = (e : Lexeme) (at : ℕ) (bytes : List ℕ) → length bytes ≤ room → (ts : List Token) × HasTokens e at bytes ts

cut_lexeme : (room : ℕ) (e : Lexeme) (at b : ℕ) (bs word behind : List ℕ) (l : Lexeme) (is_end : Bool) → Cut room → length (b ∷ bs) ≤ suc room → b ∷ bs ≡ (b ∷ word) ++ behind
    → is_in Blank b ≡ false → IsLexeme at (b ∷ word) behind l → is_last l ≡ is_end → (ts : List Token) × HasTokens e at (b ∷ bs) ts
cut_lexeme room e at b bs word behind l true cut few whole no_blank is stops = rw whole (token at l ∷ [], last at b word behind l no_blank is stops)
cut_lexeme room e at b bs word behind l false cut few whole no_blank is goes =
    let parts : length (b ∷ bs) ≡ length (b ∷ word) + length behind = ap length whole ∙ length-append (b ∷ word) behind in
    let rest = cut e (at + length (b ∷ word)) behind (omega (arith, parts)) in
    rw whole (token at l ∷ rest.0, more at b word behind l rest.0 no_blank is goes rest.1)

cut_byte : (room : ℕ) (e : Lexeme) (at b : ℕ) (bs : List ℕ) (is_blank : Bool) → Cut room → length (b ∷ bs) ≤ suc room → is_in Blank b ≡ is_blank
    → (ts : List Token) × HasTokens e at (b ∷ bs) ts
cut_byte room e at b bs true cut few is =
    let rest = cut e (at + 1) bs (omega arith) in
    (rest.0, blank at b bs rest.0 is rest.1)
cut_byte room e at b bs false cut few no_blank =
    let found = has_lexeme at b bs in
    cut_lexeme room e at b bs found.0 found.1 found.2 (is_last found.2) cut few found.3 no_blank found.4 refl

some_tokens : (room : ℕ) → Cut room
some_tokens zero e at [] few = (token at e ∷ [], ends at)
some_tokens zero e at (b ∷ bs) few = absurd (omega arith)
some_tokens (suc room) e at [] few = (token at e ∷ [], ends at)
some_tokens (suc room) e at (b ∷ bs) few = cut_byte room e at b bs (is_in Blank b) (λ f here ys less. some_tokens room f here ys less) few refl

-- the text has these tokens
pub are_tokens : (bytes : List ℕ) → AreTokens bytes (tokens_of bytes)
unfolding tokens_of
are_tokens bytes =
    let sound = utf8_valid_len bytes in
    let e = ending (sound == length bytes) in
    let found = some_tokens (length (take sound bytes)) e 0 (take sound bytes) (omega arith) in
    subst (λ ts. HasTokens e 0 (take sound bytes) ts) (only_tokens e 0 (take sound bytes) found.0 found.1) found.1

-- and no others
pub same_tokens : (bytes : List ℕ) (ts : List Token) → AreTokens bytes ts → ts ≡ tokens_of bytes
unfolding tokens_of
same_tokens bytes ts are = only_tokens (ending (utf8_valid_len bytes == length bytes)) 0 (take (utf8_valid_len bytes) bytes) ts are
