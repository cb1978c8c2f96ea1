-- What a step says of the lexeme that it takes.
use Rattle.std.proofs.Common.{◌≡◌, ℕ, Bool, true, false, cond, List, [], ◌∷◌, Ok, Err, refl, sym, ap, subst, inl, inr, map}
use Rattle.std.specs.Char.{to_ascii_lowercase, to_ascii_uppercase}
use denote.Enum.Bare.{same_true}
use Rattle.sql_text.specs.contracts.keyword.Keyword.{the_type as keyword_type}
use Rattle.sql_text.specs.contracts.lexeme.Sign.{the_type as sign_type}
use Rattle.sql_text.specs.declared.keyword.Keyword.{Keyword as Words}
use Rattle.sql_text.specs.declared.lexeme.Lexeme.{Lexeme}
use Rattle.sql_text.specs.declared.lexeme.Lexeme.TheVariants.{Keyword, Name, Text, Sign, Minus, End}
use Rattle.sql_text.specs.declared.lexeme.Sign.{Sign as Signs}
use Rattle.sql_text.specs.declared.lexeme.Sign.TheVariants as signs
use Rattle.sql_text.specs.declared.reading.Reading.{Reading}
use Rattle.sql_text.specs.declared.reading.Reading.TheVariants.{Closed, Done}
use Rattle.sql_text.specs.declared.statement.Statement.{Statement}
use Rattle.sql_text.specs.declared.step.StepFault.{StepFault}
use Rattle.sql_text.specs.Steps.{Step, ◌>>=◌, same_keyword, same_sign, is_word, is_sign, is_end, name_in, column_in, engine_in, text_in}
use Rattle.sql_text.specs.Sums.{is_minus}
use Rattle.sql_text.specs.Whole.{whole, closed}
use Rattle.sql_text.proofs.Rests.{Rest, EndsAs}

pub word_same : (w : Words) (l : Lexeme) → is_word w l ≡ true → l ≡ Keyword w
unfolding same_keyword
word_same w (Keyword k) is = ap Keyword (same_true keyword_type tt k w is)
word_same w _ is = absurd cc

pub sign_same : (w : Signs) (l : Lexeme) → is_sign w l ≡ true → l ≡ Sign w
unfolding same_sign
sign_same w (Sign k) is = ap Sign (same_true sign_type tt k w is)
sign_same w _ is = absurd cc

end_same : (l : Lexeme) → is_end l ≡ true → l ≡ End
end_same End is = refl
end_same _ is = absurd cc

pub minus_same : (l : Lexeme) → is_minus l ≡ true → (tight : Bool) × (l ≡ Minus tight)
minus_same (Minus tight) is = (tight, refl)
minus_same _ is = absurd cc

-- Where the step reads, the lexemes behind it that complete what it read show this.
abbrev pub From : List Lexeme → Statement → Step Reading → Type 0 → Type 0
From ls s x G = (q : Reading) → x ≡ Ok q → Rest q ls s → G

pub reads : (ls : List Lexeme) (s : Statement) (p : Reading) (G : Type 0) → (Rest p ls s → G) → From ls s (Ok p) G
reads ls s p G h q is rest =
    let same : q ≡ p = cc in
    h (subst (λ (x : Reading). Rest x ls s) same rest)

pub refuses : (ls : List Lexeme) (s : Statement) (e : StepFault) (G : Type 0) → From ls s (Err e) G
refuses ls s e G q is rest = absurd cc

chosen : (ls : List Lexeme) (s : Statement) (b : Bool) (x y : Step Reading) (G : Type 0) → (b ≡ true → From ls s x G) → From ls s y G → From ls s (cond b x y) G
chosen ls s true x y G h k = h refl
chosen ls s false x y G h k = k

pub by_word : (ls : List Lexeme) (s : Statement) (P : Lexeme → Type 0) (w : Words) (l : Lexeme) (x y : Step Reading) → From ls s x (P (Keyword w)) → From ls s y (P l)
    → From ls s (cond (is_word w l) x y) (P l)
by_word ls s P w l x y h k = chosen ls s (is_word w l) x y (P l) (λ is q read rest. subst P (sym (word_same w l is)) (h q read rest)) k

pub by_sign : (ls : List Lexeme) (s : Statement) (P : Lexeme → Type 0) (w : Signs) (l : Lexeme) (x y : Step Reading) → From ls s x (P (Sign w)) → From ls s y (P l)
    → From ls s (cond (is_sign w l) x y) (P l)
by_sign ls s P w l x y h k = chosen ls s (is_sign w l) x y (P l) (λ is q read rest. subst P (sym (sign_same w l is)) (h q read rest)) k

-- this word alone
pub only_word : (ls : List Lexeme) (s : Statement) (P : Lexeme → Type 0) (w : Words) (l : Lexeme) (p : Reading) → (Rest p ls s → P (Keyword w))
    → From ls s (cond (is_word w l) (Ok p) (Err StepFault.Unexpected)) (P l)
only_word ls s P w l p h = by_word ls s P w l (Ok p) (Err StepFault.Unexpected) (reads ls s p (P (Keyword w)) h) (refuses ls s StepFault.Unexpected (P l))

-- this sign alone
pub only_sign : (ls : List Lexeme) (s : Statement) (P : Lexeme → Type 0) (w : Signs) (l : Lexeme) (p : Reading) → (Rest p ls s → P (Sign w))
    → From ls s (cond (is_sign w l) (Ok p) (Err StepFault.Unexpected)) (P l)
only_sign ls s P w l p h = by_sign ls s P w l (Ok p) (Err StepFault.Unexpected) (reads ls s p (P (Sign w)) h) (refuses ls s StepFault.Unexpected (P l))

pub by_name : (ls : List Lexeme) (s : Statement) (P : Lexeme → Type 0) (f : List ℕ → Step Reading) (l : Lexeme) → ((w : List ℕ) → From ls s (f w) (P (Name w)))
    → From ls s (name_in l >>= f) (P l)
unfolding name_in
by_name ls s P f (Name w) h = h w
by_name ls s P f _ h = λ q read rest. absurd cc

pub by_column : (ls : List Lexeme) (s : Statement) (P : Lexeme → Type 0) (f : List ℕ → Step Reading) (l : Lexeme)
    → ((w : List ℕ) → From ls s (f (map to_ascii_lowercase w)) (P (Name w))) → From ls s (column_in l >>= f) (P l)
unfolding name_in column_in
by_column ls s P f (Name w) h = h w
by_column ls s P f _ h = λ q read rest. absurd cc

pub by_engine : (ls : List Lexeme) (s : Statement) (P : Lexeme → Type 0) (f : List ℕ → Step Reading) (l : Lexeme)
    → ((w : List ℕ) → From ls s (f (map to_ascii_uppercase w)) (P (Name w))) → From ls s (engine_in l >>= f) (P l)
unfolding name_in engine_in
by_engine ls s P f (Name w) h = h w
by_engine ls s P f _ h = λ q read rest. absurd cc

pub by_text : (ls : List Lexeme) (s : Statement) (P : Lexeme → Type 0) (f : List ℕ → Step Reading) (l : Lexeme) → ((w : List ℕ) → From ls s (f w) (P (Text w)))
    → From ls s (text_in l >>= f) (P l)
unfolding text_in
by_text ls s P f (Text w) h = h w
by_text ls s P f _ h = λ q read rest. absurd cc

-- the end of a statement
pub by_closed : (ls : List Lexeme) (s w : Statement) (l : Lexeme) → From ls s (closed w l) ((l ∷ ls ≡ End ∷ []) × (w ≡ s))
by_closed ls s w l q read rest = by_end (is_end l) refl read
  where
    by_end : (b : Bool) → is_end l ≡ b → cond b (Ok (Done w)) (Err StepFault.Unexpected) ≡ Ok q → (l ∷ ls ≡ End ∷ []) × (w ≡ s)
    by_end true is read =
        let done = reads ls s (Done w) ((l ∷ ls ≡ End ∷ []) × (w ≡ s)) (λ r. (rw (end_same l is, r.0) refl, r.1)) in
        done q read rest
    by_end false is read = absurd cc

pub by_whole : (ls : List Lexeme) (s w : Statement) (l : Lexeme) → From ls s (whole w l) (EndsAs w (l ∷ ls) s)
by_whole ls s w l =
    by_sign ls s (λ k. EndsAs w (k ∷ ls) s) signs.Semicolon l (Ok (Closed w)) (closed w l)
    (reads ls s (Closed w) (EndsAs w (Sign signs.Semicolon ∷ ls) s) (λ r. (inr (ap (λ xs. Sign signs.Semicolon ∷ xs) r.0), r.1)))
    (λ q read rest. let r = by_closed ls s w l q read rest in (inl r.0, r.1))
