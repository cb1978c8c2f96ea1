-- Tokens are read up to the end.
use Rattle.std.proofs.Common.{◌≡◌, ◌≤◌, List, [], ◌∷◌, length, drop, get_or, Result, Ok, Err, Bool, true, false, cond, refl, sym, ap, ◌∙◌, subst, arith}
use Rattle.sql_text.specs.declared.reading.Reading.{Reading}
use Rattle.sql_text.specs.declared.parser.ParseFault.{ParseFault}
use Rattle.sql_text.specs.declared.statement.Statement.{Statement}
use Rattle.sql_text.specs.declared.step.StepFault.{StepFault}
use Rattle.sql_text.specs.declared.token.Token.{Token}
use Rattle.sql_text.specs.Lexemes.{is_last}
use Rattle.sql_text.specs.Reading.{next}
use Rattle.sql_text.specs.Run.{done_with, ends_last, is_nil, or_refused, refusal_of, run}
use Rattle.sql_text.specs.Steps.{Step}
use Rattle.sql_text.proofs.LastLemmas.{WasRead, EndsWell, last_ends}

-- either a statement was read to its end, or what ends the text comes
abbrev pub GoesOn : Reading → List Token → Type 0
GoesOn reading [] = WasRead (done_with reading)
GoesOn reading (t ∷ ts) = ends_last (t ∷ ts) ≡ true

was_read : (s : Step Reading) (r : Reading) → EndsWell s → s ≡ Ok r → WasRead (done_with r)
was_read (Ok q) r well is = let e : q ≡ r = cc in subst (λ (x : Reading). WasRead (done_with x)) e well
was_read (Err e) r well is = absurd cc

by_last : (r following : Reading) (t : Token) (ts : List Token) (last : Bool) → is_last t.lexeme ≡ last → cond last (is_nil ts) (ends_last ts) ≡ true → next r t.lexeme ≡ Ok following → GoesOn following ts
by_last r following t [] true is ends read = was_read _ following (last_ends r t.lexeme is) read
by_last r following t (u ∷ us) true is ends read = absurd cc
by_last r following t [] false is ends read = absurd cc
by_last r following t (u ∷ us) false is ends read = ends

-- one token more
pub goes_on : (r following : Reading) (t : Token) (ts : List Token) → ends_last (t ∷ ts) ≡ true → next r t.lexeme ≡ Ok following → GoesOn following ts
goes_on r following t ts ends read = by_last r following t ts (is_last t.lexeme) refl ends read

-- what is read and refused next, is refused
pub run_more : (r : Reading) (t : Token) (ts : List Token) (s : Step Reading) → next r t.lexeme ≡ s → run r (t ∷ ts) ≡ or_refused t s (λ following. run following ts)
run_more r t ts s is = ap (λ x. or_refused t x (λ following. run following ts)) is

-- one token more, at the front of what is left
pub kept : (r f : Reading) (t : Token) (rest : List Token) (out : Result Statement ParseFault) → 1 ≤ length rest → t ≡ get_or rest 0 t → next r t.lexeme ≡ Ok f → run r rest ≡ out → GoesOn r rest → (run f (drop 1 rest) ≡ out) × GoesOn f (drop 1 rest)
kept r f t [] out some first read ran goes = absurd (omega arith)
kept r f t (u ∷ us) out some first read ran goes =
    let here = ap (λ (x : Token). next r x.lexeme) (sym first) ∙ read in
    (sym (run_more r u us (Ok f) here) ∙ ran, goes_on r f u us goes here)

-- one token that is refused, at the front of what is left
pub refused : (r : Reading) (t : Token) (rest : List Token) (e : StepFault) (out : Result Statement ParseFault) → 1 ≤ length rest → t ≡ get_or rest 0 t → next r t.lexeme ≡ Err e → run r rest ≡ out → out ≡ Err (refusal_of t e)
refused r t [] e out some first read ran = absurd (omega arith)
refused r t (u ∷ us) e out some first read ran =
    let here = ap (λ (x : Token). next r x.lexeme) (sym first) ∙ read in
    sym ran ∙ run_more r u us (Err e) here ∙ ap (λ (x : Token). Err (refusal_of x e)) (sym first)
