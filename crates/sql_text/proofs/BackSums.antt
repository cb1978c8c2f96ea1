-- What completes a sum behind a step, completes it before.
use Rattle.std.proofs.Common.{◌≡◌, ℕ, pos, neg_ℤ, Bool, true, false, cond, List, [], ◌∷◌, ◌++◌, Ok, Err, refl, sym, ap, subst, inl, inr, append_assoc, map}
use Rattle.std.proofs.lemmas.List.{append-nil}
use Rattle.std.specs.Char.{to_ascii_lowercase}
use Rattle.sql_text.specs.declared.keyword.Keyword.{Keyword as Words}
use Rattle.sql_text.specs.declared.keyword.Keyword.TheVariants as words
use Rattle.sql_text.specs.declared.lexeme.Lexeme.{Lexeme}
use Rattle.sql_text.specs.declared.lexeme.Lexeme.TheVariants.{Keyword, Name, Number, Text, Sign, Minus}
use Rattle.sql_text.specs.declared.lexeme.Sign.TheVariants as signs
use Rattle.sql_text.specs.declared.reading.Reading.{Reading}
use Rattle.sql_text.specs.declared.statement.Literal.TheVariants as literal
use Rattle.sql_text.specs.declared.statement.Operand.{Operand}
use Rattle.sql_text.specs.declared.statement.Operand.TheVariants as operand
use Rattle.sql_text.specs.declared.statement.Statement.{Statement}
use Rattle.sql_text.specs.declared.statement.Sum.{Sum}
use Rattle.sql_text.specs.declared.statement.Term.{Term}
use Rattle.sql_text.specs.declared.step.StepFault.{StepFault}
use Rattle.sql_text.specs.declared.sum.Summing.{Summing}
use Rattle.sql_text.specs.declared.sum.Summing.TheVariants.{First, FirstNumber, Ready, Next, NextNumber}
use Rattle.sql_text.specs.declared.sum.SumStep.{SumStep}
use Rattle.sql_text.specs.declared.sum.SumStep.TheVariants.{Goes, Ends}
use Rattle.sql_text.specs.Parts.{IsOperand}
use Rattle.sql_text.specs.Steps.{Step, ◌>>=◌, same_keyword, is_sign, name_in, column_in, text_in}
use Rattle.sql_text.specs.Sums.{is_minus, is_tight, literal_in, more, negative_operand, operand_in, sum_step, first, first_operand, next_operand}
use Rattle.sql_text.proofs.BackLemmas.{From, minus_same, sign_same, word_same}
use Rattle.sql_text.proofs.Rests.{AfterSumming}

by_tight : (ls : List Lexeme) (s : Statement) (P : Lexeme → Type 0) (l : Lexeme) (part : SumStep → Step Reading) (x y : Step SumStep)
    → From ls s (x >>= part) (P (Minus true)) → From ls s (y >>= part) (P l) → From ls s ((cond (is_tight l) x y) >>= part) (P l)
by_tight ls s P (Minus true) part x y h k = h
by_tight ls s P (Minus false) part x y h k = k
by_tight ls s P _ part x y h k = k

by_null : (ls : List Lexeme) (s : Statement) (P : Lexeme → Type 0) (part : SumStep → Step Reading) (f : Operand → Step SumStep) (k : Words) (b : Bool) → same_keyword k words.Null ≡ b
    → From ls s (f (operand.Literal literal.Null) >>= part) (P (Keyword words.Null))
    → From ls s (((cond b (Ok literal.Null) (Err StepFault.Unexpected)) >>= (λ x. Ok (operand.Literal x)) >>= f) >>= part) (P (Keyword k))
by_null ls s P part f k true is h = λ q read rest. subst P (sym (word_same words.Null (Keyword k) is)) (h q read rest)
by_null ls s P part f k false is h = λ q read rest. absurd cc

by_operand : (ls : List Lexeme) (s : Statement) (P : Lexeme → Type 0) (l : Lexeme) (part : SumStep → Step Reading) (f : Operand → Step SumStep)
    → ((k : Lexeme) (o : Operand) → IsOperand (k ∷ []) o → From ls s (f o >>= part) (P k)) → From ls s ((operand_in l >>= f) >>= part) (P l)
unfolding operand_in literal_in column_in name_in text_in
by_operand ls s P (Name w) part f h = h (Name w) (operand.Column (map to_ascii_lowercase w)) (w, refl, refl)
by_operand ls s P (Number m) part f h = h (Number m) (operand.Literal (literal.Int (pos m))) (inl (m, refl, refl))
by_operand ls s P (Text text) part f h = h (Text text) (operand.Literal (literal.Text text)) refl
by_operand ls s P (Keyword k) part f h = by_null ls s P part f k (same_keyword k words.Null) refl (h (Keyword words.Null) (operand.Literal literal.Null) refl)
by_operand ls s P _ part f h = λ q read rest. absurd cc

by_number : (ls : List Lexeme) (s : Statement) (P : Lexeme → Type 0) (l : Lexeme) (part : SumStep → Step Reading) (f : Operand → Step SumStep)
    → ((m : ℕ) → From ls s (f (operand.Literal (literal.Int (neg_ℤ (pos m)))) >>= part) (P (Number m))) → From ls s ((negative_operand l >>= f) >>= part) (P l)
unfolding negative_operand
by_number ls s P (Number m) part f h = h m
by_number ls s P _ part f h = λ q read rest. absurd cc

-- ---- the first operand

abbrev Follows : Type 1
Follows = Sum → List Lexeme → Type 0

first_number : (Then : Follows) (ls : List Lexeme) → AfterSumming FirstNumber Then ls → AfterSumming First Then (Minus true ∷ ls)
first_number Then ls (m, body, ts, rest, is, terms, behind) = (
  Minus true ∷ Number m ∷ body,
  record { first = operand.Literal (literal.Int (neg_ℤ (pos m))); rest = ts },
  rest,
  ap (λ zs. Minus true ∷ zs) is,
  (Minus true ∷ Number m ∷ [], body, refl, inr (m, refl, refl), terms),
  behind,
)

first_done : (Then : Follows) (ls : List Lexeme) (k : Lexeme) (o : Operand) → IsOperand (k ∷ []) o
    → AfterSumming (Ready (record { first = o; rest = [] })) Then ls → AfterSumming First Then (k ∷ ls)
first_done Then ls k o is (body, ts, rest, cut, terms, behind) =
    (k ∷ body, record { first = o; rest = ts }, rest, ap (λ zs. k ∷ zs) cut, (k ∷ [], body, refl, is, terms), behind)

number_done : (Then : Follows) (ls : List Lexeme) (m : ℕ)
    → AfterSumming (Ready (record { first = operand.Literal (literal.Int (neg_ℤ (pos m))); rest = [] })) Then ls → AfterSumming FirstNumber Then (Number m ∷ ls)
number_done Then ls m (body, ts, rest, cut, terms, behind) = (m, body, ts, rest, ap (λ zs. Number m ∷ zs) cut, terms, behind)

-- ---- a further operand

abbrev term : Bool → Operand → Term
term minus o = record { minus = minus; operand = o }

abbrev sum_with : Sum → List Term → Sum
sum_with sum ts = record { first = sum.first; rest = ts }

next_number : (Then : Follows) (ls : List Lexeme) (sum : Sum) (minus : Bool) → AfterSumming (NextNumber sum minus) Then ls → AfterSumming (Next sum minus) Then (Minus true ∷ ls)
next_number Then ls sum minus (m, body, ts, rest, is, terms, behind) = (
  Minus true ∷ Number m ∷ [],
  operand.Literal (literal.Int (neg_ℤ (pos m))),
  body,
  ts,
  rest,
  ap (λ zs. Minus true ∷ zs) is,
  inr (m, refl, refl),
  terms,
  behind,
)

next_done : (Then : Follows) (ls : List Lexeme) (sum : Sum) (minus : Bool) (k : Lexeme) (o : Operand) → IsOperand (k ∷ []) o
    → AfterSumming (Ready (sum_with sum (sum.rest ++ term minus o ∷ []))) Then ls → AfterSumming (Next sum minus) Then (k ∷ ls)
next_done Then ls sum minus k o is (body, ts, rest, cut, terms, behind) = (
  k ∷ [],
  o,
  body,
  ts,
  rest,
  ap (λ zs. k ∷ zs) cut,
  is,
  terms,
  subst (λ rs. Then (sum_with sum rs) rest) (append_assoc sum.rest (term minus o ∷ []) ts) behind,
)

next_number_done : (Then : Follows) (ls : List Lexeme) (sum : Sum) (minus : Bool) (m : ℕ)
    → AfterSumming (Ready (sum_with sum (sum.rest ++ term minus (operand.Literal (literal.Int (neg_ℤ (pos m)))) ∷ []))) Then ls
    → AfterSumming (NextNumber sum minus) Then (Number m ∷ ls)
next_number_done Then ls sum minus m (body, ts, rest, cut, terms, behind) = (
  m,
  body,
  ts,
  rest,
  ap (λ zs. Number m ∷ zs) cut,
  terms,
  subst (λ rs. Then (sum_with sum rs) rest) (append_assoc sum.rest (term minus (operand.Literal (literal.Int (neg_ℤ (pos m)))) ∷ []) ts) behind,
)

-- ---- behind an operand

plus_more : (Then : Follows) (ls : List Lexeme) (sum : Sum) → AfterSumming (Next sum false) Then ls → AfterSumming (Ready sum) Then (Sign signs.Plus ∷ ls)
plus_more Then ls sum (front, o, body, ts, rest, cut, is, terms, behind) = (
  Sign signs.Plus ∷ (front ++ body),
  term false o ∷ ts,
  rest,
  rw cut (ap (λ zs. Sign signs.Plus ∷ zs) (sym (append_assoc front body rest))),
  (Sign signs.Plus, front, body, refl, refl, is, terms),
  behind,
)

minus_more : (Then : Follows) (ls : List Lexeme) (sum : Sum) (tight : Bool) → AfterSumming (Next sum true) Then ls → AfterSumming (Ready sum) Then (Minus tight ∷ ls)
minus_more Then ls sum tight (front, o, body, ts, rest, cut, is, terms, behind) = (
  Minus tight ∷ (front ++ body),
  term true o ∷ ts,
  rest,
  rw cut (ap (λ zs. Minus tight ∷ zs) (sym (append_assoc front body rest))),
  (Minus tight, front, body, refl, (tight, refl), is, terms),
  behind,
)

no_more : (Then : Follows) (ls : List Lexeme) (sum : Sum) → Then sum ls → AfterSumming (Ready sum) Then ls
no_more Then ls sum behind = ([], [], ls, refl, refl, subst (λ rs. Then (sum_with sum rs) ls) (sym (append-nil sum.rest)) behind)

ready_back : (ls : List Lexeme) (s : Statement) (Then : Follows) (sum : Sum) (l : Lexeme) (part : SumStep → Step Reading)
    → ((q : Summing) → From ls s (part (Goes q)) (AfterSumming q Then ls)) → ((x : Sum) → From ls s (part (Ends x)) (Then x (l ∷ ls)))
    → (plus minus : Bool) → is_sign signs.Plus l ≡ plus → is_minus l ≡ minus
    → From ls s (part (cond plus (Goes (Next sum false)) (cond minus (Goes (Next sum true)) (Ends sum)))) (AfterSumming (Ready sum) Then (l ∷ ls))
ready_back ls s Then sum l part goes ends true minus is_plus is_minus =
    λ q read rest. subst (λ k. AfterSumming (Ready sum) Then (k ∷ ls)) (sym (sign_same signs.Plus l is_plus)) (plus_more Then ls sum (goes (Next sum false) q read rest))
ready_back ls s Then sum l part goes ends false true is_plus is_minus =
    let found = minus_same l is_minus in
    λ q read rest. subst (λ k. AfterSumming (Ready sum) Then (k ∷ ls)) (sym found.1) (minus_more Then ls sum found.0 (goes (Next sum true) q read rest))
ready_back ls s Then sum l part goes ends false false is_plus is_minus =
    λ q read rest. no_more Then (l ∷ ls) sum (ends sum q read rest)

pub sum_back : (ls : List Lexeme) (s : Statement) (Then : Sum → List Lexeme → Type 0) (summing : Summing) (l : Lexeme) (part : SumStep → Step Reading)
    → ((q : Summing) → From ls s (part (Goes q)) (AfterSumming q Then ls)) → ((x : Sum) → From ls s (part (Ends x)) (Then x (l ∷ ls)))
    → From ls s (sum_step summing l >>= part) (AfterSumming summing Then (l ∷ ls))
unfolding sum_step
sum_back ls s Then First l part goes ends =
    by_tight ls s (λ k. AfterSumming First Then (k ∷ ls)) l part (Ok (Goes FirstNumber)) (first_operand l)
    (λ q read rest. first_number Then ls (goes FirstNumber q read rest))
    (by_operand ls s (λ k. AfterSumming First Then (k ∷ ls)) l part (λ o. Ok (first o))
    (λ k o is q read rest. first_done Then ls k o is (goes (Ready (record { first = o; rest = [] })) q read rest)))
sum_back ls s Then FirstNumber l part goes ends =
    by_number ls s (λ k. AfterSumming FirstNumber Then (k ∷ ls)) l part (λ o. Ok (first o))
    (λ m q read rest. number_done Then ls m (goes (Ready (record { first = operand.Literal (literal.Int (neg_ℤ (pos m))); rest = [] })) q read rest))
sum_back ls s Then (Ready sum) l part goes ends = ready_back ls s Then sum l part goes ends (is_sign signs.Plus l) (is_minus l) refl refl
sum_back ls s Then (Next sum minus) l part goes ends =
    by_tight ls s (λ k. AfterSumming (Next sum minus) Then (k ∷ ls)) l part (Ok (Goes (NextNumber sum minus))) (next_operand sum minus l)
    (λ q read rest. next_number Then ls sum minus (goes (NextNumber sum minus) q read rest))
    (by_operand ls s (λ k. AfterSumming (Next sum minus) Then (k ∷ ls)) l part (λ o. more sum minus o)
    (λ k o is q read rest. next_done Then ls sum minus k o is (goes (Ready (sum_with sum (sum.rest ++ term minus o ∷ []))) q read rest)))
sum_back ls s Then (NextNumber sum minus) l part goes ends =
    by_number ls s (λ k. AfterSumming (NextNumber sum minus) Then (k ∷ ls)) l part (λ o. more sum minus o)
    (λ m q read rest. next_number_done Then ls sum minus m
    (goes (Ready (sum_with sum (sum.rest ++ term minus (operand.Literal (literal.Int (neg_ℤ (pos m)))) ∷ []))) q read rest))
