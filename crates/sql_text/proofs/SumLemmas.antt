-- Lexemes in the form of a sum are read as it.
use Rattle.std.proofs.Common.{◌≡◌, Bool, true, false, List, [], ◌∷◌, ◌++◌, Ok, refl, sym, ap, ◌∙◌, inl, inr, append_assoc}
use Rattle.std.proofs.lemmas.List.{append-nil}
use Rattle.sql_text.specs.declared.keyword.Keyword.TheVariants as words
use Rattle.sql_text.specs.declared.lexeme.Lexeme.{Lexeme}
use Rattle.sql_text.specs.declared.lexeme.Lexeme.TheVariants.{Keyword, Name, Number, Text, Sign, Minus}
use Rattle.sql_text.specs.declared.lexeme.Sign.TheVariants as signs
use Rattle.sql_text.specs.declared.reading.Reading.{Reading}
use Rattle.sql_text.specs.declared.statement.Literal.TheVariants as literal
use Rattle.sql_text.specs.declared.statement.Operand.{Operand}
use Rattle.sql_text.specs.declared.statement.Operand.TheVariants as operand
use Rattle.sql_text.specs.declared.statement.Sum.{Sum}
use Rattle.sql_text.specs.declared.statement.Term.{Term}
use Rattle.sql_text.specs.declared.sum.Summing.{Summing}
use Rattle.sql_text.specs.declared.sum.Summing.TheVariants.{First, FirstNumber, Ready, Next, NextNumber}
use Rattle.sql_text.specs.declared.sum.SumStep.TheVariants.{Goes}
use Rattle.sql_text.specs.Parts.{IsOperand, IsOperator, AreTerms, IsSum}
use Rattle.sql_text.specs.Reading.{next}
use Rattle.sql_text.proofs.ReadAll.{and_then, read_all}
use Rattle.sql_text.specs.Steps.{same_keyword, same_sign, name_in, column_in, text_in}
use Rattle.sql_text.specs.Sums.{literal_in, operand_in, negative_operand, sum_step}
use Rattle.sql_text.proofs.ReadAll.{read_all-append}

-- these lexemes lead from one to the other
abbrev pub Leads : Reading → List Lexeme → Reading → Type 0
Leads r ls q = read_all r ls ≡ Ok q

pub both : (r q p : Reading) (xs ys : List Lexeme) → Leads r xs q → Leads q ys p → Leads r (xs ++ ys) p
both r q p xs ys a b = read_all-append r xs ys ∙ ap (λ s. and_then s (λ o. read_all o ys)) a ∙ b

-- a sum within something that goes on as the sum does
abbrev pub GoesOn : (Summing → Reading) → Type 0
GoesOn within = (s q : Summing) (l : Lexeme) → sum_step s l ≡ Ok (Goes q) → next (within s) l ≡ Ok (within q)

one : (w : Summing → Reading) (goes : GoesOn w) (s q : Summing) (l : Lexeme) → sum_step s l ≡ Ok (Goes q) → Leads (w s) (l ∷ []) (w q)
one w goes s q l is = ap (λ st. and_then st (λ o. Ok o)) (goes s q l is)

-- a sum of one operand
abbrev sum_of : Operand → Sum
sum_of o = record { first = o; rest = [] }

-- a sum with one operand more
abbrev with_term : Sum → Bool → Operand → Sum
with_term sum minus o = record { first = sum.first; rest = sum.rest ++ record { minus = minus; operand = o } ∷ [] }

first_leads : (w : Summing → Reading) (goes : GoesOn w) (ls : List Lexeme) (o : Operand) → IsOperand ls o → Leads (w First) ls (w (Ready (sum_of o)))
unfolding sum_step operand_in negative_operand literal_in text_in column_in name_in same_keyword
first_leads w goes ls (operand.Literal literal.Null) is = rw is (one w goes First _ (Keyword words.Null) refl)
first_leads w goes ls (operand.Literal (literal.Int n)) (inl p) = rw (p.1, p.2) (one w goes First _ (Number p.0) refl)
first_leads w goes ls (operand.Literal (literal.Int n)) (inr p) =
    rw (p.1, p.2) (both (w First) (w FirstNumber) _ (Minus true ∷ []) (Number p.0 ∷ []) (one w goes First FirstNumber (Minus true) refl) (one w goes FirstNumber _ (Number p.0) refl))
first_leads w goes ls (operand.Literal (literal.Text text)) is = rw is (one w goes First _ (Text text) refl)
first_leads w goes ls (operand.Column column) is = rw (is.1, is.2) (one w goes First _ (Name is.0) refl)

next_leads : (w : Summing → Reading) (goes : GoesOn w) (sum : Sum) (m : Bool) (ls : List Lexeme) (o : Operand) → IsOperand ls o → Leads (w (Next sum m)) ls (w (Ready (with_term sum m o)))
unfolding sum_step operand_in negative_operand literal_in text_in column_in name_in same_keyword
next_leads w goes sum m ls (operand.Literal literal.Null) is = rw is (one w goes (Next sum m) _ (Keyword words.Null) refl)
next_leads w goes sum m ls (operand.Literal (literal.Int n)) (inl p) = rw (p.1, p.2) (one w goes (Next sum m) _ (Number p.0) refl)
next_leads w goes sum m ls (operand.Literal (literal.Int n)) (inr p) =
    rw (p.1, p.2) (both (w (Next sum m)) (w (NextNumber sum m)) _ (Minus true ∷ []) (Number p.0 ∷ []) (one w goes (Next sum m) (NextNumber sum m) (Minus true) refl) (one w goes (NextNumber sum m) _ (Number p.0) refl))
next_leads w goes sum m ls (operand.Literal (literal.Text text)) is = rw is (one w goes (Next sum m) _ (Text text) refl)
next_leads w goes sum m ls (operand.Column column) is = rw (is.1, is.2) (one w goes (Next sum m) _ (Name is.0) refl)

operator_leads : (w : Summing → Reading) (goes : GoesOn w) (sum : Sum) (m : Bool) (l : Lexeme) → IsOperator l m → Leads (w (Ready sum)) (l ∷ []) (w (Next sum m))
unfolding sum_step same_sign
operator_leads w goes sum true l is = rw is.1 (one w goes (Ready sum) (Next sum true) (Minus is.0) refl)
operator_leads w goes sum false l is = rw is (one w goes (Ready sum) (Next sum false) (Sign signs.Plus) refl)

abbrev with_terms : Sum → List Term → Sum
with_terms sum ts = record { first = sum.first; rest = sum.rest ++ ts }

terms_lead : (w : Summing → Reading) (goes : GoesOn w) (sum : Sum) (ls : List Lexeme) (ts : List Term) → AreTerms ls ts → Leads (w (Ready sum)) ls (w (Ready (with_terms sum ts)))
terms_lead w goes sum ls [] is = rw is (ap (λ rs. Ok (w (Ready (record { first = sum.first; rest = rs })))) (sym (append-nil sum.rest)))
terms_lead w goes sum ls (t ∷ ts) is =
    let further = with_term sum t.minus t.operand in
    let done = with_terms further ts in
    let others = terms_lead w goes further is.2 ts is.6 in
    let behind = both (w (Next sum t.minus)) (w (Ready further)) (w (Ready done)) is.1 is.2 (next_leads w goes sum t.minus is.1 t.operand is.5) others in
    let all = both (w (Ready sum)) (w (Next sum t.minus)) (w (Ready done)) (is.0 ∷ []) (is.1 ++ is.2) (operator_leads w goes sum t.minus is.0 is.4) behind in
    rw is.3 (all ∙ ap (λ rs. Ok (w (Ready (record { first = sum.first; rest = rs })))) (append_assoc sum.rest (t ∷ []) ts))

pub sum_leads : (w : Summing → Reading) (goes : GoesOn w) (ls : List Lexeme) (sum : Sum) → IsSum ls sum → Leads (w First) ls (w (Ready sum))
sum_leads w goes ls sum is =
    rw is.2 (both (w First) (w (Ready (sum_of sum.first))) (w (Ready sum)) is.0 is.1 (first_leads w goes is.0 sum.first is.3) (terms_lead w goes (sum_of sum.first) is.1 sum.rest is.4))
