-- Lexemes in the form of a condition are read as it.
use Rattle.std.proofs.Common.{◌≡◌, ℕ, suc, ◌+◌, arith, Bool, true, false, List, [], ◌∷◌, ◌++◌, replicate, Option, Some, None, Ok, refl, sym, ap, ◌∙◌, inl, inr, append_assoc}
use Rattle.std.proofs.lemmas.List.{append-nil}
use Rattle.sql_text.specs.declared.filter.FilterDue.{FilterDue}
use Rattle.sql_text.specs.declared.filter.FilterDue.TheVariants as due
use Rattle.sql_text.specs.declared.filter.Head.{Head}
use Rattle.sql_text.specs.declared.filter.Level.{Level}
use Rattle.sql_text.specs.declared.filter.Tests.{Tests}
use Rattle.sql_text.specs.declared.keyword.Keyword.TheVariants as words
use Rattle.sql_text.specs.declared.lexeme.Lexeme.{Lexeme}
use Rattle.sql_text.specs.declared.lexeme.Lexeme.TheVariants.{Keyword, Sign, End}
use Rattle.sql_text.specs.declared.lexeme.Sign.TheVariants as signs
use Rattle.sql_text.specs.declared.reading.Reading.{Reading}
use Rattle.sql_text.specs.declared.reading.Reading.TheVariants.{Head as Headed, Filtering, Done}
use Rattle.sql_text.specs.declared.statement.Cond.{Cond}
use Rattle.sql_text.specs.declared.statement.Literal.TheVariants as literal
use Rattle.sql_text.specs.declared.statement.Op.{Op}
use Rattle.sql_text.specs.declared.statement.Op.TheVariants as ops
use Rattle.sql_text.specs.declared.statement.Operand.{Operand}
use Rattle.sql_text.specs.declared.statement.Operand.TheVariants as operand
use Rattle.sql_text.specs.declared.statement.Step.{Step}
use Rattle.sql_text.specs.declared.statement.Step.TheVariants.{Or, And, Not, Compare, IsNull}
use Rattle.sql_text.specs.declared.statement.Sum.{Sum}
use Rattle.sql_text.specs.declared.sum.Summing.{Summing}
use Rattle.sql_text.specs.declared.sum.Summing.TheVariants.{First, Ready}
use Rattle.sql_text.specs.declared.sum.SumStep.TheVariants.{Goes}
use Rattle.sql_text.specs.Conditions.{IsFilter, IsPart, IsTest, Part, member, ands, ors, joined_by_and, joined_by_or, null_words, sign_of}
use Rattle.sql_text.specs.Conditions.IsPart.{test, negated, enclosed, one_and, more_ands, one_or, more_ors}
use Rattle.sql_text.specs.Filter.{next as filter_next, at_end, closed, compared, finish, finished, left, left_part, member as member_step, member_of, more, null, op, pop_last, right_part, with_and, with_member, with_not, with_or, with_test}
use Rattle.sql_text.specs.Parts.{IsOperand, IsSum}
use Rattle.sql_text.specs.Reading.{next}
use Rattle.sql_text.proofs.ReadAll.{and_then, read_all}
use Rattle.sql_text.specs.Steps.{◌>>=◌, same_keyword, same_sign, is_sign}
use Rattle.sql_text.specs.Sums.{is_minus, sum_step}
use Rattle.sql_text.proofs.BackLevels.{and_front, not_more, or_front}
use Rattle.sql_text.proofs.ReadAll.{read_all-append}
use Rattle.sql_text.proofs.FilterLemmas.{pop_last-push}
use Rattle.sql_text.proofs.SumLemmas.{Leads, sum_leads}

abbrev filter_at : Head → Tests → FilterDue → Reading
filter_at h t next_due = Filtering (record { head = h; tests = t; due = next_due })

abbrev tests_at : List Step → List Level → ℕ → ℕ → Tests
tests_at steps outer o a = record { steps = steps; outer = outer; level = record { ors = o; ands = a; nots = 0 } }

-- the tests with this member
abbrev with_part : Tests → List Step → Tests
with_part t steps = tests_at ((t.steps ++ steps) ++ replicate t.level.nots Not) t.outer t.level.ors (t.level.ands + 1)

-- it goes on with no sum
abbrev EndsSum : Lexeme → Type 0
EndsSum l = (is_sign signs.Plus l ≡ false) × (is_minus l ≡ false)

-- what leads from one to the other, leads on behind it
pub led : (r q : Reading) (xs ys : List Lexeme) → Leads r xs q → read_all r (xs ++ ys) ≡ read_all q ys
led r q xs ys leads = read_all-append r xs ys ∙ ap (λ s. and_then s (λ o. read_all o ys)) leads

-- ---- tests

left_goes : (h : Head) (t : Tests) (s q : Summing) (l : Lexeme) → sum_step s l ≡ Ok (Goes q) → next (filter_at h t (due.Left s)) l ≡ Ok (filter_at h t (due.Left q))
unfolding next filter_next left
left_goes h t s q l goes = ap (λ st. st >>= left_part h t l) goes

right_goes : (h : Head) (t : Tests) (sum : Sum) (o : Op) (s q : Summing) (l : Lexeme) → sum_step s l ≡ Ok (Goes q)
    → next (filter_at h t (due.Right sum o s)) l ≡ Ok (filter_at h t (due.Right sum o q))
unfolding next filter_next
right_goes h t sum o s q l goes = ap (λ st. st >>= right_part h t sum o l) goes

-- a member that begins with an operand is a test
test_begins : (h : Head) (t : Tests) (front : List Lexeme) (o : Operand) (rest : List Lexeme) → IsOperand front o
    → read_all (filter_at h t due.Member) (front ++ rest) ≡ read_all (filter_at h t (due.Left First)) (front ++ rest)
unfolding next filter_next member_step same_keyword same_sign
test_begins h t front (operand.Literal literal.Null) rest is = rw is refl
test_begins h t front (operand.Literal (literal.Int n)) rest (inl p) = rw p.1 refl
test_begins h t front (operand.Literal (literal.Int n)) rest (inr p) = rw p.1 refl
test_begins h t front (operand.Literal (literal.Text text)) rest is = rw is refl
test_begins h t front (operand.Column column) rest is = rw is.1 refl

left_read : (h : Head) (t : Tests) (ls : List Lexeme) (sum : Sum) (rest : List Lexeme) → IsSum ls sum
    → read_all (filter_at h t due.Member) (ls ++ rest) ≡ read_all (filter_at h t (due.Left (Ready sum))) rest
left_read h t ls sum rest (front, back, cut, is, terms) =
    let begins = test_begins h t front sum.first (back ++ rest) is in
    let same : ls ++ rest ≡ front ++ (back ++ rest) = ap (λ zs. zs ++ rest) cut ∙ append_assoc front back rest in
    let sums = led (filter_at h t (due.Left First)) (filter_at h t (due.Left (Ready sum))) ls rest
    (sum_leads (λ s. filter_at h t (due.Left s)) (left_goes h t) ls sum (front, back, cut, is, terms)) in
    ap (read_all (filter_at h t due.Member)) same ∙ begins ∙ ap (read_all (filter_at h t (due.Left First))) (sym same) ∙ sums

op_read : (h : Head) (t : Tests) (sum : Sum) (o : Op) → next (filter_at h t (due.Left (Ready sum))) (Sign (sign_of o)) ≡ Ok (filter_at h t (due.Right sum o First))
unfolding next filter_next left op sum_step same_sign
op_read h t sum ops.Eq = refl
op_read h t sum ops.Ne = refl
op_read h t sum ops.Lt = refl
op_read h t sum ops.Le = refl
op_read h t sum ops.Gt = refl
op_read h t sum ops.Ge = refl

-- behind the right sum stands what stands behind a member
right_read : (h : Head) (t : Tests) (sum : Sum) (o : Op) (right : Sum) (l : Lexeme) → EndsSum l
    → next (filter_at h t (due.Right sum o (Ready right))) l ≡ next (filter_at h (with_part t (Compare sum o right ∷ [])) due.More) l
unfolding next filter_next compared with_test with_member sum_step
right_read h t sum o right l (no_plus, no_minus) = rw (no_plus, no_minus) refl

compare_read : (h : Head) (t : Tests) (ls : List Lexeme) (sum : Sum) (o : Op) (right : Sum) (l : Lexeme) (rest : List Lexeme) → IsTest ls (Compare sum o right) → EndsSum l
    → read_all (filter_at h t due.Member) (ls ++ l ∷ rest) ≡ read_all (filter_at h (with_part t (Compare sum o right ∷ [])) due.More) (l ∷ rest)
compare_read h t ls sum o right l rest (front, back, cut, is_left, is_right) ends =
    let sign = Sign (sign_of o) in
    let same : ls ++ l ∷ rest ≡ front ++ (sign ∷ (back ++ l ∷ rest)) = ap (λ zs. zs ++ l ∷ rest) cut ∙ append_assoc front (sign ∷ back) (l ∷ rest) in
    let begun = left_read h t front sum (sign ∷ (back ++ l ∷ rest)) is_left in
    let signed = ap (λ st. and_then st (λ q. read_all q (back ++ l ∷ rest))) (op_read h t sum o) in
    let rights = led (filter_at h t (due.Right sum o First)) (filter_at h t (due.Right sum o (Ready right))) back (l ∷ rest)
    (sum_leads (λ s. filter_at h t (due.Right sum o s)) (right_goes h t sum o) back right is_right) in
    let last = ap (λ st. and_then st (λ q. read_all q rest)) (right_read h t sum o right l ends) in
    ap (read_all (filter_at h t due.Member)) same ∙ begun ∙ signed ∙ rights ∙ last

null_leads : (h : Head) (t : Tests) (sum : Sum) (is_not : Bool)
    → Leads (filter_at h t (due.Left (Ready sum))) (Keyword words.Is ∷ null_words is_not) (filter_at h (with_part t (IsNull sum is_not ∷ [])) due.More)
unfolding next filter_next left op null with_test with_member sum_step same_sign same_keyword
null_leads h t sum true = refl
null_leads h t sum false = refl

null_read : (h : Head) (t : Tests) (ls : List Lexeme) (sum : Sum) (is_not : Bool) (rest : List Lexeme) → IsTest ls (IsNull sum is_not)
    → read_all (filter_at h t due.Member) (ls ++ rest) ≡ read_all (filter_at h (with_part t (IsNull sum is_not ∷ [])) due.More) rest
null_read h t ls sum is_not rest (front, cut, is) =
    let words = Keyword words.Is ∷ null_words is_not in
    let same : ls ++ rest ≡ front ++ (words ++ rest) = ap (λ zs. zs ++ rest) cut ∙ append_assoc front words rest in
    ap (read_all (filter_at h t due.Member)) same ∙ left_read h t front sum (words ++ rest) is
    ∙ led (filter_at h t (due.Left (Ready sum))) (filter_at h (with_part t (IsNull sum is_not ∷ [])) due.More) words rest (null_leads h t sum is_not)

test_read : (h : Head) (t : Tests) (ls : List Lexeme) (step : Step) (l : Lexeme) (rest : List Lexeme) → IsTest ls step → EndsSum l
    → read_all (filter_at h t due.Member) (ls ++ l ∷ rest) ≡ read_all (filter_at h (with_part t (step ∷ [])) due.More) (l ∷ rest)
test_read h t ls (Compare sum o right) l rest is ends = compare_read h t ls sum o right l rest is ends
test_read h t ls (IsNull sum is_not) l rest is ends = null_read h t ls sum is_not (l ∷ rest) is
test_read h t ls Not l rest is ends = absurd is
test_read h t ls (And members) l rest is ends = absurd is
test_read h t ls (Or members) l rest is ends = absurd is

-- ---- members and what joins them

abbrev MemberReads : List Lexeme → List Step → Type 0
MemberReads ls steps =
    (h : Head) (t : Tests) (l : Lexeme) (rest : List Lexeme) → EndsSum l
    → read_all (filter_at h t due.Member) (ls ++ l ∷ rest) ≡ read_all (filter_at h (with_part t steps) due.More) (l ∷ rest)

abbrev AndsRead : ℕ → List Lexeme → List Step → Type 0
AndsRead n ls steps =
    (h : Head) (before : List Step) (outer : List Level) (o a : ℕ) (l : Lexeme) (rest : List Lexeme) → EndsSum l
    → read_all (filter_at h (tests_at before outer o a) due.Member) (ls ++ l ∷ rest)
    ≡ read_all (filter_at h (tests_at (before ++ steps) outer o (a + n)) due.More) (l ∷ rest)

-- what has been read behind an OR of n members
pub record OrsRead (n : ℕ) (ls : List Lexeme) (steps : List Step) (h : Head) (before : List Step) (outer : List Level) (o : ℕ) (l : Lexeme) (rest : List Lexeme) : Type 0 where
  pub last : List Step
  pub ors_read : ℕ
  pub ands_read : ℕ
  pub read : read_all (filter_at h (tests_at before outer o 0) due.Member) (ls ++ l ∷ rest)
      ≡ read_all (filter_at h (tests_at last outer ors_read ands_read) due.More) (l ∷ rest)
  pub joined : joined_by_and ands_read last ≡ before ++ steps
  pub count : ors_read + 1 ≡ o + n

abbrev PartReads : Part → List Lexeme → List Step → Type 0
PartReads member ls steps = MemberReads ls steps
PartReads (ands n) ls steps = AndsRead n ls steps
PartReads (ors n) ls steps =
    (h : Head) (before : List Step) (outer : List Level) (o : ℕ) (l : Lexeme) (rest : List Lexeme) → EndsSum l → OrsRead n ls steps h before outer o l rest

not_read : (h : Head) (t : Tests) → next (filter_at h t due.Member) (Keyword words.Not)
    ≡ Ok (filter_at h (record { steps = t.steps; outer = t.outer; level = record { ors = t.level.ors; ands = t.level.ands; nots = t.level.nots + 1 } }) due.Member)
unfolding next filter_next member_step with_not same_keyword
not_read h t = refl

negated_reads : (ls : List Lexeme) (steps : List Step) → MemberReads ls steps → MemberReads (Keyword words.Not ∷ ls) (steps ++ Not ∷ [])
negated_reads ls steps reads h t l rest ends =
    let inner : Tests = record { steps = t.steps; outer = t.outer; level = record { ors = t.level.ors; ands = t.level.ands; nots = t.level.nots + 1 } } in
    let same : (t.steps ++ steps) ++ replicate (t.level.nots + 1) Not ≡ (t.steps ++ (steps ++ Not ∷ [])) ++ replicate t.level.nots Not =
    not_more t.level.nots (t.steps ++ steps) ∙ ap (λ zs. zs ++ replicate t.level.nots Not) (append_assoc t.steps steps (Not ∷ [])) in
    ap (λ st. and_then st (λ q. read_all q (ls ++ l ∷ rest))) (not_read h t) ∙ reads h inner l rest ends
    ∙ ap (λ zs. read_all (filter_at h (tests_at zs t.outer t.level.ors (t.level.ands + 1)) due.More) (l ∷ rest)) same

open_read : (h : Head) (t : Tests) → next (filter_at h t due.Member) (Sign signs.Open) ≡ Ok (filter_at h (tests_at t.steps (t.outer ++ t.level ∷ []) 0 0) due.Member)
unfolding next filter_next member_step same_sign
open_read h t = refl

closing : (h : Head) (t : Tests) (last : List Step) (o a : ℕ) (p : Option (List Level × Level)) → p ≡ Some (t.outer, t.level)
    → (member_of (joined_by_or (o + 1) (joined_by_and a last)) p >>= (λ joined. Ok (filter_at h joined due.More)))
    ≡ Ok (filter_at h (tests_at (joined_by_or (o + 1) (joined_by_and a last) ++ replicate t.level.nots Not) t.outer t.level.ors (t.level.ands + 1)) due.More)
unfolding with_member
closing h t last o a p is = rw is refl

close_read : (h : Head) (t : Tests) (last : List Step) (o a : ℕ) → next (filter_at h (tests_at last (t.outer ++ t.level ∷ []) o a) due.More) (Sign signs.Close)
    ≡ Ok (filter_at h (tests_at (joined_by_or (o + 1) (joined_by_and a last) ++ replicate t.level.nots Not) t.outer t.level.ors (t.level.ands + 1)) due.More)
unfolding next filter_next more closed with_or with_and same_sign
close_read h t last o a = closing h t last o a (pop_last (t.outer ++ t.level ∷ [])) (pop_last-push t.outer t.level)

enclosed_reads : (n : ℕ) (ls : List Lexeme) (steps : List Step) → PartReads (ors n) ls steps → MemberReads (Sign signs.Open ∷ (ls ++ Sign signs.Close ∷ [])) (joined_by_or n steps)
enclosed_reads n ls steps reads h t l rest ends =
    let found = reads h t.steps (t.outer ++ t.level ∷ []) 0 (Sign signs.Close) (l ∷ rest) (unfold same_sign in (refl, refl)) in
    let count : found.ors_read + 1 ≡ n = omega (arith, found.count) in
    let whole : joined_by_or (found.ors_read + 1) (joined_by_and found.ands_read found.last) ≡ t.steps ++ joined_by_or n steps =
    ap (λ k. joined_by_or k (joined_by_and found.ands_read found.last)) count ∙ ap (joined_by_or n) found.joined ∙ or_front n t.steps steps in
    ap (λ st. and_then st (λ q. read_all q ((ls ++ Sign signs.Close ∷ []) ++ l ∷ rest))) (open_read h t)
    ∙ ap (read_all (filter_at h (tests_at t.steps (t.outer ++ t.level ∷ []) 0 0) due.Member)) (append_assoc ls (Sign signs.Close ∷ []) (l ∷ rest))
    ∙ found.read
    ∙ ap (λ st. and_then st (λ q. read_all q (l ∷ rest))) (close_read h t found.last found.ors_read found.ands_read)
    ∙ ap (λ zs. read_all (filter_at h (tests_at (zs ++ replicate t.level.nots Not) t.outer t.level.ors (t.level.ands + 1)) due.More) (l ∷ rest)) whole

one_and_reads : (ls : List Lexeme) (steps : List Step) → MemberReads ls steps → AndsRead 1 ls steps
one_and_reads ls steps reads h before outer o a l rest ends =
    reads h (tests_at before outer o a) l rest ends
    ∙ ap (λ zs. read_all (filter_at h (tests_at zs outer o (a + 1)) due.More) (l ∷ rest)) (append-nil (before ++ steps))

and_read : (h : Head) (t : Tests) → next (filter_at h t due.More) (Keyword words.And) ≡ Ok (filter_at h t due.Member)
unfolding next filter_next more same_keyword
and_read h t = refl

more_ands_read : (n : ℕ) (front back : List Lexeme) (first others : List Step) → MemberReads front first → AndsRead n back others
    → AndsRead (suc n) (front ++ Keyword words.And ∷ back) (first ++ others)
more_ands_read n front back first others reads behind h before outer o a l rest ends =
    let read = one_and_reads front first reads h before outer o a (Keyword words.And) (back ++ l ∷ rest) (refl, refl) in
    let count : (a + 1) + n ≡ a + suc n = omega arith in
    ap (read_all (filter_at h (tests_at before outer o a) due.Member)) (append_assoc front (Keyword words.And ∷ back) (l ∷ rest)) ∙ read
    ∙ ap (λ st. and_then st (λ q. read_all q (back ++ l ∷ rest))) (and_read h (tests_at (before ++ first) outer o (a + 1)))
    ∙ behind h (before ++ first) outer o (a + 1) l rest ends
    ∙ ap (λ zs. read_all (filter_at h (tests_at zs outer o ((a + 1) + n)) due.More) (l ∷ rest)) (append_assoc before first others)
    ∙ ap (λ k. read_all (filter_at h (tests_at (before ++ (first ++ others)) outer o k) due.More) (l ∷ rest)) count

one_or_reads : (n : ℕ) (ls : List Lexeme) (steps : List Step) → AndsRead n ls steps → PartReads (ors 1) ls (joined_by_and n steps)
one_or_reads n ls steps reads h before outer o l rest ends =
    let count : 0 + n ≡ n = omega arith in
    record {
      last = before ++ steps;
      ors_read = o;
      ands_read = 0 + n;
      read = reads h before outer o 0 l rest ends;
      joined = ap (λ k. joined_by_and k (before ++ steps)) count ∙ and_front n before steps;
      count = refl;
    }

or_read : (h : Head) (before : List Step) (outer : List Level) (o a : ℕ) → next (filter_at h (tests_at before outer o a) due.More) (Keyword words.Or)
    ≡ Ok (filter_at h (tests_at (joined_by_and a before) outer (o + 1) 0) due.Member)
unfolding next filter_next more with_and same_keyword
or_read h before outer o a = refl

more_ors_read : (n k : ℕ) (front back : List Lexeme) (first others : List Step) → AndsRead k front first → PartReads (ors n) back others
    → PartReads (ors (suc n)) (front ++ Keyword words.Or ∷ back) (joined_by_and k first ++ others)
more_ors_read n k front back first others reads behind h before outer o l rest ends =
    let read = reads h before outer o 0 (Keyword words.Or) (back ++ l ∷ rest) (refl, refl) in
    let none : 0 + k ≡ k = omega arith in
    let left = joined_by_and (0 + k) (before ++ first) in
    let found = behind h left outer (o + 1) l rest ends in
    record {
      last = found.last;
      ors_read = found.ors_read;
      ands_read = found.ands_read;
      read = ap (read_all (filter_at h (tests_at before outer o 0) due.Member)) (append_assoc front (Keyword words.Or ∷ back) (l ∷ rest)) ∙ read
          ∙ ap (λ st. and_then st (λ q. read_all q (back ++ l ∷ rest))) (or_read h (before ++ first) outer o (0 + k)) ∙ found.read;
      joined = found.joined ∙ ap (λ m. joined_by_and m (before ++ first) ++ others) none ∙ ap (λ zs. zs ++ others) (and_front k before first)
          ∙ append_assoc before (joined_by_and k first) others;
      count = omega (arith, found.count);
    }

part_reads : (p : Part) (ls : List Lexeme) (steps : List Step) → IsPart p ls steps → PartReads p ls steps
part_reads p ls steps (test xs step is) = λ h t l rest ends. test_read h t xs step l rest is ends
part_reads p ls steps (negated xs ys part) = negated_reads xs ys (part_reads member xs ys part)
part_reads p ls steps (enclosed n xs ys part) = enclosed_reads n xs ys (part_reads (ors n) xs ys part)
part_reads p ls steps (one_and xs ys part) = one_and_reads xs ys (part_reads member xs ys part)
part_reads p ls steps (more_ands n front back first others part parts) =
    more_ands_read n front back first others (part_reads member front first part) (part_reads (ands n) back others parts)
part_reads p ls steps (one_or n xs ys part) = one_or_reads n xs ys (part_reads (ands n) xs ys part)
part_reads p ls steps (more_ors n k front back first others part parts) =
    more_ors_read n k front back first others (part_reads (ands k) front first part) (part_reads (ors n) back others parts)

-- ---- WHERE

-- what may end a statement
abbrev pub tail : Bool → List Lexeme
tail true = Sign signs.Semicolon ∷ End ∷ []
tail false = End ∷ []

tests_end : (b : Bool) (h : Head) (last : List Step) (o a : ℕ)
    → Leads (filter_at h (tests_at last [] o a) due.More) (tail b) (Done (finish h (Some (record { steps = joined_by_or (o + 1) (joined_by_and a last) }))))
unfolding next filter_next more at_end finished with_or with_and same_sign
tests_end true h last o a = refl
tests_end false h last o a = refl

none_end : (b : Bool) (h : Head) → Leads (Headed h) (tail b) (Done (finish h None))
unfolding next same_sign same_keyword
none_end true h = refl
none_end false h = refl

where_read : (h : Head) → next (Headed h) (Keyword words.Where) ≡ Ok (filter_at h (tests_at [] [] 0 0) due.Member)
unfolding next same_keyword
where_read h = refl

condition_leads : (b : Bool) (h : Head) (n : ℕ) (ls : List Lexeme) (members : List Step) → PartReads (ors n) ls members
    → Leads (filter_at h (tests_at [] [] 0 0) due.Member) (ls ++ tail b) (Done (finish h (Some (record { steps = joined_by_or n members }))))
unfolding same_sign
condition_leads true h n ls members reads =
    let found = reads h [] [] 0 (Sign signs.Semicolon) (End ∷ []) (refl, refl) in
    let count : found.ors_read + 1 ≡ n = omega (arith, found.count) in
    found.read ∙ tests_end true h found.last found.ors_read found.ands_read
    ∙ ap (λ k. Ok (Done (finish h (Some (record { steps = joined_by_or k (joined_by_and found.ands_read found.last) }))))) count
    ∙ ap (λ zs. Ok (Done (finish h (Some (record { steps = joined_by_or n zs }))))) found.joined
condition_leads false h n ls members reads =
    let found = reads h [] [] 0 End [] (refl, refl) in
    let count : found.ors_read + 1 ≡ n = omega (arith, found.count) in
    found.read ∙ tests_end false h found.last found.ors_read found.ands_read
    ∙ ap (λ k. Ok (Done (finish h (Some (record { steps = joined_by_or k (joined_by_and found.ands_read found.last) }))))) count
    ∙ ap (λ zs. Ok (Done (finish h (Some (record { steps = joined_by_or n zs }))))) found.joined

-- a statement with its condition, or with none, is read to its end
pub filter_leads : (b : Bool) (h : Head) (ls : List Lexeme) (c : Option Cond) → IsFilter ls c → Leads (Headed h) (ls ++ tail b) (Done (finish h c))
filter_leads b h ls None is = rw is (none_end b h)
filter_leads b h ls (Some c) (body, is, (n, members, part, whole)) =
    rw is
    (ap (λ st. and_then st (λ q. read_all q (body ++ tail b))) (where_read h) ∙ condition_leads b h n body members (part_reads (ors n) body members part)
    ∙ ap (λ zs. Ok (Done (finish h (Some (record { steps = zs }))))) (sym whole))
