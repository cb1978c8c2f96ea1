-- What completes a condition behind a step, completes it before.
use Rattle.std.proofs.Common.{◌≡◌, ℕ, ◌+◌, Bool, true, false, List, [], ◌∷◌, ◌++◌, replicate, Option, Some, None, Ok, Err, refl, sym, ap, ◌∙◌, subst, inl, inr, append_assoc}
use Rattle.std.proofs.lemmas.List.{append-nil}
use Rattle.sql_text.specs.declared.filter.FilterDue.{FilterDue}
use Rattle.sql_text.specs.declared.filter.FilterDue.TheVariants as due
use Rattle.sql_text.specs.declared.filter.Head.{Head}
use Rattle.sql_text.specs.declared.filter.Level.{Level}
use Rattle.sql_text.specs.declared.filter.Tests.{Tests}
use Rattle.sql_text.specs.declared.keyword.Keyword.TheVariants as words
use Rattle.sql_text.specs.declared.lexeme.Lexeme.{Lexeme}
use Rattle.sql_text.specs.declared.lexeme.Lexeme.TheVariants.{Keyword, Sign}
use Rattle.sql_text.specs.declared.lexeme.Sign.{Sign as Signs}
use Rattle.sql_text.specs.declared.lexeme.Sign.TheVariants as signs
use Rattle.sql_text.specs.declared.statement.Op.{Op}
use Rattle.sql_text.specs.declared.statement.Op.TheVariants as ops
use Rattle.sql_text.specs.declared.statement.Statement.{Statement}
use Rattle.sql_text.specs.declared.statement.Step.{Step as CondStep}
use Rattle.sql_text.specs.declared.statement.Step.TheVariants.{Not, Compare, IsNull}
use Rattle.sql_text.specs.declared.statement.Sum.{Sum}
use Rattle.sql_text.specs.declared.step.StepFault.{StepFault}
use Rattle.sql_text.specs.declared.sum.Summing.{Summing}
use Rattle.sql_text.specs.declared.sum.Summing.TheVariants.{First}
use Rattle.sql_text.specs.Conditions.{IsPart, member, joined_by_and, joined_by_or, null_words, sign_of}
use Rattle.sql_text.specs.Conditions.IsPart.{test, negated, enclosed}
use Rattle.sql_text.specs.Filter.{at as filter_at, at_end, at_level, close_next, closed, compared, empty, finish, finished, head_next, is, left, left_part, member as member_step, member_of, more, not_next, null, null_next, op, op_in, op_next, op_of, open_next, or_next, pop_last, right_part, with_and, with_due, with_member, with_not, with_or, with_test}
use Rattle.sql_text.specs.Steps.{◌>>=◌}
use Rattle.sql_text.specs.Whole.{whole}
use Rattle.sql_text.proofs.BackLemmas.{From, reads, refuses, by_word, by_sign, by_whole}
use Rattle.sql_text.proofs.BackLevels.{and_more, ends_here, inside_out-push, level_whole, not_more, or_more, pop_last-some}
use Rattle.sql_text.proofs.BackSums.{sum_back}
use Rattle.sql_text.proofs.Rests.{AfterFiltering, AfterHead, AfterLevel, AfterMember, AfterSumming, AtIs, AtMember, AtNull, AtOp, AtRight, EndsLevel, InLevel, inside_out}

-- ---- tests

by_op : (h : Head) (t : Tests) (sum : Sum) (sg : Signs) (ls : List Lexeme) (s : Statement) → From ls s (op_next h t sum (op_of sg)) (AtOp h t sum (Sign sg ∷ ls) s)
by_op h t sum signs.Equal ls s = reads ls s (with_due h t (due.Right sum ops.Eq First)) (AtOp h t sum (Sign signs.Equal ∷ ls) s) (λ r. inr (ops.Eq, ls, refl, r))
by_op h t sum signs.NotEqual ls s = reads ls s (with_due h t (due.Right sum ops.Ne First)) (AtOp h t sum (Sign signs.NotEqual ∷ ls) s) (λ r. inr (ops.Ne, ls, refl, r))
by_op h t sum signs.Less ls s = reads ls s (with_due h t (due.Right sum ops.Lt First)) (AtOp h t sum (Sign signs.Less ∷ ls) s) (λ r. inr (ops.Lt, ls, refl, r))
by_op h t sum signs.LessEqual ls s = reads ls s (with_due h t (due.Right sum ops.Le First)) (AtOp h t sum (Sign signs.LessEqual ∷ ls) s) (λ r. inr (ops.Le, ls, refl, r))
by_op h t sum signs.Greater ls s = reads ls s (with_due h t (due.Right sum ops.Gt First)) (AtOp h t sum (Sign signs.Greater ∷ ls) s) (λ r. inr (ops.Gt, ls, refl, r))
by_op h t sum signs.GreaterEqual ls s =
    reads ls s (with_due h t (due.Right sum ops.Ge First)) (AtOp h t sum (Sign signs.GreaterEqual ∷ ls) s) (λ r. inr (ops.Ge, ls, refl, r))
by_op h t sum _ ls s = λ q read rest. absurd cc

compare_back : (h : Head) (t : Tests) (sum : Sum) (l : Lexeme) (ls : List Lexeme) (s : Statement)
    → From ls s (op_next h t sum (op_in l)) (AtOp h t sum (l ∷ ls) s)
compare_back h t sum (Sign sg) ls s = by_op h t sum sg ls s
compare_back h t sum _ ls s = λ q read rest. absurd cc

op_back : (h : Head) (t : Tests) (sum : Sum) (l : Lexeme) (ls : List Lexeme) (s : Statement) → From ls s (op h t sum l) (AtOp h t sum (l ∷ ls) s)
unfolding op
op_back h t sum l ls s =
    by_word ls s (λ k. AtOp h t sum (k ∷ ls) s) words.Is l (Ok (with_due h t (due.Is sum))) (op_next h t sum (op_in l))
    (reads ls s (with_due h t (due.Is sum)) (AtOp h t sum (Keyword words.Is ∷ ls) s) (λ r. inl (ls, refl, r)))
    (compare_back h t sum l ls s)

left_back : (h : Head) (t : Tests) (summing : Summing) (l : Lexeme) (ls : List Lexeme) (s : Statement)
    → From ls s (left h t summing l) (AfterSumming summing (λ sum rest. AtOp h t sum rest s) (l ∷ ls))
unfolding left
left_back h t summing l ls s =
    sum_back ls s (λ sum rest. AtOp h t sum rest s) summing l (left_part h t l)
    (λ q. reads ls s (with_due h t (due.Left q)) (AfterSumming q (λ sum rest. AtOp h t sum rest s) ls) (λ r. r))
    (λ sum. op_back h t sum l ls s)

null_back : (h : Head) (t : Tests) (sum : Sum) (is_not : Bool) (l : Lexeme) (ls : List Lexeme) (s : Statement) → From ls s (null h t sum is_not l) (AtNull h t sum is_not (l ∷ ls) s)
unfolding null with_test with_member
null_back h t sum is_not l ls s =
    by_word ls s (λ k. AtNull h t sum is_not (k ∷ ls) s) words.Null l (null_next h t sum is_not) (Err StepFault.Unexpected)
    (reads ls s _ (AtNull h t sum is_not (Keyword words.Null ∷ ls) s) (λ r. (ls, refl, r refl)))
    (refuses ls s StepFault.Unexpected (AtNull h t sum is_not (l ∷ ls) s))

is_back : (h : Head) (t : Tests) (sum : Sum) (l : Lexeme) (ls : List Lexeme) (s : Statement) → From ls s (is h t sum l) (AtIs h t sum (l ∷ ls) s)
is_back h t sum l ls s =
    by_word ls s (λ k. AtIs h t sum (k ∷ ls) s) words.Not l (Ok (with_due h t (due.IsNot sum))) (null h t sum false l)
    (reads ls s (with_due h t (due.IsNot sum)) (AtIs h t sum (Keyword words.Not ∷ ls) s) (λ r. (true, r.0, ap (λ zs. Keyword words.Not ∷ zs) r.1, r.2)))
    (λ q read rest. let r = null_back h t sum false l ls s q read rest in (false, r.0, r.1, r.2))

-- ---- behind a member

end_back : (h : Head) (t : Tests) (outer : List Level) (l : Lexeme) (ls : List Lexeme) (s : Statement)
    → From ls s (at_level h t outer l) (InLevel h t.steps (inside_out outer) t.level.ors t.level.ands (l ∷ ls) s)
unfolding finished with_or with_and
end_back h t [] l ls s =
    let steps = joined_by_or (t.level.ors + 1) (joined_by_and t.level.ands t.steps) in
    λ q read rest. (
      [],
      l ∷ ls,
      steps,
      refl,
      ends_here t.level.ors t.level.ands t.steps,
      by_whole ls s (finish h (Some (record { steps = steps }))) l q read rest,
    )
end_back h t (x ∷ xs) l ls s = refuses ls s StepFault.Unexpected _

close_some : (h : Head) (t : Tests) (p : List Level × Level) (ls : List Lexeme) (s : Statement) → t.outer ≡ p.0 ++ p.1 ∷ []
    → InLevel h (joined_by_or (t.level.ors + 1) (joined_by_and t.level.ands t.steps) ++ replicate p.1.nots Not) (inside_out p.0) p.1.ors (p.1.ands + 1) ls s
    → InLevel h t.steps (inside_out t.outer) t.level.ors t.level.ands (Sign signs.Close ∷ ls) s
close_some h t p ls s same (body, rest, whole, cut, ends, after) =
    let steps = joined_by_or (t.level.ors + 1) (joined_by_and t.level.ands t.steps) in
    let levels : inside_out t.outer ≡ p.1 ∷ inside_out p.0 = ap inside_out same ∙ inside_out-push p.0 p.1 in
    rw levels ([], Sign signs.Close ∷ ls, steps, refl, ends_here t.level.ors t.level.ands t.steps, (body, rest, whole, ap (λ zs. Sign signs.Close ∷ zs) cut, ends, after))

closing : (h : Head) (t : Tests) (o : Option (List Level × Level)) (ls : List Lexeme) (s : Statement) → pop_last t.outer ≡ o
    → From ls s (member_of (joined_by_or (t.level.ors + 1) (joined_by_and t.level.ands t.steps)) o >>= (λ joined. Ok (with_due h joined due.More)))
    (InLevel h t.steps (inside_out t.outer) t.level.ors t.level.ands (Sign signs.Close ∷ ls) s)
unfolding with_member
closing h t None ls s is = refuses ls s StepFault.Unexpected _
closing h t (Some p) ls s is =
    reads ls s _ (InLevel h t.steps (inside_out t.outer) t.level.ors t.level.ands (Sign signs.Close ∷ ls) s)
    (λ r. close_some h t p ls s (pop_last-some t.outer p is) (r refl))

close_back : (h : Head) (t : Tests) (ls : List Lexeme) (s : Statement)
    → From ls s (close_next h t) (InLevel h t.steps (inside_out t.outer) t.level.ors t.level.ands (Sign signs.Close ∷ ls) s)
unfolding closed with_or with_and
close_back h t ls s = closing h t (pop_last t.outer) ls s refl

and_back : (h : Head) (t : Tests) (ls : List Lexeme) (s : Statement) → t.level.nots ≡ 0 → AtMember h t ls s
    → InLevel h t.steps (inside_out t.outer) t.level.ors t.level.ands (Keyword words.And ∷ ls) s
and_back h t ls s none (body, steps, rest, cut, part, (more, behind, whole, has, ends, after)) =
    let same : (t.steps ++ steps) ++ replicate t.level.nots Not ≡ t.steps ++ steps = ap (λ n. (t.steps ++ steps) ++ replicate n Not) none ∙ append-nil (t.steps ++ steps) in (
      Keyword words.And ∷ (body ++ more),
      behind,
      whole,
      rw (cut, has) (ap (λ zs. Keyword words.And ∷ zs) (sym (append_assoc body more behind))),
      and_more t.level.ors t.level.ands t.steps body steps more whole part (subst (λ zs. EndsLevel t.level.ors (t.level.ands + 1) zs more whole) same ends),
      after,
    )

or_member : (h : Head) (t : Tests) (nots : ℕ) (ls : List Lexeme) (s : Statement) → nots ≡ 0
    → AtMember h (record { steps = joined_by_and t.level.ands t.steps; outer = t.outer; level = record { ors = t.level.ors + 1; ands = 0; nots = nots } }) ls s
    → InLevel h t.steps (inside_out t.outer) t.level.ors t.level.ands (Keyword words.Or ∷ ls) s
or_member h t nots ls s none (body, steps, rest, cut, part, (more, behind, whole, has, ends, after)) =
    let before = joined_by_and t.level.ands t.steps in
    let same : (before ++ steps) ++ replicate nots Not ≡ before ++ steps = ap (λ n. (before ++ steps) ++ replicate n Not) none ∙ append-nil (before ++ steps) in (
      Keyword words.Or ∷ (body ++ more),
      behind,
      whole,
      rw (cut, has) (ap (λ zs. Keyword words.Or ∷ zs) (sym (append_assoc body more behind))),
      or_more t.level.ors t.level.ands t.steps body steps more whole part (subst (λ zs. EndsLevel (t.level.ors + 1) 1 zs more whole) same ends),
      after,
    )

or_back : (h : Head) (t : Tests) (ls : List Lexeme) (s : Statement) → t.level.nots ≡ 0
    → From ls s (or_next h t) (InLevel h t.steps (inside_out t.outer) t.level.ors t.level.ands (Keyword words.Or ∷ ls) s)
unfolding with_and
or_back h t ls s none =
    reads ls s _ (InLevel h t.steps (inside_out t.outer) t.level.ors t.level.ands (Keyword words.Or ∷ ls) s) (λ r. or_member h t t.level.nots ls s none r)

more_back : (h : Head) (t : Tests) (l : Lexeme) (ls : List Lexeme) (s : Statement) → t.level.nots ≡ 0
    → From ls s (more h t l) (InLevel h t.steps (inside_out t.outer) t.level.ors t.level.ands (l ∷ ls) s)
unfolding more at_end
more_back h t l ls s none =
    by_word ls s (λ k. InLevel h t.steps (inside_out t.outer) t.level.ors t.level.ands (k ∷ ls) s) words.And l (Ok (with_due h t due.Member)) _
    (reads ls s (with_due h t due.Member) _ (λ r. and_back h t ls s none r))
    (by_word ls s (λ k. InLevel h t.steps (inside_out t.outer) t.level.ors t.level.ands (k ∷ ls) s) words.Or l (or_next h t) _
    (or_back h t ls s none)
    (by_sign ls s (λ k. InLevel h t.steps (inside_out t.outer) t.level.ors t.level.ands (k ∷ ls) s) signs.Close l (close_next h t) (at_level h t t.outer l)
    (close_back h t ls s)
    (end_back h t t.outer l ls s)))

compared_back : (h : Head) (t : Tests) (step : CondStep) (l : Lexeme) (ls : List Lexeme) (s : Statement) → From ls s (compared h t step l) (AfterMember h t (step ∷ []) (l ∷ ls) s)
unfolding compared with_test with_member
compared_back h t step l ls s = more_back h _ l ls s refl

right_back : (h : Head) (t : Tests) (sum : Sum) (op : Op) (summing : Summing) (l : Lexeme) (ls : List Lexeme) (s : Statement)
    → From ls s (filter_at h t (due.Right sum op summing) l) (AtRight h t sum op summing (l ∷ ls) s)
right_back h t sum op summing l ls s =
    sum_back ls s (λ right rest. AfterMember h t (Compare sum op right ∷ []) rest s) summing l (right_part h t sum op l)
    (λ q. reads ls s (with_due h t (due.Right sum op q)) (AtRight h t sum op q ls s) (λ r. r))
    (λ right. compared_back h t (Compare sum op right) l ls s)

-- ---- members

not_back : (h : Head) (t : Tests) (ls : List Lexeme) (s : Statement)
    → AtMember h (record { steps = t.steps; outer = t.outer; level = record { ors = t.level.ors; ands = t.level.ands; nots = t.level.nots + 1 } }) ls s
    → AtMember h t (Keyword words.Not ∷ ls) s
not_back h t ls s (body, steps, rest, cut, part, after) =
    let same : (t.steps ++ steps) ++ replicate (t.level.nots + 1) Not ≡ (t.steps ++ (steps ++ Not ∷ [])) ++ replicate t.level.nots Not =
    not_more t.level.nots (t.steps ++ steps) ∙ ap (λ zs. zs ++ replicate t.level.nots Not) (append_assoc t.steps steps (Not ∷ [])) in (
      Keyword words.Not ∷ body,
      steps ++ Not ∷ [],
      rest,
      ap (λ zs. Keyword words.Not ∷ zs) cut,
      negated body steps part,
      subst (λ zs. InLevel h zs (inside_out t.outer) t.level.ors (t.level.ands + 1) rest s) same after,
    )

-- what a parenthesis holds, and what follows it
enclosed_back : (h : Head) (t : Tests) (ls : List Lexeme) (s : Statement) (body : List Lexeme) (steps : List CondStep) (more rest : List Lexeme) (whole : List CondStep)
    → ls ≡ body ++ (more ++ rest) → IsPart member body steps → EndsLevel 0 1 (t.steps ++ steps) more whole → AfterLevel h (t.level ∷ inside_out t.outer) whole rest s
    → AtMember h t (Sign signs.Open ∷ ls) s
enclosed_back h t ls s body steps more rest whole cut part ends (around, behind, all, has, level, after) =
    let found = level_whole t.steps body steps more whole part ends in
    let front = Sign signs.Open ∷ ((body ++ more) ++ Sign signs.Close ∷ []) in
    let inner : body ++ (more ++ Sign signs.Close ∷ (around ++ behind)) ≡ ((body ++ more) ++ Sign signs.Close ∷ []) ++ (around ++ behind) =
    sym (append_assoc body more (Sign signs.Close ∷ (around ++ behind))) ∙ sym (append_assoc (body ++ more) (Sign signs.Close ∷ []) (around ++ behind)) in (
      front,
      joined_by_or found.0 found.1,
      around ++ behind,
      ap (λ zs. Sign signs.Open ∷ zs) (rw (cut, has) inner),
      enclosed found.0 (body ++ more) found.1 found.2,
      (
        around,
        behind,
        all,
        refl,
        subst (λ zs. EndsLevel t.level.ors (t.level.ands + 1) (zs ++ replicate t.level.nots Not) around all) found.3 level,
        after,
      ),
    )

open_back : (h : Head) (t : Tests) (ls : List Lexeme) (s : Statement)
    → AtMember h (record { steps = t.steps; outer = t.outer ++ t.level ∷ []; level = empty }) ls s → AtMember h t (Sign signs.Open ∷ ls) s
open_back h t ls s (body, steps, rest, cut, part, (more, behind, whole, has, ends, after)) =
    enclosed_back h t ls s body steps more behind whole (rw has at cut) part
    (subst (λ zs. EndsLevel 0 1 zs more whole) (append-nil (t.steps ++ steps)) ends)
    (subst (λ levels. AfterLevel h levels whole behind s) (inside_out-push t.outer t.level) after)

test_member : (h : Head) (t : Tests) (ls : List Lexeme) (s : Statement) → AfterSumming First (λ sum rest. AtOp h t sum rest s) ls → AtMember h t ls s
test_member h t ls s (body, sum, rest, cut, is_sum, inl (behind, has, (is_not, others, are, after))) = (
  body ++ Keyword words.Is ∷ null_words is_not,
  IsNull sum is_not ∷ [],
  others,
  rw (cut, has, are) (sym (append_assoc body (Keyword words.Is ∷ null_words is_not) others)),
  test (body ++ Keyword words.Is ∷ null_words is_not) (IsNull sum is_not) (body, refl, is_sum),
  after,
)
test_member h t ls s (body, sum, rest, cut, is_sum, inr (sign, behind, has, (back, right, others, are, is_right, after))) = (
  body ++ Sign (sign_of sign) ∷ back,
  Compare sum sign right ∷ [],
  others,
  rw (cut, has, are) (sym (append_assoc body (Sign (sign_of sign) ∷ back) others)),
  test (body ++ Sign (sign_of sign) ∷ back) (Compare sum sign right) (body, back, refl, is_sum, is_right),
  after,
)

member_back : (h : Head) (t : Tests) (l : Lexeme) (ls : List Lexeme) (s : Statement) → From ls s (member_step h t l) (AtMember h t (l ∷ ls) s)
unfolding member_step with_not
member_back h t l ls s =
    by_word ls s (λ k. AtMember h t (k ∷ ls) s) words.Not l (not_next h t) _
    (reads ls s _ (AtMember h t (Keyword words.Not ∷ ls) s) (λ r. not_back h t ls s r))
    (by_sign ls s (λ k. AtMember h t (k ∷ ls) s) signs.Open l (open_next h t) (left h t First l)
    (reads ls s _ (AtMember h t (Sign signs.Open ∷ ls) s) (λ r. open_back h t ls s r))
    (λ q read rest. test_member h t (l ∷ ls) s (left_back h t First l ls s q read rest)))

pub filter_back : (h : Head) (t : Tests) (next_due : FilterDue) (l : Lexeme) (ls : List Lexeme) (s : Statement)
    → From ls s (filter_at h t next_due l) (AfterFiltering h t next_due (l ∷ ls) s)
filter_back h t due.Member l ls s = member_back h t l ls s
filter_back h t (due.Left summing) l ls s = left_back h t summing l ls s
filter_back h t (due.Is sum) l ls s = is_back h t sum l ls s
filter_back h t (due.IsNot sum) l ls s = null_back h t sum true l ls s
filter_back h t (due.Right sum op summing) l ls s = right_back h t sum op summing l ls s
filter_back h t due.More l ls s = λ q read rest none. more_back h t l ls s none q read rest

-- ---- WHERE

filtered : (h : Head) (ls : List Lexeme) (s : Statement) → AtMember h (record { steps = []; outer = []; level = empty }) ls s → AfterHead h (Keyword words.Where ∷ ls) s
filtered h ls s (body, steps, rest, cut, part, (more, behind, whole, has, ends, after)) =
    let found = level_whole [] body steps more whole part (subst (λ zs. EndsLevel 0 1 zs more whole) (append-nil steps) ends) in (
      Keyword words.Where ∷ (body ++ more),
      behind,
      Some (record { steps = whole }),
      ap (λ zs. Keyword words.Where ∷ zs) (rw (cut, has) (sym (append_assoc body more behind))),
      (body ++ more, refl, (found.0, found.1, found.2, found.3)),
      after,
    )

pub head_back : (h : Head) (l : Lexeme) (ls : List Lexeme) (s : Statement) → From ls s (head_next h l) (AfterHead h (l ∷ ls) s)
head_back h l ls s =
    by_word ls s (λ k. AfterHead h (k ∷ ls) s) words.Where l _ (whole (finish h None) l)
    (reads ls s (with_due h (record { steps = []; outer = []; level = empty }) due.Member) (AfterHead h (Keyword words.Where ∷ ls) s) (λ r. filtered h ls s r))
    (λ q read rest. ([], l ∷ ls, None, refl, refl, by_whole ls s (finish h None) l q read rest))
