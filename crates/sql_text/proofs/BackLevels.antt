-- Members, and what joins them.
use Rattle.std.proofs.Common.{◌≡◌, ℕ, suc, ◌+◌, nat_lt, arith, Bool, true, false, cond, List, [], ◌∷◌, ◌++◌, replicate, Option, Some, None, refl, sym, ap, ◌∙◌, subst, inl, inr, append_assoc, add-zero}
use Rattle.std.proofs.lemmas.List.{append-nil}
use Rattle.sql_text.specs.declared.filter.Level.{Level}
use Rattle.sql_text.specs.declared.keyword.Keyword.TheVariants as words
use Rattle.sql_text.specs.declared.lexeme.Lexeme.{Lexeme}
use Rattle.sql_text.specs.declared.lexeme.Lexeme.TheVariants.{Keyword}
use Rattle.sql_text.specs.declared.statement.Step.{Step}
use Rattle.sql_text.specs.declared.statement.Step.TheVariants.{Or, And, Not}
use Rattle.sql_text.specs.Conditions.{IsPart, member, ands, ors, joined_by_and, joined_by_or}
use Rattle.sql_text.specs.Conditions.IsPart.{one_and, more_ands, one_or, more_ors}
use Rattle.sql_text.specs.Filter.{pop_last, behind_first}
use Rattle.sql_text.proofs.Rests.{AreAnds, AreOrs, EndsLevel, inside_out}

by_flag : {A : Type 0} (b : Bool) (xs ys tail : List A) → cond b ((xs ++ ys) ++ tail) (xs ++ ys) ≡ xs ++ cond b (ys ++ tail) ys
by_flag true xs ys tail = append_assoc xs ys tail
by_flag false xs ys tail = refl

pub and_front : (n : ℕ) (xs ys : List Step) → joined_by_and n (xs ++ ys) ≡ xs ++ joined_by_and n ys
and_front n xs ys = by_flag (nat_lt 1 n) xs ys (And n ∷ [])

pub or_front : (n : ℕ) (xs ys : List Step) → joined_by_or n (xs ++ ys) ≡ xs ++ joined_by_or n ys
or_front n xs ys = by_flag (nat_lt 1 n) xs ys (Or n ∷ [])

pub not_more : (n : ℕ) (xs : List Step) → xs ++ replicate (n + 1) Not ≡ (xs ++ Not ∷ []) ++ replicate n Not
not_more n xs =
    let next : n + 1 ≡ suc n = omega arith in
    rw next (sym (append_assoc xs (Not ∷ []) (replicate n Not)))

pub inside_out-push : (xs : List Level) (x : Level) → inside_out (xs ++ x ∷ []) ≡ x ∷ inside_out xs
inside_out-push [] x = refl
inside_out-push (y ∷ xs) x = ap (λ zs. zs ++ y ∷ []) (inside_out-push xs x)

popped : (x : Level) (xs : List Level) (o : Option (List Level × Level)) → pop_last xs ≡ o → (p : List Level × Level)
    → ((q : List Level × Level) → o ≡ Some q → xs ≡ q.0 ++ q.1 ∷ []) → (o ≡ None → xs ≡ []) → Some (behind_first x o) ≡ Some p → x ∷ xs ≡ p.0 ++ p.1 ∷ []
popped x xs None is p some none same =
    let whole : ([], x) ≡ p = cc in
    rw (none refl) (ap (λ (q : List Level × Level). q.0 ++ q.1 ∷ []) whole)
popped x xs (Some q) is p some none same =
    let whole : (x ∷ q.0, q.1) ≡ p = cc in
    rw (some q refl) (ap (λ (r : List Level × Level). r.0 ++ r.1 ∷ []) whole)

none_popped : (xs : List Level) → pop_last xs ≡ None → xs ≡ []
none_popped [] is = refl
none_popped (x ∷ xs) is = absurd cc

pub pop_last-some : (xs : List Level) (p : List Level × Level) → pop_last xs ≡ Some p → xs ≡ p.0 ++ p.1 ∷ []
pop_last-some [] p is = absurd cc
pop_last-some (x ∷ xs) p is = popped x xs (pop_last xs) refl p (λ q same. pop_last-some xs q same) (λ none. none_popped xs none) is

-- nothing more of this level
pub ends_here : (o a : ℕ) (steps : List Step) → EndsLevel o a steps [] (joined_by_or (o + 1) (joined_by_and a steps))
ends_here o a steps =
    let ands_same : joined_by_and (a + 0) (steps ++ []) ≡ joined_by_and a steps = ap (λ k. joined_by_and k (steps ++ [])) (add-zero a) ∙ ap (joined_by_and a) (append-nil steps) in
    let ors_same : joined_by_or ((o + 1) + 0) (joined_by_and (a + 0) (steps ++ []) ++ []) ≡ joined_by_or (o + 1) (joined_by_and a steps) =
    ap (λ k. joined_by_or k (joined_by_and (a + 0) (steps ++ []) ++ [])) (add-zero (o + 1))
    ∙ ap (joined_by_or (o + 1)) (append-nil (joined_by_and (a + 0) (steps ++ [])) ∙ ands_same) in
    (0, 0, [], [], [], [], refl, inl (refl, refl, refl), inl (refl, refl, refl), sym ors_same)

-- a member, and further ones
and_list : (front c : List Lexeme) (n : ℕ) (steps xs : List Step) → IsPart member front steps → AreAnds c n xs → IsPart (ands (suc n)) (front ++ c) (steps ++ xs)
and_list front c n steps xs is (inl (none, no_count, no_steps)) = rw (none, no_count, no_steps, append-nil front, append-nil steps) (one_and front steps is)
and_list front c n steps xs is (inr (back, has, part)) = rw has (more_ands n front back steps xs is part)

or_list : (front c d : List Lexeme) (n m : ℕ) (steps xs ys : List Step) → IsPart member front steps → AreAnds c n xs → AreOrs d m ys
    → IsPart (ors (suc m)) (front ++ (c ++ d)) (joined_by_and (suc n) (steps ++ xs) ++ ys)
or_list front c d n m steps xs ys is more (inl (none, no_count, no_steps)) =
    rw (none, no_count, no_steps, append-nil c, append-nil (joined_by_and (suc n) (steps ++ xs)))
    (one_or (suc n) (front ++ c) (steps ++ xs) (and_list front c n steps xs is more))
or_list front c d n m steps xs ys is more (inr (back, has, part)) =
    rw has (subst (λ zs. IsPart (ors (suc m)) zs (joined_by_and (suc n) (steps ++ xs) ++ ys)) (append_assoc front c (Keyword words.Or ∷ back))
    (more_ors m (suc n) (front ++ c) back (steps ++ xs) ys (and_list front c n steps xs is more) part))

-- a member behind AND
pub and_more : (o a : ℕ) (before : List Step) (front : List Lexeme) (steps : List Step) (b : List Lexeme) (whole : List Step)
    → IsPart member front steps → EndsLevel o (a + 1) (before ++ steps) b whole → EndsLevel o a before (Keyword words.And ∷ (front ++ b)) whole
and_more o a before front steps b whole is (n, m, xs, ys, c, d, cut, more, others, all) =
    let count : (a + 1) + n ≡ a + suc n = omega arith in (
      suc n,
      m,
      steps ++ xs,
      ys,
      Keyword words.And ∷ (front ++ c),
      d,
      rw cut (ap (λ zs. Keyword words.And ∷ zs) (sym (append_assoc front c d))),
      inr (front ++ c, refl, and_list front c n steps xs is more),
      others,
      all ∙ ap (λ k. joined_by_or ((o + 1) + m) (joined_by_and k ((before ++ steps) ++ xs) ++ ys)) count
          ∙ ap (λ zs. joined_by_or ((o + 1) + m) (joined_by_and (a + suc n) zs ++ ys)) (append_assoc before steps xs),
    )

-- a member behind OR
pub or_more : (o a : ℕ) (before : List Step) (front : List Lexeme) (steps : List Step) (b : List Lexeme) (whole : List Step)
    → IsPart member front steps → EndsLevel (o + 1) 1 (joined_by_and a before ++ steps) b whole → EndsLevel o a before (Keyword words.Or ∷ (front ++ b)) whole
or_more o a before front steps b whole is (n, m, xs, ys, c, d, cut, more, others, all) =
    let left = joined_by_and a before in
    let last = joined_by_and (suc n) (steps ++ xs) in
    let one : 1 + n ≡ suc n = omega arith in
    let count : ((o + 1) + 1) + m ≡ (o + 1) + suc m = omega arith in
    let behind : joined_by_and (1 + n) ((left ++ steps) ++ xs) ++ ys ≡ left ++ (last ++ ys) =
    ap (λ k. joined_by_and k ((left ++ steps) ++ xs) ++ ys) one ∙ ap (λ zs. joined_by_and (suc n) zs ++ ys) (append_assoc left steps xs)
    ∙ ap (λ zs. zs ++ ys) (and_front (suc n) left (steps ++ xs)) ∙ append_assoc left last ys in
    let before_same : joined_by_and (a + 0) (before ++ []) ≡ left = ap (λ k. joined_by_and k (before ++ [])) (add-zero a) ∙ ap (joined_by_and a) (append-nil before) in (
      0,
      suc m,
      [],
      last ++ ys,
      [],
      Keyword words.Or ∷ (front ++ b),
      refl,
      inl (refl, refl, refl),
      inr (front ++ b, refl, subst (λ zs. IsPart (ors (suc m)) (front ++ zs) (last ++ ys)) (sym cut) (or_list front c d n m steps xs ys is more others)),
      all ∙ ap (λ k. joined_by_or k (joined_by_and (1 + n) ((left ++ steps) ++ xs) ++ ys)) count
          ∙ ap (joined_by_or ((o + 1) + suc m)) (behind ∙ ap (λ zs. zs ++ (last ++ ys)) (sym before_same)),
    )

-- a level from its first member on is a condition
pub level_whole : (before : List Step) (front : List Lexeme) (steps : List Step) (b : List Lexeme) (whole : List Step)
    → IsPart member front steps → EndsLevel 0 1 (before ++ steps) b whole
    → (k : ℕ) × (members : List Step) × IsPart (ors k) (front ++ b) members × (whole ≡ before ++ joined_by_or k members)
level_whole before front steps b whole is (n, m, xs, ys, c, d, cut, more, others, all) =
    let last = joined_by_and (suc n) (steps ++ xs) in
    let one : 1 + n ≡ suc n = omega arith in
    let count : (0 + 1) + m ≡ suc m = omega arith in
    let behind : joined_by_and (1 + n) ((before ++ steps) ++ xs) ++ ys ≡ before ++ (last ++ ys) =
    ap (λ k. joined_by_and k ((before ++ steps) ++ xs) ++ ys) one ∙ ap (λ zs. joined_by_and (suc n) zs ++ ys) (append_assoc before steps xs)
    ∙ ap (λ zs. zs ++ ys) (and_front (suc n) before (steps ++ xs)) ∙ append_assoc before last ys in (
      suc m,
      last ++ ys,
      subst (λ zs. IsPart (ors (suc m)) (front ++ zs) (last ++ ys)) (sym cut) (or_list front c d n m steps xs ys is more others),
      all ∙ ap (λ k. joined_by_or k (joined_by_and (1 + n) ((before ++ steps) ++ xs) ++ ys)) count
          ∙ ap (joined_by_or (suc m)) behind ∙ or_front (suc m) before (last ++ ys),
    )
