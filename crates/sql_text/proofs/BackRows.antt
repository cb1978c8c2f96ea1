-- What completes an INSERT behind a step, completes it before.
use Rattle.std.proofs.Common.{◌≡◌, ℕ, ℤ, pos, neg_ℤ, Bool, true, false, cond, List, [], ◌∷◌, ◌++◌, Ok, Err, refl, sym, ap, subst, inl, inr, append_assoc}
use Rattle.sql_text.specs.declared.insert.Inserting.{Inserting as Part}
use Rattle.sql_text.specs.declared.insert.InsertDue.{InsertDue}
use Rattle.sql_text.specs.declared.insert.InsertDue.TheVariants as insert
use Rattle.sql_text.specs.declared.keyword.Keyword.{Keyword as Words}
use Rattle.sql_text.specs.declared.keyword.Keyword.TheVariants as words
use Rattle.sql_text.specs.declared.lexeme.Lexeme.{Lexeme}
use Rattle.sql_text.specs.declared.lexeme.Lexeme.TheVariants.{Keyword, Number, Text, Sign, Minus}
use Rattle.sql_text.specs.declared.lexeme.Sign.TheVariants as signs
use Rattle.sql_text.specs.declared.reading.Reading.{Reading}
use Rattle.sql_text.specs.declared.statement.Literal.{Literal}
use Rattle.sql_text.specs.declared.statement.Literal.TheVariants as literal
use Rattle.sql_text.specs.declared.statement.Literals.{Literals}
use Rattle.sql_text.specs.declared.statement.Statement.{Statement}
use Rattle.sql_text.specs.declared.statement.Statement.TheVariants as statement
use Rattle.sql_text.specs.declared.step.StepFault.{StepFault}
use Rattle.sql_text.specs.Insert.{at as insert_at, value, number, with_due, with_value, with_row, more, after_row}
use Rattle.sql_text.specs.Parts.{IsLiteral, IsRow}
use Rattle.sql_text.specs.Steps.{Step, ◌>>=◌, same_keyword, text_in}
use Rattle.sql_text.specs.Sums.{is_tight, literal_in, negative_in}
use Rattle.sql_text.specs.Whole.{whole}
use Rattle.sql_text.proofs.BackLemmas.{From, reads, refuses, by_sign, by_whole, only_word, only_sign, word_same}
use Rattle.sql_text.proofs.BackWords.{cons_list}
use Rattle.sql_text.proofs.Rests.{AfterInserting, AfterRow, AfterValue, AtOpen, AtRows, AtValue, EndsAs}

-- ---- literals

pub by_tight : (ls : List Lexeme) (s : Statement) (P : Lexeme → Type 0) (l : Lexeme) (x y : Step Reading) → From ls s x (P (Minus true)) → From ls s y (P l)
    → From ls s (cond (is_tight l) x y) (P l)
by_tight ls s P (Minus true) x y h k = h
by_tight ls s P (Minus false) x y h k = k
by_tight ls s P _ x y h k = k

pub by_number : (ls : List Lexeme) (s : Statement) (P : Lexeme → Type 0) (f : ℤ → Step Reading) (l : Lexeme) → ((m : ℕ) → From ls s (f (neg_ℤ (pos m))) (P (Number m)))
    → From ls s (negative_in l >>= f) (P l)
by_number ls s P f (Number m) h = h m
by_number ls s P f _ h = λ q read rest. absurd cc

-- a keyword is a literal where it is NULL
by_null : (ls : List Lexeme) (s : Statement) (P : Lexeme → Type 0) (f : Literal → Step Reading) (k : Words) (b : Bool) → same_keyword k words.Null ≡ b
    → From ls s (f literal.Null) (P (Keyword words.Null)) → From ls s ((cond b (Ok literal.Null) (Err StepFault.Unexpected)) >>= f) (P (Keyword k))
by_null ls s P f k true is h = λ q read rest. subst P (sym (word_same words.Null (Keyword k) is)) (h q read rest)
by_null ls s P f k false is h = λ q read rest. absurd cc

pub by_literal : (ls : List Lexeme) (s : Statement) (P : Lexeme → Type 0) (f : Literal → Step Reading) (l : Lexeme)
    → ((k : Lexeme) (x : Literal) → IsLiteral (k ∷ []) x → From ls s (f x) (P k)) → From ls s (literal_in l >>= f) (P l)
unfolding literal_in text_in
by_literal ls s P f (Number m) h = h (Number m) (literal.Int (pos m)) (inl (m, refl, refl))
by_literal ls s P f (Text text) h = h (Text text) (literal.Text text) refl
by_literal ls s P f (Keyword k) h = by_null ls s P f k (same_keyword k words.Null) refl (h (Keyword words.Null) literal.Null refl)
by_literal ls s P f _ h = λ q read rest. absurd cc

-- ---- rows

more_values : (t : List ℕ) (rows : List Literals) (vs : List Literal) (front : List Lexeme) (x : Literal) (rest : List Lexeme) (s : Statement)
    → IsLiteral front x → AfterValue t rows (vs ++ x ∷ []) rest s → AtValue t rows vs (front ++ rest) s
more_values t rows vs front x rest s is (inl (back, has, after)) = (front, x ∷ [], back, ap (λ zs. front ++ zs) has, is, after)
more_values t rows vs front x rest s is (inr (back, has, (body, xs, others, cut, listed, after))) = (
  front ++ Sign signs.Comma ∷ body,
  x ∷ xs,
  others,
  rw (has, cut) (sym (append_assoc front (Sign signs.Comma ∷ body) (Sign signs.Close ∷ others))),
  cons_list IsLiteral front body x xs is listed,
  subst (λ zs. AfterRow t (rows ++ record { values = zs } ∷ []) others s) (append_assoc vs (x ∷ []) xs) after,
)

more_rows : (t : List ℕ) (rows : List Literals) (front : List Lexeme) (r : Literals) (rest : List Lexeme) (s : Statement)
    → IsRow front r → AfterRow t (rows ++ r ∷ []) rest s → AtRows t rows (front ++ rest) s
more_rows t rows front r rest s is (inl ends) = (front, r ∷ [], rest, refl, is, ends)
more_rows t rows front r rest s is (inr (back, has, (body, xs, end, cut, listed, ends))) = (
  front ++ Sign signs.Comma ∷ body,
  r ∷ xs,
  end,
  rw (has, cut) (sym (append_assoc front (Sign signs.Comma ∷ body) end)),
  cons_list IsRow front body r xs is listed,
  subst (λ zs. EndsAs (statement.Insert t zs) end s) (append_assoc rows (r ∷ []) xs) ends,
)

pub open_rows : (t : List ℕ) (rows : List Literals) (ls : List Lexeme) (s : Statement) → AtOpen t rows [] ls s → AtRows t rows ls s
open_rows t rows ls s (back, has, (body, xs, rest, cut, listed, after)) =
    let front = Sign signs.Open ∷ (body ++ Sign signs.Close ∷ []) in
    let found = more_rows t rows front (record { values = xs }) rest s (body, refl, listed) after in
    rw (has, cut) (subst (λ zs. AtRows t rows (Sign signs.Open ∷ zs) s) (append_assoc body (Sign signs.Close ∷ []) rest) found)

value_back : (i : Part) (l : Lexeme) (ls : List Lexeme) (s : Statement) → From ls s (value i l) (AtValue i.table i.rows i.values (l ∷ ls) s)
unfolding value
value_back i l ls s =
    by_tight ls s (λ k. AtValue i.table i.rows i.values (k ∷ ls) s) l (Ok (with_due i insert.Number)) (literal_in l >>= (λ x. with_value i x))
    (reads ls s (with_due i insert.Number) (AtValue i.table i.rows i.values (Minus true ∷ ls) s)
    (λ r. rw r.2 (more_values i.table i.rows i.values (Minus true ∷ Number r.0 ∷ []) (literal.Int (neg_ℤ (pos r.0))) r.1 s (inr (r.0, refl, refl)) r.3)))
    (by_literal ls s (λ k. AtValue i.table i.rows i.values (k ∷ ls) s) (λ x. with_value i x) l
    (λ k x is. reads ls s _ (AtValue i.table i.rows i.values (k ∷ ls) s) (λ r. more_values i.table i.rows i.values (k ∷ []) x ls s is r)))

number_back : (i : Part) (l : Lexeme) (ls : List Lexeme) (s : Statement) → From ls s (number i l) (AfterInserting i.table i.rows i.values insert.Number (l ∷ ls) s)
unfolding number
number_back i l ls s =
    by_number ls s (λ k. AfterInserting i.table i.rows i.values insert.Number (k ∷ ls) s) (λ n. with_value i (literal.Int n)) l
    (λ m. reads ls s _ (AfterInserting i.table i.rows i.values insert.Number (Number m ∷ ls) s) (λ r. (m, ls, refl, r)))

more_back : (i : Part) (l : Lexeme) (ls : List Lexeme) (s : Statement) → From ls s (more i l) (AfterValue i.table i.rows i.values (l ∷ ls) s)
more_back i l ls s =
    by_sign ls s (λ k. AfterValue i.table i.rows i.values (k ∷ ls) s) signs.Comma l (Ok (with_due i insert.Value)) _
    (reads ls s (with_due i insert.Value) (AfterValue i.table i.rows i.values (Sign signs.Comma ∷ ls) s) (λ r. inr (ls, refl, r)))
    (by_sign ls s (λ k. AfterValue i.table i.rows i.values (k ∷ ls) s) signs.Close l (with_row i) (Err StepFault.Unexpected)
    (reads ls s _ (AfterValue i.table i.rows i.values (Sign signs.Close ∷ ls) s) (λ r. inl (ls, refl, r refl)))
    (refuses ls s StepFault.Unexpected (AfterValue i.table i.rows i.values (l ∷ ls) s)))

after_row_back : (i : Part) (l : Lexeme) (ls : List Lexeme) (s : Statement) → From ls s (after_row i l) (AfterInserting i.table i.rows i.values insert.Rows (l ∷ ls) s)
after_row_back i l ls s =
    by_sign ls s (λ k. AfterInserting i.table i.rows i.values insert.Rows (k ∷ ls) s) signs.Comma l (Ok (with_due i insert.Open)) (whole (statement.Insert i.table i.rows) l)
    (reads ls s (with_due i insert.Open) (AfterInserting i.table i.rows i.values insert.Rows (Sign signs.Comma ∷ ls) s)
    (λ r none. inr (ls, refl, open_rows i.table i.rows ls s (subst (λ vs. AtOpen i.table i.rows vs ls s) none r))))
    (λ q read rest none. inl (by_whole ls s (statement.Insert i.table i.rows) l q read rest))

pub insert_back : (i : Part) (due : InsertDue) (l : Lexeme) (ls : List Lexeme) (s : Statement)
    → From ls s (insert_at i due l) (AfterInserting i.table i.rows i.values due (l ∷ ls) s)
insert_back i insert.Values l ls s =
    only_word ls s (λ k. AfterInserting i.table i.rows i.values insert.Values (k ∷ ls) s) words.Values l (with_due i insert.Open) (λ r. (ls, refl, r))
insert_back i insert.Open l ls s =
    only_sign ls s (λ k. AfterInserting i.table i.rows i.values insert.Open (k ∷ ls) s) signs.Open l (with_due i insert.Value) (λ r. (ls, refl, r))
insert_back i insert.Value l ls s = value_back i l ls s
insert_back i insert.Number l ls s = number_back i l ls s
insert_back i insert.More l ls s = more_back i l ls s
insert_back i insert.Rows l ls s = after_row_back i l ls s
