-- What completes a SELECT, an UPDATE or the first words of a statement behind a step, completes it before.
use Rattle.std.proofs.Common.{◌≡◌, ℕ, List, [], ◌∷◌, ◌++◌, Some, None, Ok, refl, sym, subst, inl, inr, append_assoc, map}
use Rattle.std.specs.Char.{to_ascii_lowercase}
use Rattle.sql_text.specs.declared.filter.Head.TheVariants as head
use Rattle.sql_text.specs.declared.keyword.Keyword.TheVariants as words
use Rattle.sql_text.specs.declared.lexeme.Lexeme.{Lexeme}
use Rattle.sql_text.specs.declared.lexeme.Lexeme.TheVariants.{Keyword, Name, Sign}
use Rattle.sql_text.specs.declared.lexeme.Sign.TheVariants as signs
use Rattle.sql_text.specs.declared.opening.Opening.{Opening as OpeningPart}
use Rattle.sql_text.specs.declared.opening.Opening.TheVariants as opening
use Rattle.sql_text.specs.declared.reading.Reading.TheVariants.{Opening, Selecting, Head as Headed, Whole}
use Rattle.sql_text.specs.declared.select.Selecting.{Selecting as SelectPart}
use Rattle.sql_text.specs.declared.select.SelectDue.{SelectDue}
use Rattle.sql_text.specs.declared.select.SelectDue.TheVariants as select
use Rattle.sql_text.specs.declared.statement.Assign.{Assign}
use Rattle.sql_text.specs.declared.statement.Statement.{Statement}
use Rattle.sql_text.specs.declared.statement.Statement.TheVariants as statement
use Rattle.sql_text.specs.declared.sum.Summing.TheVariants.{First}
use Rattle.sql_text.specs.declared.update.UpdateDue.{UpdateDue}
use Rattle.sql_text.specs.declared.update.UpdateDue.TheVariants as update
use Rattle.sql_text.specs.Filter.{head_next}
use Rattle.sql_text.specs.Forms.{IsStatement}
use Rattle.sql_text.specs.Opening.{next as opening_next, after_name}
use Rattle.sql_text.specs.Parts.{IsAssign, IsColumn}
use Rattle.sql_text.specs.Select.{at as select_at, column as select_column, columns, more, table, all_table, with_due as select_due}
use Rattle.sql_text.specs.Starts.{creating, inserting, updating}
use Rattle.sql_text.specs.Update.{at as update_at, column as update_column, after_set, sum_part, with_due as update_due}
use Rattle.sql_text.proofs.BackCreate.{create_begun}
use Rattle.sql_text.proofs.BackFilter.{head_back}
use Rattle.sql_text.proofs.BackLemmas.{From, reads, by_sign, by_name, by_column, only_word, only_sign}
use Rattle.sql_text.proofs.BackRows.{open_rows}
use Rattle.sql_text.proofs.BackSums.{sum_back}
use Rattle.sql_text.proofs.BackWords.{cons_list, ended}
use Rattle.sql_text.proofs.Rests.{AfterHead, AfterOpening, AfterSelecting, AfterSet, AfterUpdating, AtColumnName, AtFrom, AtOpen, AtSet, AtSum}

-- ---- SELECT

more_columns : (cs : List (List ℕ)) (front : List Lexeme) (c : List ℕ) (rest : List Lexeme) (s : Statement) → IsColumn front c → AfterSelecting (cs ++ c ∷ []) select.More rest s
    → AtColumnName cs (front ++ rest) s
more_columns cs front c rest s is (inl from) = (front, c ∷ [], rest, refl, is, from)
more_columns cs front c rest s is (inr (back, has, (body, xs, behind, cut, listed, from))) = (
  front ++ Sign signs.Comma ∷ body,
  c ∷ xs,
  behind,
  rw (has, cut) (sym (append_assoc front (Sign signs.Comma ∷ body) behind)),
  cons_list IsColumn front body c xs is listed,
  subst (λ zs. AtFrom (λ t. head.Select t (Some zs)) behind s) (append_assoc cs (c ∷ []) xs) from,
)

column_back : (o : SelectPart) (l : Lexeme) (ls : List Lexeme) (s : Statement) → From ls s (select_column o l) (AtColumnName o.columns (l ∷ ls) s)
unfolding select_column
column_back o l ls s =
    by_column ls s (λ k. AtColumnName o.columns (k ∷ ls) s) (λ name. Ok (Selecting (record { columns = o.columns ++ name ∷ []; due = select.More }))) l
    (λ w. reads ls s _ (AtColumnName o.columns (Name w ∷ ls) s) (λ r. more_columns o.columns (Name w ∷ []) (map to_ascii_lowercase w) ls s (w, refl, refl) r))

columns_back : (o : SelectPart) (l : Lexeme) (ls : List Lexeme) (s : Statement) → From ls s (columns o l) (AfterSelecting o.columns select.Columns (l ∷ ls) s)
columns_back o l ls s =
    by_sign ls s (λ k. AfterSelecting o.columns select.Columns (k ∷ ls) s) signs.Star l (Ok (select_due o select.AllFrom)) (select_column o l)
    (reads ls s (select_due o select.AllFrom) (AfterSelecting o.columns select.Columns (Sign signs.Star ∷ ls) s) (λ r. inl (ls, refl, r)))
    (λ q read rest. inr (column_back o l ls s q read rest))

more_back : (o : SelectPart) (l : Lexeme) (ls : List Lexeme) (s : Statement) → From ls s (more o l) (AfterSelecting o.columns select.More (l ∷ ls) s)
more_back o l ls s =
    by_sign ls s (λ k. AfterSelecting o.columns select.More (k ∷ ls) s) signs.Comma l (Ok (select_due o select.Column)) _
    (reads ls s (select_due o select.Column) (AfterSelecting o.columns select.More (Sign signs.Comma ∷ ls) s) (λ r. inr (ls, refl, r)))
    (only_word ls s (λ k. AfterSelecting o.columns select.More (k ∷ ls) s) words.From l (select_due o select.Table) (λ r. inl (ls, refl, r)))

pub select_back : (o : SelectPart) (due : SelectDue) (l : Lexeme) (ls : List Lexeme) (s : Statement) → From ls s (select_at o due l) (AfterSelecting o.columns due (l ∷ ls) s)
unfolding table all_table
select_back o select.Columns l ls s = columns_back o l ls s
select_back o select.Column l ls s = column_back o l ls s
select_back o select.More l ls s = more_back o l ls s
select_back o select.AllFrom l ls s =
    only_word ls s (λ k. AfterSelecting o.columns select.AllFrom (k ∷ ls) s) words.From l (select_due o select.AllTable) (λ r. (ls, refl, r))
select_back o select.AllTable l ls s =
    by_name ls s (λ k. AfterSelecting o.columns select.AllTable (k ∷ ls) s) (λ name. Ok (Headed (head.Select name None))) l
    (λ w. reads ls s (Headed (head.Select w None)) (AfterSelecting o.columns select.AllTable (Name w ∷ ls) s) (λ r. (w, ls, refl, r)))
select_back o select.Table l ls s =
    by_name ls s (λ k. AfterSelecting o.columns select.Table (k ∷ ls) s) (λ name. Ok (Headed (head.Select name (Some o.columns)))) l
    (λ w. reads ls s (Headed (head.Select w (Some o.columns))) (AfterSelecting o.columns select.Table (Name w ∷ ls) s) (λ r. (w, ls, refl, r)))

pub select_begun : (ls : List Lexeme) (s : Statement) → AfterSelecting [] select.Columns ls s → IsStatement (Keyword words.Select ∷ ls) s
select_begun ls s (inl (rest, is, (behind, has, (t, after, named, (body, end, c, cut, filter, ends))))) =
    rw (is, has, named, cut)
    (ended (Keyword words.Select ∷ Sign signs.Star ∷ Keyword words.From ∷ Name t ∷ body) end (statement.Select t None c) s (Sign signs.Star ∷ [], body, refl, refl, filter) ends)
select_begun ls s (inr (list, xs, rest, is, listed, (behind, has, (t, after, named, (body, end, c, cut, filter, ends))))) =
    rw (is, has, named, cut)
    (subst (λ zs. IsStatement (Keyword words.Select ∷ zs) s) (append_assoc list (Keyword words.From ∷ Name t ∷ body) end)
    (ended (Keyword words.Select ∷ (list ++ Keyword words.From ∷ Name t ∷ body)) end (statement.Select t (Some xs) c) s (list, body, refl, listed, filter) ends))

-- ---- UPDATE

more_sets : (t : List ℕ) (sets : List Assign) (front : List Lexeme) (x : Assign) (rest : List Lexeme) (s : Statement) → IsAssign front x → AfterSet t (sets ++ x ∷ []) rest s
    → AtSet t sets (front ++ rest) s
more_sets t sets front x rest s is (inl after) = (front, x ∷ [], rest, refl, is, after)
more_sets t sets front x rest s is (inr (back, has, (body, xs, behind, cut, listed, after))) = (
  front ++ Sign signs.Comma ∷ body,
  x ∷ xs,
  behind,
  rw (has, cut) (sym (append_assoc front (Sign signs.Comma ∷ body) behind)),
  cons_list IsAssign front body x xs is listed,
  subst (λ zs. AfterHead (head.Update t zs) behind s) (append_assoc sets (x ∷ []) xs) after,
)

set_column : (t : List ℕ) (sets : List Assign) (w : List ℕ) (ls : List Lexeme) (s : Statement) → AfterUpdating t sets (update.Equal (map to_ascii_lowercase w)) ls s → AtSet t sets (Name w ∷ ls) s
set_column t sets w ls s (rest, has, (body, sum, behind, cut, is, after)) =
    rw (has, cut)
    (more_sets t sets (Name w ∷ Sign signs.Equal ∷ body) (record { column = map to_ascii_lowercase w; sum = sum }) behind s (Name w ∷ [], body, refl, (w, refl, refl), is) after)

after_back : (t : List ℕ) (sets : List Assign) (l : Lexeme) (ls : List Lexeme) (s : Statement) → From ls s (after_set t sets l) (AfterSet t sets (l ∷ ls) s)
after_back t sets l ls s =
    by_sign ls s (λ k. AfterSet t sets (k ∷ ls) s) signs.Comma l (Ok (update_due t sets update.Column)) (head_next (head.Update t sets) l)
    (reads ls s (update_due t sets update.Column) (AfterSet t sets (Sign signs.Comma ∷ ls) s) (λ r. inr (ls, refl, r)))
    (λ q read rest. inl (head_back (head.Update t sets) l ls s q read rest))

pub update_back : (t : List ℕ) (sets : List Assign) (due : UpdateDue) (l : Lexeme) (ls : List Lexeme) (s : Statement)
    → From ls s (update_at t sets due l) (AfterUpdating t sets due (l ∷ ls) s)
unfolding update_column
update_back t sets update.Column l ls s =
    by_column ls s (λ k. AtSet t sets (k ∷ ls) s) (λ name. Ok (update_due t sets (update.Equal name))) l
    (λ w. reads ls s (update_due t sets (update.Equal (map to_ascii_lowercase w))) (AtSet t sets (Name w ∷ ls) s) (λ r. set_column t sets w ls s r))
update_back t sets (update.Equal name) l ls s =
    only_sign ls s (λ k. AfterUpdating t sets (update.Equal name) (k ∷ ls) s) signs.Equal l (update_due t sets (update.Sum name First)) (λ r. (ls, refl, r))
update_back t sets (update.Sum name summing) l ls s =
    sum_back ls s (λ sum rest. AfterSet t (sets ++ record { column = name; sum = sum } ∷ []) rest s) summing l (sum_part t sets name l)
    (λ q. reads ls s (update_due t sets (update.Sum name q)) (AtSum t sets name q ls s) (λ r. r))
    (λ sum. after_back t (sets ++ record { column = name; sum = sum } ∷ []) l ls s)

-- ---- first words

inserted : (t : List ℕ) (ls : List Lexeme) (s : Statement) → (rest : List Lexeme) × (ls ≡ Keyword words.Values ∷ rest) × AtOpen t [] [] rest s
    → IsStatement (Keyword words.Insert ∷ Keyword words.Into ∷ Name t ∷ ls) s
inserted t ls s (rest, is, rows) =
    let (body, xs, end, cut, listed, ends) = open_rows t [] rest s rows in
    rw (is, cut) (ended (Keyword words.Insert ∷ Keyword words.Into ∷ Name t ∷ Keyword words.Values ∷ body) end (statement.Insert t xs) s (body, refl, listed) ends)

updated : (t : List ℕ) (ls : List Lexeme) (s : Statement) → AtSet t [] ls s → IsStatement (Keyword words.Update ∷ Name t ∷ Keyword words.Set ∷ ls) s
updated t ls s (list, xs, rest, is, listed, (body, end, c, cut, filter, ends)) =
    rw (is, cut)
    (subst (λ zs. IsStatement (Keyword words.Update ∷ Name t ∷ Keyword words.Set ∷ zs) s) (append_assoc list body end)
    (ended (Keyword words.Update ∷ Name t ∷ Keyword words.Set ∷ (list ++ body)) end (statement.Update t xs c) s (list, body, refl, listed, filter) ends))

deleted : (t : List ℕ) (ls : List Lexeme) (s : Statement) → AfterHead (head.Delete t) ls s → IsStatement (Keyword words.Delete ∷ Keyword words.From ∷ Name t ∷ ls) s
deleted t ls s (body, end, c, cut, filter, ends) =
    rw cut (ended (Keyword words.Delete ∷ Keyword words.From ∷ Name t ∷ body) end (statement.Delete t c) s (body, refl, filter) ends)

pub opening_back : (o : OpeningPart) (l : Lexeme) (ls : List Lexeme) (s : Statement) → From ls s (opening_next o l) (AfterOpening o (l ∷ ls) s)
unfolding opening_next
opening_back opening.CreateTable l ls s =
    only_word ls s (λ k. AfterOpening opening.CreateTable (k ∷ ls) s) words.Table l (Opening opening.CreateName) (λ r. r)
opening_back opening.DropTable l ls s = only_word ls s (λ k. AfterOpening opening.DropTable (k ∷ ls) s) words.Table l (Opening opening.DropName) (λ r. r)
opening_back opening.InsertInto l ls s = only_word ls s (λ k. AfterOpening opening.InsertInto (k ∷ ls) s) words.Into l (Opening opening.InsertName) (λ r. r)
opening_back opening.DeleteFrom l ls s = only_word ls s (λ k. AfterOpening opening.DeleteFrom (k ∷ ls) s) words.From l (Opening opening.DeleteName) (λ r. r)
opening_back (opening.UpdateSet t) l ls s =
    only_word ls s (λ k. AfterOpening (opening.UpdateSet t) (k ∷ ls) s) words.Set l (updating t) (λ r. updated t ls s r)
opening_back opening.CreateName l ls s =
    by_name ls s (λ k. AfterOpening opening.CreateName (k ∷ ls) s) (after_name opening.CreateName) l
    (λ t. reads ls s (creating t) (AfterOpening opening.CreateName (Name t ∷ ls) s) (λ r. create_begun t ls s r))
opening_back opening.DropName l ls s =
    by_name ls s (λ k. AfterOpening opening.DropName (k ∷ ls) s) (after_name opening.DropName) l
    (λ t. reads ls s (Whole (statement.Drop t)) (AfterOpening opening.DropName (Name t ∷ ls) s)
    (λ r. ended (Keyword words.Drop ∷ Keyword words.Table ∷ Name t ∷ []) ls (statement.Drop t) s refl r))
opening_back opening.InsertName l ls s =
    by_name ls s (λ k. AfterOpening opening.InsertName (k ∷ ls) s) (after_name opening.InsertName) l
    (λ t. reads ls s (inserting t) (AfterOpening opening.InsertName (Name t ∷ ls) s) (λ r. inserted t ls s r))
opening_back opening.UpdateName l ls s =
    by_name ls s (λ k. AfterOpening opening.UpdateName (k ∷ ls) s) (after_name opening.UpdateName) l
    (λ t. reads ls s (Opening (opening.UpdateSet t)) (AfterOpening opening.UpdateName (Name t ∷ ls) s) (λ r. r))
opening_back opening.DeleteName l ls s =
    by_name ls s (λ k. AfterOpening opening.DeleteName (k ∷ ls) s) (after_name opening.DeleteName) l
    (λ t. reads ls s (Headed (head.Delete t)) (AfterOpening opening.DeleteName (Name t ∷ ls) s) (λ r. deleted t ls s r))
