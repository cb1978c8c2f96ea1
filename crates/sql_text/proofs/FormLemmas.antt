-- Lexemes in the form of a statement are read as it.
use Rattle.std.proofs.Common.{◌≡◌, ℕ, Bool, true, false, List, [], ◌∷◌, ◌++◌, Option, Some, None, Ok, refl, sym, ap, ◌∙◌, inl, inr, append_assoc, map}
use Rattle.sql_text.specs.declared.filter.Head.TheVariants as head
use Rattle.sql_text.specs.declared.insert.InsertDue.{InsertDue}
use Rattle.sql_text.specs.declared.insert.InsertDue.TheVariants as insert
use Rattle.sql_text.specs.declared.keyword.Keyword.TheVariants as words
use Rattle.sql_text.specs.declared.lexeme.Lexeme.{Lexeme}
use Rattle.sql_text.specs.declared.lexeme.Lexeme.TheVariants.{Keyword, Name, Sign, End}
use Rattle.sql_text.specs.declared.lexeme.Sign.TheVariants as signs
use Rattle.sql_text.specs.declared.reading.Reading.{Reading}
use Rattle.sql_text.specs.declared.reading.Reading.TheVariants.{Start, Creating, Inserting, Selecting, Updating, Head, Whole, Done}
use Rattle.sql_text.specs.declared.select.SelectDue.TheVariants as select
use Rattle.sql_text.specs.declared.statement.Literal.{Literal}
use Rattle.sql_text.specs.declared.statement.Literal.TheVariants as literal
use Rattle.sql_text.specs.declared.statement.Literals.{Literals}
use Rattle.sql_text.specs.declared.statement.Statement.{Statement}
use Rattle.sql_text.specs.declared.statement.Statement.TheVariants as statement
use Rattle.std.specs.Char.{to_ascii_uppercase}
use Rattle.sql_text.specs.declared.create.CreateDue.TheVariants as create
use Rattle.sql_text.specs.declared.create.CreateHead.{CreateHead}
use Rattle.sql_text.specs.declared.statement.Item.{Item}
use Rattle.sql_text.proofs.CreateLemmas.{items_lead, create_begins, engine_leads}
use Rattle.sql_text.specs.declared.statement.Assign.{Assign}
use Rattle.sql_text.specs.declared.sum.Summing.{Summing}
use Rattle.sql_text.specs.declared.sum.Summing.TheVariants.{First, Ready}
use Rattle.sql_text.specs.declared.sum.SumStep.TheVariants.{Goes}
use Rattle.sql_text.specs.declared.update.UpdateDue.{UpdateDue}
use Rattle.sql_text.specs.declared.update.UpdateDue.TheVariants as update
use Rattle.sql_text.specs.Update.{next as update_next, column as update_column, sum_part}
use Rattle.sql_text.proofs.SumLemmas.{Leads, both, sum_leads}
use Rattle.sql_text.specs.Conditions.{IsFilter}
use Rattle.sql_text.specs.Forms.{IsItem, may_equal, AreColumns, IsForm, IsStatement}
use Rattle.sql_text.specs.Parts.{IsAssign, IsColumn, IsLiteral, IsList, IsRow}
use Rattle.sql_text.proofs.ConditionLemmas.{filter_leads, led, tail}
use Rattle.sql_text.specs.declared.statement.Cond.{Cond}
use Rattle.sql_text.specs.Insert.{next as insert_next, value, number}
use Rattle.sql_text.specs.Opening.{next as opening_next}
use Rattle.sql_text.specs.Plugins.{next as plugin_next}
use Rattle.sql_text.specs.Reading.{next, start}
use Rattle.sql_text.specs.Select.{next as select_next, column as select_column, table as select_table, all_table}
use Rattle.sql_text.proofs.ReadAll.{and_then, read_all, AreRead}
use Rattle.sql_text.specs.Steps.{◌>>=◌, same_keyword, same_sign, name_in, column_in, engine_in, text_in}
use Rattle.sql_text.specs.Sums.{literal_in, sum_step}
use Rattle.sql_text.specs.Transactions.{next as transaction_next, to_name}

-- ---- rows

abbrev row_at : List ℕ → List Literals → List Literal → InsertDue → Reading
row_at t rows values due = Inserting (record { table = t; rows = rows; values = values; due = due })

literal_leads : (t : List ℕ) (rows : List Literals) (vs : List Literal) (ls : List Lexeme) (x : Literal) → IsLiteral ls x → Leads (row_at t rows vs insert.Value) ls (row_at t rows (vs ++ x ∷ []) insert.More)
unfolding next insert_next value number literal_in text_in same_keyword same_sign
literal_leads t rows vs ls literal.Null is = rw is refl
literal_leads t rows vs ls (literal.Int n) (inl p) = rw (p.1, p.2) refl
literal_leads t rows vs ls (literal.Int n) (inr p) = rw (p.1, p.2) refl
literal_leads t rows vs ls (literal.Text text) is = rw is refl

comma_leads : (t : List ℕ) (rows : List Literals) (vs : List Literal) → Leads (row_at t rows vs insert.More) (Sign signs.Comma ∷ []) (row_at t rows vs insert.Value)
unfolding next insert_next same_sign
comma_leads t rows vs = refl

values_lead : (t : List ℕ) (rows : List Literals) (vs : List Literal) (ls : List Lexeme) (xs : List Literal) → IsList IsLiteral ls xs → Leads (row_at t rows vs insert.Value) ls (row_at t rows (vs ++ xs) insert.More)
values_lead t rows vs ls [] is = absurd is
values_lead t rows vs ls (x ∷ []) is = literal_leads t rows vs ls x is
values_lead t rows vs ls (x ∷ y ∷ ys) is =
    let first = literal_leads t rows vs is.0 x is.3 in
    let others = values_lead t rows (vs ++ x ∷ []) is.1 (y ∷ ys) is.4 in
    let behind = both _ _ _ (Sign signs.Comma ∷ []) is.1 (comma_leads t rows (vs ++ x ∷ [])) others in
    rw is.2 (both _ _ _ is.0 (Sign signs.Comma ∷ is.1) first behind ∙ ap (λ zs. Ok (row_at t rows zs insert.More)) (append_assoc vs (x ∷ []) (y ∷ ys)))

open_leads : (t : List ℕ) (rows : List Literals) → Leads (row_at t rows [] insert.Open) (Sign signs.Open ∷ []) (row_at t rows [] insert.Value)
unfolding next insert_next same_sign
open_leads t rows = refl

close_leads : (t : List ℕ) (rows : List Literals) (vs : List Literal) → Leads (row_at t rows vs insert.More) (Sign signs.Close ∷ []) (row_at t (rows ++ record { values = vs } ∷ []) [] insert.Rows)
unfolding next insert_next same_sign
close_leads t rows vs = refl

row_leads : (t : List ℕ) (rows : List Literals) (ls : List Lexeme) (r : Literals) → IsRow ls r → Leads (row_at t rows [] insert.Open) ls (row_at t (rows ++ r ∷ []) [] insert.Rows)
row_leads t rows ls r is =
    let values = both _ _ _ is.0 (Sign signs.Close ∷ []) (values_lead t rows [] is.0 r.values is.2) (close_leads t rows r.values) in
    rw is.1 (both _ _ _ (Sign signs.Open ∷ []) (is.0 ++ Sign signs.Close ∷ []) (open_leads t rows) values)

next_row_leads : (t : List ℕ) (rows : List Literals) → Leads (row_at t rows [] insert.Rows) (Sign signs.Comma ∷ []) (row_at t rows [] insert.Open)
unfolding next insert_next same_sign
next_row_leads t rows = refl

rows_lead : (t : List ℕ) (rows : List Literals) (ls : List Lexeme) (rs : List Literals) → IsList IsRow ls rs → Leads (row_at t rows [] insert.Open) ls (row_at t (rows ++ rs) [] insert.Rows)
rows_lead t rows ls [] is = absurd is
rows_lead t rows ls (x ∷ []) is = row_leads t rows ls x is
rows_lead t rows ls (x ∷ y ∷ ys) is =
    let first = row_leads t rows is.0 x is.3 in
    let others = rows_lead t (rows ++ x ∷ []) is.1 (y ∷ ys) is.4 in
    let behind = both _ _ _ (Sign signs.Comma ∷ []) is.1 (next_row_leads t (rows ++ x ∷ [])) others in
    rw is.2 (both _ _ _ is.0 (Sign signs.Comma ∷ is.1) first behind ∙ ap (λ zs. Ok (row_at t zs [] insert.Rows)) (append_assoc rows (x ∷ []) (y ∷ ys)))

insert_leads : (t : List ℕ) → Leads Start (Keyword words.Insert ∷ Keyword words.Into ∷ Name t ∷ Keyword words.Values ∷ []) (row_at t [] [] insert.Open)
unfolding next start opening_next name_in insert_next same_keyword
insert_leads t = refl

-- ---- columns

abbrev columns_at : List (List ℕ) → Reading
columns_at cs = Selecting (record { columns = cs; due = select.More })

first_column : (ls : List Lexeme) (c : List ℕ) → IsColumn ls c → Leads Start (Keyword words.Select ∷ ls) (columns_at (c ∷ []))
unfolding next start select_next select_column column_in name_in same_sign same_keyword
first_column ls c is = rw (is.1, is.2) refl

next_column : (cs : List (List ℕ)) (ls : List Lexeme) (c : List ℕ) → IsColumn ls c → Leads (columns_at cs) (Sign signs.Comma ∷ ls) (columns_at (cs ++ c ∷ []))
unfolding next select_next select_column column_in name_in same_sign
next_column cs ls c is = rw (is.1, is.2) refl

more_columns : (cs : List (List ℕ)) (ls : List Lexeme) (xs : List (List ℕ)) → IsList IsColumn ls xs → Leads (columns_at cs) (Sign signs.Comma ∷ ls) (columns_at (cs ++ xs))
more_columns cs ls [] is = absurd is
more_columns cs ls (x ∷ []) is = next_column cs ls x is
more_columns cs ls (x ∷ y ∷ ys) is =
    let others = more_columns (cs ++ x ∷ []) is.1 (y ∷ ys) is.4 in
    rw is.2 (both _ _ _ (Sign signs.Comma ∷ is.0) (Sign signs.Comma ∷ is.1) (next_column cs is.0 x is.3) others ∙ ap (λ zs. Ok (columns_at zs)) (append_assoc cs (x ∷ []) (y ∷ ys)))

columns_lead : (ls : List Lexeme) (xs : List (List ℕ)) → IsList IsColumn ls xs → Leads Start (Keyword words.Select ∷ ls) (columns_at xs)
columns_lead ls [] is = absurd is
columns_lead ls (x ∷ []) is = first_column ls x is
columns_lead ls (x ∷ y ∷ ys) is =
    rw is.2 (both _ _ _ (Keyword words.Select ∷ is.0) (Sign signs.Comma ∷ is.1) (first_column is.0 x is.3) (more_columns (x ∷ []) is.1 (y ∷ ys) is.4))

from_leads : (cs : List (List ℕ)) (t : List ℕ) → Leads (columns_at cs) (Keyword words.From ∷ Name t ∷ []) (Head (head.Select t (Some cs)))
unfolding next select_next select_table name_in same_sign same_keyword
from_leads cs t = refl

all_leads : (t : List ℕ) → Leads Start (Keyword words.Select ∷ Sign signs.Star ∷ Keyword words.From ∷ Name t ∷ []) (Head (head.Select t None))
unfolding next start select_next all_table name_in same_sign same_keyword
all_leads t = refl

select_leads : (t : List ℕ) (cs : Option (List (List ℕ))) (ls : List Lexeme) → AreColumns ls cs → Leads Start (Keyword words.Select ∷ (ls ++ Keyword words.From ∷ Name t ∷ [])) (Head (head.Select t cs))
select_leads t None ls is = rw is (all_leads t)
select_leads t (Some cs) ls is = both _ _ _ (Keyword words.Select ∷ ls) (Keyword words.From ∷ Name t ∷ []) (columns_lead ls cs is) (from_leads cs t)

-- ---- UPDATE

abbrev set_at : List ℕ → List Assign → UpdateDue → Reading
set_at t sets due = Updating (record { table = t; sets = sets; due = due })

sum_goes : (t : List ℕ) (sets : List Assign) (c : List ℕ) (s q : Summing) (l : Lexeme) → sum_step s l ≡ Ok (Goes q) → next (set_at t sets (update.Sum c s)) l ≡ Ok (set_at t sets (update.Sum c q))
unfolding next update_next
sum_goes t sets c s q l goes = ap (λ st. st >>= sum_part t sets c l) goes

name_leads : (t : List ℕ) (sets : List Assign) (ls : List Lexeme) (c : List ℕ) → IsColumn ls c → Leads (set_at t sets update.Column) ls (set_at t sets (update.Equal c))
unfolding next update_next update_column column_in name_in
name_leads t sets ls c is = rw (is.1, is.2) refl

equal_leads : (t : List ℕ) (sets : List Assign) (c : List ℕ) → Leads (set_at t sets (update.Equal c)) (Sign signs.Equal ∷ []) (set_at t sets (update.Sum c First))
unfolding next update_next same_sign
equal_leads t sets c = refl

assign_leads : (t : List ℕ) (sets : List Assign) (ls : List Lexeme) (a : Assign) → IsAssign ls a → Leads (set_at t sets update.Column) ls (set_at t sets (update.Sum a.column (Ready a.sum)))
assign_leads t sets ls a is =
    let sum = sum_leads (λ s. set_at t sets (update.Sum a.column s)) (sum_goes t sets a.column) is.1 a.sum is.4 in
    let behind = both (set_at t sets (update.Equal a.column)) (set_at t sets (update.Sum a.column First)) (set_at t sets (update.Sum a.column (Ready a.sum))) (Sign signs.Equal ∷ []) is.1 (equal_leads t sets a.column) sum in
    rw is.2 (both (set_at t sets update.Column) (set_at t sets (update.Equal a.column)) (set_at t sets (update.Sum a.column (Ready a.sum))) is.0 (Sign signs.Equal ∷ is.1) (name_leads t sets is.0 a.column is.3) behind)

next_set_leads : (t : List ℕ) (sets : List Assign) (a : Assign) → Leads (set_at t sets (update.Sum a.column (Ready a.sum))) (Sign signs.Comma ∷ []) (set_at t (sets ++ a ∷ []) update.Column)
unfolding next update_next sum_step same_sign
next_set_leads t sets a = refl

-- the lexeme stands behind all that an UPDATE sets
data EndsSets : Lexeme → Type 0 where
  at_where : EndsSets (Keyword words.Where)
  at_semicolon : EndsSets (Sign signs.Semicolon)
  at_last : EndsSets End

sets_end : (t : List ℕ) (sets : List Assign) (a : Assign) (l : Lexeme) → EndsSets l
    → next (set_at t sets (update.Sum a.column (Ready a.sum))) l ≡ next (Head (head.Update t (sets ++ a ∷ []))) l
unfolding next update_next sum_step same_sign same_keyword
sets_end t sets a l at_where = refl
sets_end t sets a l at_semicolon = refl
sets_end t sets a l at_last = refl

sets_lead : (t : List ℕ) (sets : List Assign) (ls : List Lexeme) (xs : List Assign) (l : Lexeme) (rest : List Lexeme) → EndsSets l → IsList IsAssign ls xs
    → read_all (set_at t sets update.Column) (ls ++ l ∷ rest) ≡ read_all (Head (head.Update t (sets ++ xs))) (l ∷ rest)
sets_lead t sets ls [] l rest ends is = absurd is
sets_lead t sets ls (x ∷ []) l rest ends is =
    led (set_at t sets update.Column) (set_at t sets (update.Sum x.column (Ready x.sum))) ls (l ∷ rest) (assign_leads t sets ls x is)
    ∙ ap (λ st. and_then st (λ q. read_all q rest)) (sets_end t sets x l ends)
sets_lead t sets ls (x ∷ y ∷ ys) l rest ends is =
    let others = sets_lead t (sets ++ x ∷ []) is.1 (y ∷ ys) l rest ends is.4 in
    ap (λ zs. read_all (set_at t sets update.Column) (zs ++ l ∷ rest)) is.2
    ∙ ap (read_all (set_at t sets update.Column)) (append_assoc is.0 (Sign signs.Comma ∷ is.1) (l ∷ rest))
    ∙ led (set_at t sets update.Column) (set_at t sets (update.Sum x.column (Ready x.sum))) is.0 (Sign signs.Comma ∷ (is.1 ++ l ∷ rest)) (assign_leads t sets is.0 x is.3)
    ∙ led (set_at t sets (update.Sum x.column (Ready x.sum))) (set_at t (sets ++ x ∷ []) update.Column) (Sign signs.Comma ∷ []) (is.1 ++ l ∷ rest) (next_set_leads t sets x)
    ∙ others ∙ ap (λ zs. read_all (Head (head.Update t zs)) (l ∷ rest)) (append_assoc sets (x ∷ []) (y ∷ ys))

-- what stands behind the sets is WHERE or the end
sets_then : (b : Bool) (t : List ℕ) (ls : List Lexeme) (xs : List Assign) (more : List Lexeme) (c : Option Cond) → IsFilter more c → IsList IsAssign ls xs
    → read_all (set_at t [] update.Column) (ls ++ (more ++ tail b)) ≡ read_all (Head (head.Update t xs)) (more ++ tail b)
sets_then true t ls xs more None is listed = rw is (sets_lead t [] ls xs (Sign signs.Semicolon) (End ∷ []) at_semicolon listed)
sets_then false t ls xs more None is listed = rw is (sets_lead t [] ls xs End [] at_last listed)
sets_then b t ls xs more (Some c) is listed = rw is.1 (sets_lead t [] ls xs (Keyword words.Where) (is.0 ++ tail b) at_where listed)

update_leads : (t : List ℕ) → Leads Start (Keyword words.Update ∷ Name t ∷ Keyword words.Set ∷ []) (set_at t [] update.Column)
unfolding next start opening_next name_in same_keyword
update_leads t = refl

-- ---- SELECT, UPDATE and DELETE with a condition or none

select_done : (b : Bool) (t : List ℕ) (cs : Option (List (List ℕ))) (c : Option Cond) (body more : List Lexeme) → AreColumns body cs → IsFilter more c
    → Leads Start ((Keyword words.Select ∷ (body ++ Keyword words.From ∷ Name t ∷ more)) ++ tail b) (Done (statement.Select t cs c))
select_done b t cs c body more are filter =
    let front = Keyword words.Select ∷ (body ++ Keyword words.From ∷ Name t ∷ []) in
    let same : (Keyword words.Select ∷ (body ++ Keyword words.From ∷ Name t ∷ more)) ++ tail b ≡ front ++ (more ++ tail b) =
    ap (λ zs. Keyword words.Select ∷ zs) (append_assoc body (Keyword words.From ∷ Name t ∷ more) (tail b) ∙ sym (append_assoc body (Keyword words.From ∷ Name t ∷ []) (more ++ tail b))) in
    ap (read_all Start) same ∙ both Start (Head (head.Select t cs)) (Done (statement.Select t cs c)) front (more ++ tail b) (select_leads t cs body are) (filter_leads b (head.Select t cs) more c filter)

update_done : (b : Bool) (t : List ℕ) (sets : List Assign) (c : Option Cond) (body more : List Lexeme) → IsList IsAssign body sets → IsFilter more c
    → Leads Start ((Keyword words.Update ∷ Name t ∷ Keyword words.Set ∷ (body ++ more)) ++ tail b) (Done (statement.Update t sets c))
update_done b t sets c body more are filter =
    ap (λ zs. read_all Start (Keyword words.Update ∷ Name t ∷ Keyword words.Set ∷ zs)) (append_assoc body more (tail b))
    ∙ led Start (set_at t [] update.Column) (Keyword words.Update ∷ Name t ∷ Keyword words.Set ∷ []) (body ++ (more ++ tail b)) (update_leads t)
    ∙ sets_then b t body sets more c filter are ∙ filter_leads b (head.Update t sets) more c filter

delete_leads : (t : List ℕ) → Leads Start (Keyword words.Delete ∷ Keyword words.From ∷ Name t ∷ []) (Head (head.Delete t))
unfolding next start opening_next name_in same_keyword
delete_leads t = refl

delete_done : (b : Bool) (t : List ℕ) (c : Option Cond) (more : List Lexeme) → IsFilter more c
    → Leads Start ((Keyword words.Delete ∷ Keyword words.From ∷ Name t ∷ more) ++ tail b) (Done (statement.Delete t c))
delete_done b t c more filter =
    both Start (Head (head.Delete t)) (Done (statement.Delete t c)) (Keyword words.Delete ∷ Keyword words.From ∷ Name t ∷ []) (more ++ tail b) (delete_leads t)
    (filter_leads b (head.Delete t) more c filter)

-- ---- ends

rows_end : (semicolon : Bool) (t : List ℕ) (rows : List Literals) → Leads (row_at t rows [] insert.Rows) (tail semicolon) (Done (statement.Insert t rows))
unfolding next insert_next same_sign
rows_end true t rows = refl
rows_end false t rows = refl

whole_end : (semicolon : Bool) (s : Statement) → Leads (Whole s) (tail semicolon) (Done s)
unfolding next same_sign
whole_end true s = refl
whole_end false s = refl

create_done : (semicolon : Bool) (ls : List Lexeme) (t : List ℕ) (items : List Item) (engine : List ℕ) (body : List Lexeme) (equal : Bool) (word : List ℕ)
    → ls ≡ Keyword words.Create ∷ Keyword words.Table ∷ Name t ∷ Sign signs.Open ∷ (body ++ Sign signs.Close ∷ Keyword words.Engine ∷ may_equal equal (Name word ∷ []))
    → IsList IsItem body items → engine ≡ map to_ascii_uppercase word → Leads Start (ls ++ tail semicolon) (Done (statement.Create t items engine))
create_done b ls t items engine body equal word is listed folded =
    let h : CreateHead = record { table = t; items = [] } in
    let g : CreateHead = record { table = t; items = items } in
    let s = statement.Create t items (map to_ascii_uppercase word) in
    let behind = Keyword words.Engine ∷ may_equal equal (Name word ∷ []) in
    let item_due = Creating (record { head = h; due = create.Item }) in
    let engine_due = Creating (record { head = g; due = create.Engine }) in
    let ends = both engine_due (Whole s) (Done s) behind (tail b) (engine_leads equal g word) (whole_end b s) in
    let all = both item_due engine_due (Done s) (body ++ Sign signs.Close ∷ []) (behind ++ tail b) (items_lead h body items listed) ends in
    let begun = both Start item_due (Done s) (Keyword words.Create ∷ Keyword words.Table ∷ Name t ∷ Sign signs.Open ∷ []) ((body ++ Sign signs.Close ∷ []) ++ (behind ++ tail b)) (create_begins t) all in
    rw (is, folded, append_assoc body (Sign signs.Close ∷ behind) (tail b), sym (append_assoc body (Sign signs.Close ∷ []) (behind ++ tail b))) begun

form_done : (semicolon : Bool) (ls : List Lexeme) (s : Statement) → IsForm ls s → Leads Start (ls ++ tail semicolon) (Done s)
unfolding next start opening_next transaction_next plugin_next to_name name_in column_in engine_in text_in same_keyword same_sign
form_done b ls (statement.Create t items engine) (body, equal, word, is, listed, folded) =
    create_done b ls t items engine body equal word is listed folded
form_done true ls (statement.Drop t) is = rw is refl
form_done false ls (statement.Drop t) is = rw is refl
form_done b ls (statement.Insert t rows) is =
    let ends = both (row_at t [] [] insert.Open) (row_at t rows [] insert.Rows) (Done (statement.Insert t rows)) is.0 (tail b) (rows_lead t [] is.0 rows is.2) (rows_end b t rows) in
    rw is.1 (both Start (row_at t [] [] insert.Open) (Done (statement.Insert t rows)) (Keyword words.Insert ∷ Keyword words.Into ∷ Name t ∷ Keyword words.Values ∷ []) (is.0 ++ tail b) (insert_leads t) ends)
form_done b ls (statement.Select t cs c) (body, more, is, are, filter) = rw is (select_done b t cs c body more are filter)
form_done b ls (statement.Update t sets c) (body, more, is, are, filter) = rw is (update_done b t sets c body more are filter)
form_done b ls (statement.Delete t c) (more, is, filter) = rw is (delete_done b t c more filter)
form_done true ls statement.Begin (inl is) = rw is refl
form_done true ls statement.Begin (inr (inl is)) = rw is refl
form_done true ls statement.Begin (inr (inr is)) = rw is refl
form_done false ls statement.Begin (inl is) = rw is refl
form_done false ls statement.Begin (inr (inl is)) = rw is refl
form_done false ls statement.Begin (inr (inr is)) = rw is refl
form_done true ls statement.Commit (inl is) = rw is refl
form_done true ls statement.Commit (inr is) = rw is refl
form_done false ls statement.Commit (inl is) = rw is refl
form_done false ls statement.Commit (inr is) = rw is refl
form_done true ls statement.Rollback (inl is) = rw is refl
form_done true ls statement.Rollback (inr is) = rw is refl
form_done false ls statement.Rollback (inl is) = rw is refl
form_done false ls statement.Rollback (inr is) = rw is refl
form_done true ls (statement.Savepoint point) (name, is, (word, named, folded)) = rw (is, named, folded) refl
form_done false ls (statement.Savepoint point) (name, is, (word, named, folded)) = rw (is, named, folded) refl
form_done true ls (statement.RollbackTo point) (true, true, name, is, (word, named, folded)) = rw (is, named, folded) refl
form_done true ls (statement.RollbackTo point) (true, false, name, is, (word, named, folded)) = rw (is, named, folded) refl
form_done true ls (statement.RollbackTo point) (false, true, name, is, (word, named, folded)) = rw (is, named, folded) refl
form_done true ls (statement.RollbackTo point) (false, false, name, is, (word, named, folded)) = rw (is, named, folded) refl
form_done false ls (statement.RollbackTo point) (true, true, name, is, (word, named, folded)) = rw (is, named, folded) refl
form_done false ls (statement.RollbackTo point) (true, false, name, is, (word, named, folded)) = rw (is, named, folded) refl
form_done false ls (statement.RollbackTo point) (false, true, name, is, (word, named, folded)) = rw (is, named, folded) refl
form_done false ls (statement.RollbackTo point) (false, false, name, is, (word, named, folded)) = rw (is, named, folded) refl
form_done true ls (statement.Release point) (name, is, (word, named, folded)) = rw (is, named, folded) refl
form_done false ls (statement.Release point) (name, is, (word, named, folded)) = rw (is, named, folded) refl
form_done true ls (statement.Install name soname) is = rw (is.1, is.2) refl
form_done false ls (statement.Install name soname) is = rw (is.1, is.2) refl
form_done true ls (statement.Uninstall name) is = rw (is.1, is.2) refl
form_done false ls (statement.Uninstall name) is = rw (is.1, is.2) refl

pub form_spelt : (ls : List Lexeme) (s : Statement) → IsStatement ls s → AreRead ls s
form_spelt ls s (body, end, cut, form, inl is) = rw (cut, is) (form_done false body s form)
form_spelt ls s (body, end, cut, form, inr is) = rw (cut, is) (form_done true body s form)
