-- Each part of a statement that has been read can be completed.
use Rattle.std.proofs.Common.{◌≡◌, ℕ, zero, suc, ◌+◌, Bool, List, [], ◌∷◌, ◌++◌, length, None, Ok, refl, ap, ◌∙◌, arith, replicate, nat_lt, if◌then◌else◌}
use Rattle.sql_text.specs.declared.create.CreateDue.TheVariants as create
use Rattle.sql_text.specs.declared.create.ColumnDue.TheVariants as columns
use Rattle.sql_text.specs.declared.create.KeyDue.TheVariants as keys
use Rattle.sql_text.specs.declared.create.CreateHead.{CreateHead}
use Rattle.sql_text.specs.declared.create.CreateDue.{CreateDue}
use Rattle.sql_text.specs.declared.filter.Head.{Head}
use Rattle.sql_text.specs.declared.filter.Tests.{Tests}
use Rattle.sql_text.specs.declared.filter.Level.{Level}
use Rattle.sql_text.specs.declared.filter.FilterDue.{FilterDue}
use Rattle.sql_text.specs.declared.filter.FilterDue.TheVariants as filter
use Rattle.sql_text.specs.declared.insert.InsertDue.{InsertDue}
use Rattle.sql_text.specs.declared.insert.InsertDue.TheVariants as insert
use Rattle.sql_text.specs.declared.lexeme.Lexeme.{Lexeme}
use Rattle.sql_text.specs.declared.lexeme.Lexeme.TheVariants.{Keyword, Name, Number, Text, Sign, End}
use Rattle.sql_text.specs.declared.keyword.Keyword.TheVariants as words
use Rattle.sql_text.specs.declared.lexeme.Sign.TheVariants as signs
use Rattle.sql_text.specs.declared.create.ColumnRead.{ColumnRead}
use Rattle.sql_text.specs.declared.statement.Literal.{Literal}
use Rattle.sql_text.specs.declared.statement.Literals.{Literals}
use Rattle.sql_text.specs.declared.statement.Op.{Op}
use Rattle.sql_text.specs.declared.statement.Sum.{Sum}
use Rattle.sql_text.specs.declared.opening.Opening.TheVariants as openings
use Rattle.sql_text.specs.declared.opening.Opening.{Opening as OpeningPart}
use Rattle.sql_text.specs.declared.plugin.Plugging.TheVariants as plugs
use Rattle.sql_text.specs.declared.plugin.Plugging.{Plugging as PluggingPart}
use Rattle.sql_text.specs.declared.transaction.Transacting.{Transacting as TransactingPart}
use Rattle.sql_text.specs.declared.transaction.Transacting.TheVariants as transactions
use Rattle.sql_text.specs.declared.reading.Reading.{Reading}
use Rattle.sql_text.specs.declared.reading.Reading.TheVariants.{Start, Opening, Transacting, Plugging, Creating, Inserting}
use Rattle.sql_text.specs.declared.reading.Reading.TheVariants.{Selecting, Updating, Head as Headed, Filtering, Whole, Closed, Done}
use Rattle.sql_text.specs.declared.select.SelectDue.{SelectDue}
use Rattle.sql_text.specs.declared.select.SelectDue.TheVariants as select
use Rattle.sql_text.specs.declared.statement.Step.{Step as CondStep}
use Rattle.sql_text.specs.declared.sum.Summing.TheVariants as sums
use Rattle.sql_text.specs.declared.update.UpdateDue.{UpdateDue}
use Rattle.sql_text.specs.declared.update.UpdateDue.TheVariants as update
use Rattle.sql_text.specs.Create.{next as create_next, item, after_column, key_column, key_close, engine_name}
use Rattle.sql_text.proofs.FilterLemmas.{pop_last-push}
use Rattle.sql_text.specs.declared.statement.Step.TheVariants.{Or, And, Not}
use Rattle.sql_text.specs.Filter.{pop_last, member_of, next as filter_next, with_member, with_test, with_and, with_or, closed, at_level, at_end, more, op, left, member, null, compared, finished, finish}
use Rattle.sql_text.specs.Insert.{next as insert_next, value, number}
use Rattle.sql_text.specs.Opening.{next as opening_next}
use Rattle.sql_text.specs.Plugins.{next as plugin_next}
use Rattle.sql_text.specs.Reading.{next, start}
use Rattle.sql_text.specs.Select.{next as select_next, column as select_column, table as select_table, all_table}
use Rattle.sql_text.proofs.ReadAll.{and_then, read_all}
use Rattle.sql_text.specs.Steps.{◌>>=◌, same_keyword, same_sign, name_in, column_in, engine_in, text_in}
use Rattle.sql_text.specs.Sums.{literal_in, operand_in, negative_operand, sum_step}
use Rattle.sql_text.specs.Transactions.{next as transaction_next, to_name}
use Rattle.sql_text.specs.Update.{next as update_next, column as update_column}
use Rattle.sql_text.specs.declared.statement.Assign.{Assign}
use Rattle.sql_text.specs.declared.statement.Statement.{Statement}

-- these lexemes complete it
abbrev pub Completable : Reading → Type 0
Completable r = (more : List Lexeme) × (s : Statement) × (read_all r more ≡ Ok (Done s))

-- one lexeme leads to what can be completed
by : (r following : Reading) (l : Lexeme) → next r l ≡ Ok following → Completable following → Completable r
by r following l is c = (l ∷ c.0, c.1, ap (λ x. and_then x (λ q. read_all q c.0)) is ∙ c.2)

-- the letter a, as a name
abbrev a : List ℕ
a = 97 ∷ []

whole_front : (s : Statement) → Completable (Whole s)
unfolding next
whole_front s = (End ∷ [], s, refl)

closed_front : (s : Statement) → Completable (Closed s)
unfolding next
closed_front s = (End ∷ [], s, refl)

head_front : (h : Head) → Completable (Headed h)
unfolding next
head_front h = (End ∷ [], finish h None, refl)

-- the steps of a CREATE
create_steps : ℕ
unfolding next create_next item after_column key_column key_close engine_name column_in engine_in name_in same_keyword same_sign
create_steps = 0

engine_name_front : (h : CreateHead) → Completable (Creating (record { head = h; due = create.EngineName }))
unfolding create_steps
engine_name_front h = by _ _ (Name a) refl (whole_front _)

equal_front : (h : CreateHead) → Completable (Creating (record { head = h; due = create.Equal }))
unfolding create_steps
equal_front h = by _ _ (Name a) refl (whole_front _)

engine_front : (h : CreateHead) → Completable (Creating (record { head = h; due = create.Engine }))
unfolding create_steps
engine_front h = by _ _ (Keyword words.Engine) refl (equal_front _)

more_front : (h : CreateHead) → Completable (Creating (record { head = h; due = create.More }))
unfolding create_steps
more_front h = by _ _ (Sign signs.Close) refl (engine_front _)

key_close_front : (h : CreateHead) (n : List ℕ) → Completable (Creating (record { head = h; due = create.KeyClose n }))
unfolding create_steps
key_close_front h n = by _ _ (Sign signs.Close) refl (more_front _)

key_column_front : (h : CreateHead) → Completable (Creating (record { head = h; due = create.Key keys.Column }))
unfolding create_steps
key_column_front h = by _ _ (Name a) refl (key_close_front _ _)

key_open_front : (h : CreateHead) → Completable (Creating (record { head = h; due = create.Key keys.Open }))
unfolding create_steps
key_open_front h = by _ _ (Sign signs.Open) refl (key_column_front _)

key_front : (h : CreateHead) → Completable (Creating (record { head = h; due = create.Key keys.Key }))
unfolding create_steps
key_front h = by _ _ (Keyword words.Key) refl (key_open_front _)

options_front : (h : CreateHead) (c : ColumnRead) → Completable (Creating (record { head = h; due = create.Options c }))
unfolding create_steps
options_front h c = by _ _ (Sign signs.Close) refl (engine_front _)

option_key_front : (h : CreateHead) (c : ColumnRead) → Completable (Creating (record { head = h; due = create.OptionKey c }))
unfolding create_steps
option_key_front h c = by _ _ (Keyword words.Key) refl (options_front _ _)

option_null_front : (h : CreateHead) (c : ColumnRead) → Completable (Creating (record { head = h; due = create.OptionNull c }))
unfolding create_steps
option_null_front h c = by _ _ (Keyword words.Null) refl (options_front _ _)

close_front : (h : CreateHead) (n : List ℕ) (k : ℕ) → Completable (Creating (record { head = h; due = create.Column n (columns.Close k) }))
unfolding create_steps
close_front h n k = by _ _ (Sign signs.Close) refl (options_front _ _)

length_front : (h : CreateHead) (n : List ℕ) → Completable (Creating (record { head = h; due = create.Column n columns.Length }))
unfolding create_steps
length_front h n = by _ _ (Number 1) refl (close_front _ _ _)

open_front : (h : CreateHead) (n : List ℕ) → Completable (Creating (record { head = h; due = create.Column n columns.Open }))
unfolding create_steps
open_front h n = by _ _ (Sign signs.Open) refl (length_front _ _)

kind_front : (h : CreateHead) (n : List ℕ) → Completable (Creating (record { head = h; due = create.Column n columns.Kind }))
unfolding create_steps
kind_front h n = by _ _ (Keyword words.BigInt) refl (options_front _ _)

item_front : (h : CreateHead) → Completable (Creating (record { head = h; due = create.Item }))
unfolding create_steps
item_front h = by _ _ (Name a) refl (kind_front _ _)

items_front : (h : CreateHead) → Completable (Creating (record { head = h; due = create.Open }))
unfolding create_steps
items_front h = by _ _ (Sign signs.Open) refl (item_front _)

create_front : (h : CreateHead) (due : CreateDue) → Completable (Creating (record { head = h; due = due }))
create_front h create.Open = items_front h
create_front h create.Item = item_front h
create_front h (create.Column n columns.Kind) = kind_front h n
create_front h (create.Column n columns.Open) = open_front h n
create_front h (create.Column n columns.Length) = length_front h n
create_front h (create.Column n (columns.Close k)) = close_front h n k
create_front h (create.Options c) = options_front h c
create_front h (create.OptionNull c) = option_null_front h c
create_front h (create.OptionKey c) = option_key_front h c
create_front h (create.Key keys.Key) = key_front h
create_front h (create.Key keys.Open) = key_open_front h
create_front h (create.Key keys.Column) = key_column_front h
create_front h (create.KeyClose n) = key_close_front h n
create_front h create.More = more_front h
create_front h create.Engine = engine_front h
create_front h create.Equal = equal_front h
create_front h create.EngineName = engine_name_front h

rows_front : (t : List ℕ) (r : List Literals) (v : List Literal) → Completable (Inserting (record { table = t; rows = r; values = v; due = insert.Rows }))
unfolding next insert_next same_sign
rows_front t r v = by _ (Done _) End refl ([], _, refl)

-- the steps of an INSERT
insert_steps : ℕ
unfolding next insert_next value number literal_in text_in same_keyword same_sign
insert_steps = 0

more_values_front : (t : List ℕ) (r : List Literals) (v : List Literal) → Completable (Inserting (record { table = t; rows = r; values = v; due = insert.More }))
unfolding insert_steps
more_values_front t r v = by _ _ (Sign signs.Close) refl (rows_front _ _ _)

number_front : (t : List ℕ) (r : List Literals) (v : List Literal) → Completable (Inserting (record { table = t; rows = r; values = v; due = insert.Number }))
unfolding insert_steps
number_front t r v = by _ _ (Number 1) refl (more_values_front _ _ _)

value_front : (t : List ℕ) (r : List Literals) (v : List Literal) → Completable (Inserting (record { table = t; rows = r; values = v; due = insert.Value }))
unfolding insert_steps
value_front t r v = by _ _ (Number 1) refl (more_values_front _ _ _)

row_front : (t : List ℕ) (r : List Literals) (v : List Literal) → Completable (Inserting (record { table = t; rows = r; values = v; due = insert.Open }))
unfolding insert_steps
row_front t r v = by _ _ (Sign signs.Open) refl (value_front _ _ _)

values_front : (t : List ℕ) (r : List Literals) (v : List Literal) → Completable (Inserting (record { table = t; rows = r; values = v; due = insert.Values }))
unfolding insert_steps
values_front t r v = by _ _ (Keyword words.Values) refl (row_front _ _ _)

insert_front : (t : List ℕ) (r : List Literals) (v : List Literal) (due : InsertDue) → Completable (Inserting (record { table = t; rows = r; values = v; due = due }))
insert_front t r v insert.Values = values_front t r v
insert_front t r v insert.Open = row_front t r v
insert_front t r v insert.Value = value_front t r v
insert_front t r v insert.Number = number_front t r v
insert_front t r v insert.More = more_values_front t r v
insert_front t r v insert.Rows = rows_front t r v

-- the steps of a SELECT
select_steps : ℕ
unfolding next select_next select_column select_table all_table column_in name_in same_keyword same_sign
select_steps = 0

table_front : (c : List (List ℕ)) → Completable (Selecting (record { columns = c; due = select.Table }))
unfolding select_steps
table_front c = by _ _ (Name a) refl (head_front _)

all_table_front : (c : List (List ℕ)) → Completable (Selecting (record { columns = c; due = select.AllTable }))
unfolding select_steps
all_table_front c = by _ _ (Name a) refl (head_front _)

all_from_front : (c : List (List ℕ)) → Completable (Selecting (record { columns = c; due = select.AllFrom }))
unfolding select_steps
all_from_front c = by _ _ (Keyword words.From) refl (all_table_front _)

more_columns_front : (c : List (List ℕ)) → Completable (Selecting (record { columns = c; due = select.More }))
unfolding select_steps
more_columns_front c = by _ _ (Keyword words.From) refl (table_front _)

column_front : (c : List (List ℕ)) → Completable (Selecting (record { columns = c; due = select.Column }))
unfolding select_steps
column_front c = by _ _ (Name a) refl (more_columns_front _)

columns_front : (c : List (List ℕ)) → Completable (Selecting (record { columns = c; due = select.Columns }))
unfolding select_steps
columns_front c = by _ _ (Name a) refl (more_columns_front _)

select_front : (c : List (List ℕ)) (due : SelectDue) → Completable (Selecting (record { columns = c; due = due }))
select_front c select.Columns = columns_front c
select_front c select.Column = column_front c
select_front c select.More = more_columns_front c
select_front c select.AllFrom = all_from_front c
select_front c select.AllTable = all_table_front c
select_front c select.Table = table_front c

ready_set_front : (t : List ℕ) (s : List Assign) (n : List ℕ) (r : Sum) → Completable (Updating (record { table = t; sets = s; due = update.Sum n (sums.Ready r) }))
unfolding next update_next sum_step same_sign same_keyword
ready_set_front t s n r = by _ (Done _) End refl ([], _, refl)

-- the steps of an UPDATE
update_steps : ℕ
unfolding next update_next update_column sum_step operand_in negative_operand literal_in text_in column_in name_in same_keyword same_sign
update_steps = 0

first_set_front : (t : List ℕ) (s : List Assign) (n : List ℕ) → Completable (Updating (record { table = t; sets = s; due = update.Sum n sums.First }))
unfolding update_steps
first_set_front t s n = by _ _ (Number 1) refl (ready_set_front _ _ _ _)

first_number_set_front : (t : List ℕ) (s : List Assign) (n : List ℕ) → Completable (Updating (record { table = t; sets = s; due = update.Sum n sums.FirstNumber }))
unfolding update_steps
first_number_set_front t s n = by _ _ (Number 1) refl (ready_set_front _ _ _ _)

next_set_front : (t : List ℕ) (s : List Assign) (n : List ℕ) (r : Sum) (m : Bool) → Completable (Updating (record { table = t; sets = s; due = update.Sum n (sums.Next r m) }))
unfolding update_steps
next_set_front t s n r m = by _ _ (Number 1) refl (ready_set_front _ _ _ _)

next_number_set_front : (t : List ℕ) (s : List Assign) (n : List ℕ) (r : Sum) (m : Bool) → Completable (Updating (record { table = t; sets = s; due = update.Sum n (sums.NextNumber r m) }))
unfolding update_steps
next_number_set_front t s n r m = by _ _ (Number 1) refl (ready_set_front _ _ _ _)

equal_set_front : (t : List ℕ) (s : List Assign) (n : List ℕ) → Completable (Updating (record { table = t; sets = s; due = update.Equal n }))
unfolding update_steps
equal_set_front t s n = by _ _ (Sign signs.Equal) refl (first_set_front _ _ _)

column_set_front : (t : List ℕ) (s : List Assign) → Completable (Updating (record { table = t; sets = s; due = update.Column }))
unfolding update_steps
column_set_front t s = by _ _ (Name a) refl (equal_set_front _ _ _)

update_front : (t : List ℕ) (s : List Assign) (due : UpdateDue) → Completable (Updating (record { table = t; sets = s; due = due }))
update_front t s update.Column = column_set_front t s
update_front t s (update.Equal n) = equal_set_front t s n
update_front t s (update.Sum n sums.First) = first_set_front t s n
update_front t s (update.Sum n sums.FirstNumber) = first_number_set_front t s n
update_front t s (update.Sum n (sums.Ready r)) = ready_set_front t s n r
update_front t s (update.Sum n (sums.Next r m)) = next_set_front t s n r m
update_front t s (update.Sum n (sums.NextNumber r m)) = next_number_set_front t s n r m

-- the steps of a level that is whole
abbrev whole_ands : Tests → List CondStep
whole_ands t = if nat_lt 1 t.level.ands then t.steps ++ And t.level.ands ∷ [] else t.steps

abbrev whole_steps : Tests → List CondStep
whole_steps t = if nat_lt 1 (t.level.ors + 1) then whole_ands t ++ Or (t.level.ors + 1) ∷ [] else whole_ands t

-- the level around it, with it as a member
abbrev around : Tests → List Level → Level → Tests
around t xs x = record { steps = whole_steps t ++ replicate x.nots Not; outer = xs; level = record { ors = x.ors; ands = x.ands + 1; nots = 0 } }

closed_level : (h : Head) (t : Tests) (xs : List Level) (x : Level) → t.outer ≡ xs ++ x ∷ [] → next (Filtering (record { head = h; tests = t; due = filter.More })) (Sign signs.Close) ≡ Ok (Filtering (record { head = h; tests = around t xs x; due = filter.More }))
unfolding next filter_next more at_end finished with_member with_and with_or closed same_keyword same_sign
closed_level h t xs x is =
    ap (λ o. member_of (whole_steps t) (pop_last o) >>= (λ joined. Ok (Filtering (record { head = h; tests = joined; due = filter.More })))) is
    ∙ ap (λ o. member_of (whole_steps t) o >>= (λ joined. Ok (Filtering (record { head = h; tests = joined; due = filter.More })))) (pop_last-push xs x)

end_level : (h : Head) (t : Tests) → t.outer ≡ [] → (s : Statement) × (next (Filtering (record { head = h; tests = t; due = filter.More })) End ≡ Ok (Done s))
unfolding next filter_next more at_end finished with_and with_or same_keyword same_sign
end_level h t is = (_, ap (λ o. at_level h t o End) is)

-- the list has a last member
last_of : (y : Level) (ys : List Level) → (xs : List Level) × (x : Level) × ((y ∷ ys) ≡ xs ++ x ∷ []) × (length xs ≡ length ys)
last_of y [] = ([], y, refl, refl)
last_of y (z ∷ zs) = let p = last_of z zs in (y ∷ p.0, p.1, ap (λ q. y ∷ q) p.2, ap suc p.3)

-- the levels around the innermost parenthesis close one by one
after_level_front : (n : ℕ) (h : Head) (t : Tests) (ys : List Level) → t.outer ≡ ys → length ys ≡ n → Completable (Filtering (record { head = h; tests = t; due = filter.More }))
after_level_front n h t [] is len = let e = end_level h t is in by _ (Done e.0) End e.1 ([], e.0, refl)
after_level_front zero h t (y ∷ ys) is len = absurd (omega arith)
after_level_front (suc n) h t (y ∷ ys) is len =
    let p = last_of y ys in
    by _ _ (Sign signs.Close) (closed_level h t p.0 p.1 (is ∙ p.2)) (after_level_front n h (around t p.0 p.1) p.0 refl (omega (arith, p.3)))

after_front : (h : Head) (t : Tests) → Completable (Filtering (record { head = h; tests = t; due = filter.More }))
after_front h t = after_level_front (length t.outer) h t t.outer refl refl

-- the steps of a condition
filter_steps : ℕ
unfolding next filter_next member left op null compared more at_end finished with_test with_member with_and with_or closed sum_step operand_in negative_operand literal_in text_in column_in name_in same_keyword same_sign
filter_steps = 0

is_front : (h : Head) (t : Tests) (s : Sum) → Completable (Filtering (record { head = h; tests = t; due = filter.Is s }))
unfolding filter_steps
is_front h t s = by _ _ (Keyword words.Null) refl (after_front _ _)

is_not_front : (h : Head) (t : Tests) (s : Sum) → Completable (Filtering (record { head = h; tests = t; due = filter.IsNot s }))
unfolding filter_steps
is_not_front h t s = by _ _ (Keyword words.Null) refl (after_front _ _)

ready_left_front : (h : Head) (t : Tests) (s : Sum) → Completable (Filtering (record { head = h; tests = t; due = filter.Left (sums.Ready s) }))
unfolding filter_steps
ready_left_front h t s = by _ _ (Keyword words.Is) refl (is_front _ _ _)

first_left_front : (h : Head) (t : Tests) → Completable (Filtering (record { head = h; tests = t; due = filter.Left sums.First }))
unfolding filter_steps
first_left_front h t = by _ _ (Number 1) refl (ready_left_front _ _ _)

first_number_left_front : (h : Head) (t : Tests) → Completable (Filtering (record { head = h; tests = t; due = filter.Left sums.FirstNumber }))
unfolding filter_steps
first_number_left_front h t = by _ _ (Number 1) refl (ready_left_front _ _ _)

next_left_front : (h : Head) (t : Tests) (s : Sum) (m : Bool) → Completable (Filtering (record { head = h; tests = t; due = filter.Left (sums.Next s m) }))
unfolding filter_steps
next_left_front h t s m = by _ _ (Number 1) refl (ready_left_front _ _ _)

next_number_left_front : (h : Head) (t : Tests) (s : Sum) (m : Bool) → Completable (Filtering (record { head = h; tests = t; due = filter.Left (sums.NextNumber s m) }))
unfolding filter_steps
next_number_left_front h t s m = by _ _ (Number 1) refl (ready_left_front _ _ _)

member_front : (h : Head) (t : Tests) → Completable (Filtering (record { head = h; tests = t; due = filter.Member }))
unfolding filter_steps
member_front h t = by _ _ (Number 1) refl (ready_left_front _ _ _)

ready_right_front : (h : Head) (t : Tests) (l : Sum) (o : Op) (s : Sum) → Completable (Filtering (record { head = h; tests = t; due = filter.Right l o (sums.Ready s) }))
unfolding filter_steps
ready_right_front h t l o s = by _ _ (Keyword words.And) refl (member_front _ _)

first_right_front : (h : Head) (t : Tests) (l : Sum) (o : Op) → Completable (Filtering (record { head = h; tests = t; due = filter.Right l o sums.First }))
unfolding filter_steps
first_right_front h t l o = by _ _ (Number 1) refl (ready_right_front _ _ _ _ _)

first_number_right_front : (h : Head) (t : Tests) (l : Sum) (o : Op) → Completable (Filtering (record { head = h; tests = t; due = filter.Right l o sums.FirstNumber }))
unfolding filter_steps
first_number_right_front h t l o = by _ _ (Number 1) refl (ready_right_front _ _ _ _ _)

next_right_front : (h : Head) (t : Tests) (l : Sum) (o : Op) (s : Sum) (m : Bool) → Completable (Filtering (record { head = h; tests = t; due = filter.Right l o (sums.Next s m) }))
unfolding filter_steps
next_right_front h t l o s m = by _ _ (Number 1) refl (ready_right_front _ _ _ _ _)

next_number_right_front : (h : Head) (t : Tests) (l : Sum) (o : Op) (s : Sum) (m : Bool) → Completable (Filtering (record { head = h; tests = t; due = filter.Right l o (sums.NextNumber s m) }))
unfolding filter_steps
next_number_right_front h t l o s m = by _ _ (Number 1) refl (ready_right_front _ _ _ _ _)

filter_front : (h : Head) (t : Tests) (due : FilterDue) → Completable (Filtering (record { head = h; tests = t; due = due }))
filter_front h t filter.Member = member_front h t
filter_front h t (filter.Left sums.First) = first_left_front h t
filter_front h t (filter.Left sums.FirstNumber) = first_number_left_front h t
filter_front h t (filter.Left (sums.Ready s)) = ready_left_front h t s
filter_front h t (filter.Left (sums.Next s m)) = next_left_front h t s m
filter_front h t (filter.Left (sums.NextNumber s m)) = next_number_left_front h t s m
filter_front h t (filter.Is s) = is_front h t s
filter_front h t (filter.IsNot s) = is_not_front h t s
filter_front h t (filter.Right l o sums.First) = first_right_front h t l o
filter_front h t (filter.Right l o sums.FirstNumber) = first_number_right_front h t l o
filter_front h t (filter.Right l o (sums.Ready s)) = ready_right_front h t l o s
filter_front h t (filter.Right l o (sums.Next s m)) = next_right_front h t l o s m
filter_front h t (filter.Right l o (sums.NextNumber s m)) = next_number_right_front h t l o s m
filter_front h t filter.More = after_front h t

-- the steps of first words
opening_steps : ℕ
unfolding next opening_next name_in same_keyword same_sign
opening_steps = 0

create_name_front : Completable (Opening openings.CreateName)
unfolding opening_steps
create_name_front = by _ _ (Name a) refl (create_front _ _)

create_table_front : Completable (Opening openings.CreateTable)
unfolding opening_steps
create_table_front = by _ _ (Keyword words.Table) refl (create_name_front)

drop_name_front : Completable (Opening openings.DropName)
unfolding opening_steps
drop_name_front = by _ _ (Name a) refl (whole_front _)

drop_table_front : Completable (Opening openings.DropTable)
unfolding opening_steps
drop_table_front = by _ _ (Keyword words.Table) refl (drop_name_front)

insert_name_front : Completable (Opening openings.InsertName)
unfolding opening_steps
insert_name_front = by _ _ (Name a) refl (insert_front _ _ _ _)

insert_into_front : Completable (Opening openings.InsertInto)
unfolding opening_steps
insert_into_front = by _ _ (Keyword words.Into) refl (insert_name_front)

update_set_front : (t : List ℕ) → Completable (Opening (openings.UpdateSet t))
unfolding opening_steps
update_set_front t = by _ _ (Keyword words.Set) refl (update_front _ _ _)

update_name_front : Completable (Opening openings.UpdateName)
unfolding opening_steps
update_name_front = by _ _ (Name a) refl (update_set_front _)

delete_name_front : Completable (Opening openings.DeleteName)
unfolding opening_steps
delete_name_front = by _ _ (Name a) refl (head_front _)

delete_from_front : Completable (Opening openings.DeleteFrom)
unfolding opening_steps
delete_from_front = by _ _ (Keyword words.From) refl (delete_name_front)

opening_front : (o : OpeningPart) → Completable (Opening o)
opening_front openings.CreateTable = create_table_front
opening_front openings.CreateName = create_name_front
opening_front openings.DropTable = drop_table_front
opening_front openings.DropName = drop_name_front
opening_front openings.InsertInto = insert_into_front
opening_front openings.InsertName = insert_name_front
opening_front openings.UpdateName = update_name_front
opening_front (openings.UpdateSet t) = update_set_front t
opening_front openings.DeleteFrom = delete_from_front
opening_front openings.DeleteName = delete_name_front

-- the steps of a statement on transactions
transaction_steps : ℕ
unfolding next transaction_next to_name column_in name_in same_keyword same_sign
transaction_steps = 0

begin_front : Completable (Transacting transactions.BeginWork)
unfolding transaction_steps
begin_front = by _ _ (Keyword words.Work) refl (whole_front _)

start_front : Completable (Transacting transactions.StartTransaction)
unfolding transaction_steps
start_front = by _ _ (Keyword words.Transaction) refl (whole_front _)

commit_front : Completable (Transacting transactions.CommitWork)
unfolding transaction_steps
commit_front = by _ _ (Keyword words.Work) refl (whole_front _)

to_name_front : Completable (Transacting transactions.ToName)
unfolding transaction_steps
to_name_front = by _ _ (Name a) refl (whole_front _)

to_savepoint_front : Completable (Transacting transactions.ToSavepoint)
unfolding transaction_steps
to_savepoint_front = by _ _ (Name a) refl (whole_front _)

rollback_to_front : Completable (Transacting transactions.RollbackTo)
unfolding transaction_steps
rollback_to_front = by _ _ (Keyword words.To) refl (to_savepoint_front)

rollback_front : Completable (Transacting transactions.RollbackWork)
unfolding transaction_steps
rollback_front = by _ _ (Keyword words.To) refl (to_savepoint_front)

savepoint_front : Completable (Transacting transactions.SavepointName)
unfolding transaction_steps
savepoint_front = by _ _ (Name a) refl (whole_front _)

release_name_front : Completable (Transacting transactions.ReleaseName)
unfolding transaction_steps
release_name_front = by _ _ (Name a) refl (whole_front _)

release_front : Completable (Transacting transactions.ReleaseSavepoint)
unfolding transaction_steps
release_front = by _ _ (Keyword words.Savepoint) refl (release_name_front)

transaction_front : (o : TransactingPart) → Completable (Transacting o)
transaction_front transactions.BeginWork = begin_front
transaction_front transactions.StartTransaction = start_front
transaction_front transactions.CommitWork = commit_front
transaction_front transactions.RollbackWork = rollback_front
transaction_front transactions.RollbackTo = rollback_to_front
transaction_front transactions.ToSavepoint = to_savepoint_front
transaction_front transactions.ToName = to_name_front
transaction_front transactions.SavepointName = savepoint_front
transaction_front transactions.ReleaseSavepoint = release_front
transaction_front transactions.ReleaseName = release_name_front

-- the steps of a statement on plugins
plugin_steps : ℕ
unfolding next plugin_next engine_in name_in text_in same_keyword
plugin_steps = 0

file_front : (n : List ℕ) → Completable (Plugging (plugs.InstallFile n))
unfolding plugin_steps
file_front n = by _ _ (Text []) refl (whole_front _)

soname_front : (n : List ℕ) → Completable (Plugging (plugs.InstallSoname n))
unfolding plugin_steps
soname_front n = by _ _ (Keyword words.Soname) refl (file_front _)

install_name_front : Completable (Plugging plugs.InstallName)
unfolding plugin_steps
install_name_front = by _ _ (Name a) refl (soname_front _)

install_front : Completable (Plugging plugs.InstallPlugin)
unfolding plugin_steps
install_front = by _ _ (Keyword words.Plugin) refl (install_name_front)

uninstall_name_front : Completable (Plugging plugs.UninstallName)
unfolding plugin_steps
uninstall_name_front = by _ _ (Name a) refl (whole_front _)

uninstall_front : Completable (Plugging plugs.UninstallPlugin)
unfolding plugin_steps
uninstall_front = by _ _ (Keyword words.Plugin) refl (uninstall_name_front)

plugin_front : (o : PluggingPart) → Completable (Plugging o)
plugin_front plugs.InstallPlugin = install_front
plugin_front plugs.InstallName = install_name_front
plugin_front (plugs.InstallSoname n) = soname_front n
plugin_front (plugs.InstallFile n) = file_front n
plugin_front plugs.UninstallPlugin = uninstall_front
plugin_front plugs.UninstallName = uninstall_name_front

start_all_front : Completable Start
unfolding next start
start_all_front = by _ _ (Keyword words.Begin) refl begin_front

pub completable : (r : Reading) → Completable r
completable Start = start_all_front
completable (Opening o) = opening_front o
completable (Transacting o) = transaction_front o
completable (Plugging o) = plugin_front o
completable (Creating c) = create_front c.head c.due
completable (Inserting i) = insert_front i.table i.rows i.values i.due
completable (Selecting s) = select_front s.columns s.due
completable (Updating u) = update_front u.table u.sets u.due
completable (Headed h) = head_front h
completable (Filtering f) = filter_front f.head f.tests f.due
completable (Whole s) = whole_front s
completable (Closed s) = closed_front s
completable (Done s) = ([], s, refl)
