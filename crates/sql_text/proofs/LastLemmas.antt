-- What ends a text ends a statement or is refused.
use Rattle.std.proofs.Common.{◌≡◌, ℕ, List, [], ◌∷◌, Option, Some, None, Ok, Err, true}
use Rattle.sql_text.specs.declared.create.CreateDue.TheVariants as create
use Rattle.sql_text.specs.declared.create.ColumnDue.{ColumnDue}
use Rattle.sql_text.specs.declared.create.ColumnDue.TheVariants as columns
use Rattle.sql_text.specs.declared.create.KeyDue.{KeyDue}
use Rattle.sql_text.specs.declared.create.KeyDue.TheVariants as keys
use Rattle.sql_text.specs.declared.create.CreateHead.{CreateHead}
use Rattle.sql_text.specs.declared.create.CreateDue.{CreateDue}
use Rattle.sql_text.specs.declared.filter.Head.{Head}
use Rattle.sql_text.specs.declared.filter.Tests.{Tests}
use Rattle.sql_text.specs.declared.filter.Level.{Level}
use Rattle.sql_text.specs.declared.filter.FilterDue.{FilterDue}
use Rattle.sql_text.specs.declared.filter.FilterDue.TheVariants as filter
use Rattle.sql_text.specs.declared.insert.Inserting.{Inserting as InsertPart}
use Rattle.sql_text.specs.declared.insert.InsertDue.{InsertDue}
use Rattle.sql_text.specs.declared.insert.InsertDue.TheVariants as insert
use Rattle.sql_text.specs.declared.lexeme.Lexeme.{Lexeme}
use Rattle.sql_text.specs.declared.lexeme.Lexeme.TheVariants.{Keyword, Name, Number, Text, Sign, Minus, End, Bad, BadText}
use Rattle.sql_text.specs.declared.opening.Opening.TheVariants as openings
use Rattle.sql_text.specs.declared.opening.Opening.{Opening as OpeningPart}
use Rattle.sql_text.specs.declared.plugin.Plugging.TheVariants as plugs
use Rattle.sql_text.specs.declared.plugin.Plugging.{Plugging as PluggingPart}
use Rattle.sql_text.specs.declared.transaction.Transacting.{Transacting as TransactingPart}
use Rattle.sql_text.specs.declared.transaction.Transacting.TheVariants as transactions
use Rattle.sql_text.specs.declared.reading.Reading.{Reading}
use Rattle.sql_text.specs.declared.reading.Reading.TheVariants.{Start, Opening, Transacting, Plugging, Creating, Inserting}
use Rattle.sql_text.specs.declared.reading.Reading.TheVariants.{Selecting, Updating, Head as Headed, Filtering, Whole, Closed, Done}
use Rattle.sql_text.specs.declared.select.Selecting.{Selecting as SelectPart}
use Rattle.sql_text.specs.declared.select.SelectDue.{SelectDue}
use Rattle.sql_text.specs.declared.select.SelectDue.TheVariants as select
use Rattle.sql_text.specs.declared.sum.Summing.{Summing}
use Rattle.sql_text.specs.declared.sum.Summing.TheVariants as sums
use Rattle.sql_text.specs.declared.update.UpdateDue.{UpdateDue}
use Rattle.sql_text.specs.declared.update.UpdateDue.TheVariants as update
use Rattle.sql_text.specs.Lexemes.{is_last}
use Rattle.sql_text.specs.Steps.{Step}
use Rattle.sql_text.specs.Create.{at as create_at, next as create_next, item, after_column, key_column, key_close, engine_name}
use Rattle.sql_text.specs.Filter.{at as filter_at, next as filter_next, with_member, with_test, with_and, with_or, at_level, at_end, more, op, left, member, null, compared, finished, head_next}
use Rattle.sql_text.specs.Insert.{at as insert_at, next as insert_next, value, number}
use Rattle.sql_text.specs.Opening.{next as opening_next}
use Rattle.sql_text.specs.Plugins.{next as plugin_next}
use Rattle.sql_text.specs.Reading.{next, start}
use Rattle.sql_text.specs.Select.{at as select_at, next as select_next, column as select_column, table as select_table, all_table}
use Rattle.sql_text.specs.Run.{done_with}
use Rattle.sql_text.specs.Steps.{name_in, column_in, engine_in, text_in}
use Rattle.sql_text.specs.Sums.{literal_in, operand_in, negative_operand, sum_step}
use Rattle.sql_text.specs.Transactions.{next as transaction_next, to_name}
use Rattle.sql_text.specs.Update.{at as update_at, next as update_next, column as update_column}
use Rattle.sql_text.specs.declared.statement.Assign.{Assign}
use Rattle.sql_text.specs.declared.statement.Statement.{Statement}

-- a statement was read to its end
abbrev pub WasRead : Option Statement → Type 0
WasRead (Some statement) = Unit {0}
WasRead None = ⊥

-- if the lexeme is read, then the statement to its end
abbrev pub EndsWell : Step Reading → Type 0
EndsWell (Ok reading) = WasRead (done_with reading)
EndsWell (Err e) = Unit {0}

-- which lexeme ends a text
data Last : Type 0 where
  the_end : Last
  bad : Last
  bad_text : ℕ → Last

-- that lexeme
abbrev last_lexeme : Last → Lexeme
last_lexeme the_end = End
last_lexeme bad = Bad
last_lexeme (bad_text place) = BadText place

opening_last : (o : OpeningPart) (l : Last) → EndsWell (opening_next o (last_lexeme l))
unfolding opening_next name_in
opening_last openings.CreateTable the_end = tt
opening_last openings.CreateTable bad = tt
opening_last openings.CreateTable (bad_text p) = tt
opening_last openings.CreateName the_end = tt
opening_last openings.CreateName bad = tt
opening_last openings.CreateName (bad_text p) = tt
opening_last openings.DropTable the_end = tt
opening_last openings.DropTable bad = tt
opening_last openings.DropTable (bad_text p) = tt
opening_last openings.DropName the_end = tt
opening_last openings.DropName bad = tt
opening_last openings.DropName (bad_text p) = tt
opening_last openings.InsertInto the_end = tt
opening_last openings.InsertInto bad = tt
opening_last openings.InsertInto (bad_text p) = tt
opening_last openings.InsertName the_end = tt
opening_last openings.InsertName bad = tt
opening_last openings.InsertName (bad_text p) = tt
opening_last openings.UpdateName the_end = tt
opening_last openings.UpdateName bad = tt
opening_last openings.UpdateName (bad_text p) = tt
opening_last (openings.UpdateSet t) the_end = tt
opening_last (openings.UpdateSet t) bad = tt
opening_last (openings.UpdateSet t) (bad_text p) = tt
opening_last openings.DeleteFrom the_end = tt
opening_last openings.DeleteFrom bad = tt
opening_last openings.DeleteFrom (bad_text p) = tt
opening_last openings.DeleteName the_end = tt
opening_last openings.DeleteName bad = tt
opening_last openings.DeleteName (bad_text p) = tt

transaction_last : (o : TransactingPart) (l : Last) → EndsWell (transaction_next o (last_lexeme l))
unfolding transaction_next to_name column_in name_in
transaction_last transactions.BeginWork the_end = tt
transaction_last transactions.BeginWork bad = tt
transaction_last transactions.BeginWork (bad_text p) = tt
transaction_last transactions.StartTransaction the_end = tt
transaction_last transactions.StartTransaction bad = tt
transaction_last transactions.StartTransaction (bad_text p) = tt
transaction_last transactions.CommitWork the_end = tt
transaction_last transactions.CommitWork bad = tt
transaction_last transactions.CommitWork (bad_text p) = tt
transaction_last transactions.RollbackWork the_end = tt
transaction_last transactions.RollbackWork bad = tt
transaction_last transactions.RollbackWork (bad_text p) = tt
transaction_last transactions.RollbackTo the_end = tt
transaction_last transactions.RollbackTo bad = tt
transaction_last transactions.RollbackTo (bad_text p) = tt
transaction_last transactions.ToSavepoint the_end = tt
transaction_last transactions.ToSavepoint bad = tt
transaction_last transactions.ToSavepoint (bad_text p) = tt
transaction_last transactions.ToName the_end = tt
transaction_last transactions.ToName bad = tt
transaction_last transactions.ToName (bad_text p) = tt
transaction_last transactions.SavepointName the_end = tt
transaction_last transactions.SavepointName bad = tt
transaction_last transactions.SavepointName (bad_text p) = tt
transaction_last transactions.ReleaseSavepoint the_end = tt
transaction_last transactions.ReleaseSavepoint bad = tt
transaction_last transactions.ReleaseSavepoint (bad_text p) = tt
transaction_last transactions.ReleaseName the_end = tt
transaction_last transactions.ReleaseName bad = tt
transaction_last transactions.ReleaseName (bad_text p) = tt

plugin_last : (o : PluggingPart) (l : Last) → EndsWell (plugin_next o (last_lexeme l))
unfolding plugin_next engine_in name_in text_in
plugin_last plugs.InstallPlugin the_end = tt
plugin_last plugs.InstallPlugin bad = tt
plugin_last plugs.InstallPlugin (bad_text p) = tt
plugin_last plugs.InstallName the_end = tt
plugin_last plugs.InstallName bad = tt
plugin_last plugs.InstallName (bad_text p) = tt
plugin_last (plugs.InstallSoname n) the_end = tt
plugin_last (plugs.InstallSoname n) bad = tt
plugin_last (plugs.InstallSoname n) (bad_text p) = tt
plugin_last (plugs.InstallFile n) the_end = tt
plugin_last (plugs.InstallFile n) bad = tt
plugin_last (plugs.InstallFile n) (bad_text p) = tt
plugin_last plugs.UninstallPlugin the_end = tt
plugin_last plugs.UninstallPlugin bad = tt
plugin_last plugs.UninstallPlugin (bad_text p) = tt
plugin_last plugs.UninstallName the_end = tt
plugin_last plugs.UninstallName bad = tt
plugin_last plugs.UninstallName (bad_text p) = tt

column_last : (h : CreateHead) (n : List ℕ) (due : ColumnDue) (l : Last) → EndsWell (create_at h (create.Column n due) (last_lexeme l))
column_last h n columns.Kind the_end = tt
column_last h n columns.Kind bad = tt
column_last h n columns.Kind (bad_text p) = tt
column_last h n columns.Open the_end = tt
column_last h n columns.Open bad = tt
column_last h n columns.Open (bad_text p) = tt
column_last h n columns.Length the_end = tt
column_last h n columns.Length bad = tt
column_last h n columns.Length (bad_text p) = tt
column_last h n (columns.Close k) the_end = tt
column_last h n (columns.Close k) bad = tt
column_last h n (columns.Close k) (bad_text p) = tt

key_last : (h : CreateHead) (due : KeyDue) (l : Last) → EndsWell (create_at h (create.Key due) (last_lexeme l))
unfolding key_column column_in name_in
key_last h keys.Key the_end = tt
key_last h keys.Key bad = tt
key_last h keys.Key (bad_text p) = tt
key_last h keys.Open the_end = tt
key_last h keys.Open bad = tt
key_last h keys.Open (bad_text p) = tt
key_last h keys.Column the_end = tt
key_last h keys.Column bad = tt
key_last h keys.Column (bad_text p) = tt

create_last : (h : CreateHead) (due : CreateDue) (l : Last) → EndsWell (create_at h due (last_lexeme l))
unfolding item after_column key_column key_close engine_name column_in engine_in name_in
create_last h create.Open the_end = tt
create_last h create.Open bad = tt
create_last h create.Open (bad_text p) = tt
create_last h create.Item the_end = tt
create_last h create.Item bad = tt
create_last h create.Item (bad_text p) = tt
create_last h (create.Column n due) l = column_last h n due l
create_last h (create.Options c) the_end = tt
create_last h (create.Options c) bad = tt
create_last h (create.Options c) (bad_text p) = tt
create_last h (create.OptionNull c) the_end = tt
create_last h (create.OptionNull c) bad = tt
create_last h (create.OptionNull c) (bad_text p) = tt
create_last h (create.OptionKey c) the_end = tt
create_last h (create.OptionKey c) bad = tt
create_last h (create.OptionKey c) (bad_text p) = tt
create_last h (create.Key due) l = key_last h due l
create_last h (create.KeyClose n) the_end = tt
create_last h (create.KeyClose n) bad = tt
create_last h (create.KeyClose n) (bad_text p) = tt
create_last h create.More the_end = tt
create_last h create.More bad = tt
create_last h create.More (bad_text p) = tt
create_last h create.Engine the_end = tt
create_last h create.Engine bad = tt
create_last h create.Engine (bad_text p) = tt
create_last h create.Equal the_end = tt
create_last h create.Equal bad = tt
create_last h create.Equal (bad_text p) = tt
create_last h create.EngineName the_end = tt
create_last h create.EngineName bad = tt
create_last h create.EngineName (bad_text p) = tt

insert_last : (i : InsertPart) (due : InsertDue) (l : Last) → EndsWell (insert_at i due (last_lexeme l))
unfolding value number literal_in text_in
insert_last i insert.Values the_end = tt
insert_last i insert.Values bad = tt
insert_last i insert.Values (bad_text p) = tt
insert_last i insert.Open the_end = tt
insert_last i insert.Open bad = tt
insert_last i insert.Open (bad_text p) = tt
insert_last i insert.Value the_end = tt
insert_last i insert.Value bad = tt
insert_last i insert.Value (bad_text p) = tt
insert_last i insert.Number the_end = tt
insert_last i insert.Number bad = tt
insert_last i insert.Number (bad_text p) = tt
insert_last i insert.More the_end = tt
insert_last i insert.More bad = tt
insert_last i insert.More (bad_text p) = tt
insert_last i insert.Rows the_end = tt
insert_last i insert.Rows bad = tt
insert_last i insert.Rows (bad_text p) = tt

select_last : (s : SelectPart) (due : SelectDue) (l : Last) → EndsWell (select_at s due (last_lexeme l))
unfolding select_column select_table all_table column_in name_in
select_last s select.Columns the_end = tt
select_last s select.Columns bad = tt
select_last s select.Columns (bad_text p) = tt
select_last s select.Column the_end = tt
select_last s select.Column bad = tt
select_last s select.Column (bad_text p) = tt
select_last s select.More the_end = tt
select_last s select.More bad = tt
select_last s select.More (bad_text p) = tt
select_last s select.AllFrom the_end = tt
select_last s select.AllFrom bad = tt
select_last s select.AllFrom (bad_text p) = tt
select_last s select.AllTable the_end = tt
select_last s select.AllTable bad = tt
select_last s select.AllTable (bad_text p) = tt
select_last s select.Table the_end = tt
select_last s select.Table bad = tt
select_last s select.Table (bad_text p) = tt

head_last : (h : Head) (l : Last) → EndsWell (head_next h (last_lexeme l))
head_last h the_end = tt
head_last h bad = tt
head_last h (bad_text p) = tt

update_last : (t : List ℕ) (a : List Assign) (due : UpdateDue) (l : Last) → EndsWell (update_at t a due (last_lexeme l))
unfolding update_column sum_step operand_in negative_operand literal_in text_in column_in name_in
update_last t a update.Column the_end = tt
update_last t a update.Column bad = tt
update_last t a update.Column (bad_text p) = tt
update_last t a (update.Equal n) the_end = tt
update_last t a (update.Equal n) bad = tt
update_last t a (update.Equal n) (bad_text p) = tt
update_last t a (update.Sum n sums.First) the_end = tt
update_last t a (update.Sum n sums.First) bad = tt
update_last t a (update.Sum n sums.First) (bad_text p) = tt
update_last t a (update.Sum n sums.FirstNumber) the_end = tt
update_last t a (update.Sum n sums.FirstNumber) bad = tt
update_last t a (update.Sum n sums.FirstNumber) (bad_text p) = tt
update_last t a (update.Sum n (sums.Ready s)) the_end = tt
update_last t a (update.Sum n (sums.Ready s)) bad = tt
update_last t a (update.Sum n (sums.Ready s)) (bad_text p) = tt
update_last t a (update.Sum n (sums.Next s m)) the_end = tt
update_last t a (update.Sum n (sums.Next s m)) bad = tt
update_last t a (update.Sum n (sums.Next s m)) (bad_text p) = tt
update_last t a (update.Sum n (sums.NextNumber s m)) the_end = tt
update_last t a (update.Sum n (sums.NextNumber s m)) bad = tt
update_last t a (update.Sum n (sums.NextNumber s m)) (bad_text p) = tt

level_last : (h : Head) (t : Tests) (outer : List Level) (l : Last) → EndsWell (at_level h t outer (last_lexeme l))
unfolding finished with_or with_and
level_last h t [] the_end = tt
level_last h t [] bad = tt
level_last h t [] (bad_text p) = tt
level_last h t (x ∷ xs) the_end = tt
level_last h t (x ∷ xs) bad = tt
level_last h t (x ∷ xs) (bad_text p) = tt

left_last : (h : Head) (t : Tests) (s : Summing) (l : Last) → EndsWell (filter_at h t (filter.Left s) (last_lexeme l))
unfolding left op sum_step operand_in negative_operand literal_in text_in column_in name_in
left_last h t sums.First the_end = tt
left_last h t sums.First bad = tt
left_last h t sums.First (bad_text p) = tt
left_last h t sums.FirstNumber the_end = tt
left_last h t sums.FirstNumber bad = tt
left_last h t sums.FirstNumber (bad_text p) = tt
left_last h t (sums.Ready s) the_end = tt
left_last h t (sums.Ready s) bad = tt
left_last h t (sums.Ready s) (bad_text p) = tt
left_last h t (sums.Next s m) the_end = tt
left_last h t (sums.Next s m) bad = tt
left_last h t (sums.Next s m) (bad_text p) = tt
left_last h t (sums.NextNumber s m) the_end = tt
left_last h t (sums.NextNumber s m) bad = tt
left_last h t (sums.NextNumber s m) (bad_text p) = tt

filter_last : (h : Head) (t : Tests) (due : FilterDue) (l : Last) → EndsWell (filter_at h t due (last_lexeme l))
unfolding member left op null compared more at_end with_test with_member sum_step operand_in negative_operand literal_in text_in column_in name_in
filter_last h t filter.Member the_end = tt
filter_last h t filter.Member bad = tt
filter_last h t filter.Member (bad_text p) = tt
filter_last h t (filter.Left s) l = left_last h t s l
filter_last h t (filter.Is s) the_end = tt
filter_last h t (filter.Is s) bad = tt
filter_last h t (filter.Is s) (bad_text p) = tt
filter_last h t (filter.IsNot s) the_end = tt
filter_last h t (filter.IsNot s) bad = tt
filter_last h t (filter.IsNot s) (bad_text p) = tt
filter_last h t (filter.Right q o sums.First) the_end = tt
filter_last h t (filter.Right q o sums.First) bad = tt
filter_last h t (filter.Right q o sums.First) (bad_text p) = tt
filter_last h t (filter.Right q o sums.FirstNumber) the_end = tt
filter_last h t (filter.Right q o sums.FirstNumber) bad = tt
filter_last h t (filter.Right q o sums.FirstNumber) (bad_text p) = tt
filter_last h t (filter.Right q o (sums.Ready r)) the_end = level_last h _ t.outer the_end
filter_last h t (filter.Right q o (sums.Ready r)) bad = level_last h _ t.outer bad
filter_last h t (filter.Right q o (sums.Ready r)) (bad_text p) = level_last h _ t.outer (bad_text p)
filter_last h t (filter.Right q o (sums.Next s m)) the_end = tt
filter_last h t (filter.Right q o (sums.Next s m)) bad = tt
filter_last h t (filter.Right q o (sums.Next s m)) (bad_text p) = tt
filter_last h t (filter.Right q o (sums.NextNumber s m)) the_end = tt
filter_last h t (filter.Right q o (sums.NextNumber s m)) bad = tt
filter_last h t (filter.Right q o (sums.NextNumber s m)) (bad_text p) = tt
filter_last h t filter.More the_end = level_last h t t.outer the_end
filter_last h t filter.More bad = level_last h t t.outer bad
filter_last h t filter.More (bad_text p) = level_last h t t.outer (bad_text p)

reading_last : (r : Reading) (l : Last) → EndsWell (next r (last_lexeme l))
unfolding next start create_next filter_next insert_next select_next update_next
reading_last Start the_end = tt
reading_last Start bad = tt
reading_last Start (bad_text p) = tt
reading_last (Opening o) l = opening_last o l
reading_last (Transacting o) l = transaction_last o l
reading_last (Plugging o) l = plugin_last o l
reading_last (Creating c) l = create_last c.head c.due l
reading_last (Inserting i) l = insert_last i i.due l
reading_last (Selecting s) l = select_last s s.due l
reading_last (Updating u) l = update_last u.table u.sets u.due l
reading_last (Headed h) l = head_last h l
reading_last (Filtering f) l = filter_last f.head f.tests f.due l
reading_last (Whole s) the_end = tt
reading_last (Whole s) bad = tt
reading_last (Whole s) (bad_text p) = tt
reading_last (Closed s) the_end = tt
reading_last (Closed s) bad = tt
reading_last (Closed s) (bad_text p) = tt
reading_last (Done s) l = tt

-- a lexeme that ends a text ends a statement, or is not read
pub last_ends : (r : Reading) (l : Lexeme) → is_last l ≡ true → EndsWell (next r l)
last_ends r End is = reading_last r the_end
last_ends r Bad is = reading_last r bad
last_ends r (BadText place) is = reading_last r (bad_text place)
last_ends r (Keyword k) is = absurd cc
last_ends r (Name n) is = absurd cc
last_ends r (Number n) is = absurd cc
last_ends r (Text t) is = absurd cc
last_ends r (Sign s) is = absurd cc
last_ends r (Minus m) is = absurd cc
